use Rattle.std.proofs.Common.{◌≡◌, ◌≤◌, true, false, length, sym, ap, ◌∙◌, arith}
use Rattle.word_model.specs.Reduction.{element, lead_divides}
use Rattle.left_reduce.proofs.Divisors.{divisor-found, divisor-absent}
use Rattle.left_reduce.proofs.first_divisor.Goals as goal

pub returns-then-lead_divides : goal.returns-then-lead_divides
returns-then-lead_divides g c =
    let G = g.B.Elements.elements c.args.basis.now in
    let m = c.args.mono.now in
    let here : lead_divides (element G c.loop-k.k) m ≡ true = ap (λ f. lead_divides f m) (sym c.at.ensures) ∙ sym c.lead_divides.ensures ∙ c.if-lead_divides.true in
    let high : c.loop-k.k ≤ length G = omega (arith, c.count-k-end.ensures) in
    divisor-found G m c.loop-k.k c.loop-k.invariant.none c.loop-k.invariant.low high here

pub returns-else-lead_divides : goal.returns-else-lead_divides
returns-else-lead_divides g c =
    let G = g.B.Elements.elements c.args.basis.now in
    let m = c.args.mono.now in
    let here : lead_divides (element G c.loop-k.k) m ≡ false = ap (λ f. lead_divides f m) (sym c.at.ensures) ∙ sym c.lead_divides.ensures ∙ c.if-lead_divides.false in
    let last : length G ≤ c.loop-k.k = omega (arith, c.count-k-end.ensures) in
    divisor-absent G m c.loop-k.k c.loop-k.invariant.none last here
