use Rattle.std.proofs.Common.{◌≡◌, ℕ, ◌+◌, List, length, nat_le, true, Some, ◌∙◌, ap, arith}
use Rattle.std.proofs.lemmas.Bool.{le-leb}
use Rattle.monomials.specs.Monomials.{degree, plus}
use Rattle.plural_text.specs.Readings.{power_of}
use Rattle.plural_text.proofs.Steps.{length-times, degree-times}
use Rattle.plural_text.proofs.reading.times_power.Goals as goal

-- the code's product is that with the power
times : (c : goal.After-plus) → c.plus.result ≡ plus c.args.mono.now (power_of (length c.args.mono.now) (c.args.power.place, c.args.power.exponent))
times c =
    let m = c.args.mono.now in
    let n = c.len.result in
    let size : n ≡ length m = c.len.ensures.length in
    c.plus.ensures ∙ ap (λ (w : List ℕ). plus m w)
    (c.power-power.ensures ∙ ap (λ z. power_of z (c.args.power.place, c.args.power.exponent)) size)

pub returns-clause-value : goal.returns-clause-value
returns-clause-value c =
    let e = c.args.power.exponent in
    let small : nat_le (degree c.args.mono.now + e) 4095 ≡ true = le-leb (degree c.args.mono.now + e) 4095 (omega (arith, c.degree.ensures.value)) in
    rw small (ap (λ (z : List ℕ). Some z) (times c))

pub returns-clause-vars : goal.returns-clause-vars
returns-clause-vars c = ap length (times c) ∙ length-times c.args.mono.now c.args.power.place c.args.power.exponent c.requires.place

pub returns-clause-small : goal.returns-clause-small
returns-clause-small c =
    omega (arith, ap degree (times c), degree-times c.args.mono.now c.args.power.place c.args.power.exponent c.requires.place, c.degree.ensures.value)
