use Rattle.std.proofs.Common.{◌≡◌, ◌≤◌, true, false, length, sym, ap, ◌∙◌, subst, arith}
use Rattle.monomials.specs.Monomials.{lcm}
use Rattle.monomials.specs.Polynomials.{Each, HasVars}
use Rattle.monomials.specs.Leading.{leading_monomial}
use Rattle.word_model.specs.Reduction.{element}
use Rattle.word_model.specs.Jobs.{pair_lcm, is_witness}
use Rattle.pair_strategy.specs.Queues.{jobs_in}
use Rattle.pair_strategy.proofs.Monomials.{pair-vars}
use Rattle.pair_strategy.proofs.Witnesses.{witness-found, witness-absent}
use Rattle.pair_strategy.proofs.witness.chain_witness.Goals as goal

pub is_witness-requires-clause-vars : goal.is_witness-requires-clause-vars
is_witness-requires-clause-vars g c =
    let G = g.B.Elements.elements c.args.basis.now in
    let first : c.lead.result.now.mono ≡ leading_monomial (element G c.args.i) = c.lead.ensures.mono ∙ ap leading_monomial c.at.ensures in
    let second : c.lead-2.result.now.mono ≡ leading_monomial (element G c.args.j) = c.lead-2.ensures.mono ∙ ap leading_monomial c.at-2.ensures in
    let is : c.lcm-lcm.result ≡ pair_lcm G c.args.i c.args.j =
    c.lcm-lcm.ensures ∙ ap (λ m. lcm m c.lead-2.result.now.mono) first ∙ ap (lcm (leading_monomial (element G c.args.i))) second in
    let vars =
    ap length is
    ∙ pair-vars c.requires.vars.0 G c.requires.vars.1 c.args.i c.args.j c.requires.first c.requires.below c.requires.last c.requires.i_nonzero c.requires.j_nonzero in
    subst (λ n. Each (HasVars n) G) (sym vars) c.requires.vars.1

pub returns-then-is_witness : goal.returns-then-is_witness
returns-then-is_witness g c =
    let G = g.B.Elements.elements c.args.basis.now in
    let jobs = jobs_in c.args.queue.now.items in
    let here : is_witness G jobs c.args.i c.args.j c.loop-k.k ≡ true = sym c.is_witness.ensures ∙ c.if-is_witness.true in
    let high : c.loop-k.k ≤ length G = omega (arith, c.count-k-end.ensures) in
    witness-found G jobs c.args.i c.args.j c.loop-k.k c.loop-k.invariant.none c.loop-k.invariant.low high here

pub returns-else-is_witness : goal.returns-else-is_witness
returns-else-is_witness g c =
    let G = g.B.Elements.elements c.args.basis.now in
    let jobs = jobs_in c.args.queue.now.items in
    let here : is_witness G jobs c.args.i c.args.j c.loop-k.k ≡ false = sym c.is_witness.ensures ∙ c.if-is_witness.false in
    let last : length G ≤ c.loop-k.k = omega (arith, c.count-k-end.ensures) in
    witness-absent G jobs c.args.i c.args.j c.loop-k.k c.loop-k.invariant.none last here
