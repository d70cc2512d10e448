use Rattle.std.proofs.Common.{◌≡◌, ℕ, ◌*◌, ◌-◌, ◌/◌, ◌∙◌, length, sym, ap}
use Rattle.std.proofs.Math.ListN.{length-replicate}
use Rattle.algebra.proofs.Commuting.{pairs_twice, commuting_passed}
use Rattle.algebra.proofs.Algebra.commuting.Goals as goal

pub of-presentation-requires-clause-one_number_each : goal.of-presentation-requires-clause-one_number_each
of-presentation-requires-clause-one_number_each c =
    let k : ℕ = c.args.n * (c.args.n - 1) / 2 in
    ap (λ n. 2 * n) (ap length c.in_ok-rel.ensures.numbers ∙ length-replicate {A = ℕ} k 1) ∙ pairs_twice c.args.n

pub invariant_of-result : goal.invariant_of-result
invariant_of-result c =
    let a = c.of-presentation.result in
    let vars : a.order.vars ≡ c.args.n = ap (λ a. a.order.vars) c.of-presentation.ensures ∙ c.requires in
    commuting_passed a (c.args.n * (c.args.n - 1) / 2)
    (pairs_twice c.args.n ∙ sym (ap (λ n. n * (n - 1)) vars))
    (ap (λ a. a.c) c.of-presentation.ensures ∙ c.in_ok-rel.ensures.numbers)
    (ap (λ a. a.d) c.of-presentation.ensures ∙ c.in_ok-rel.ensures.polynomials)
