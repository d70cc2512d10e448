use Rattle.std.proofs.Common.{◌≡◌, ◌∙◌, ◌<◌, List, ℕ, true, Ok, map, sym, subst, ap, arith}
use Rattle.std.specs.List.{list_all}
use Rattle.monomials.specs.Leading.{leading_coefficient}
use Rattle.monomials.specs.Polynomials.{Each}
use Rattle.script_model.specs.Statements.{all_pairs, is_constant}
use Rattle.script_rings.specs.Entries.{entry_for, has_entries}
use Rattle.script_rings.proofs.EntryLists.{constants-are, constants-vary, constants-below}
use Rattle.script_rings.proofs.entries.constants_for.Goals as goal

pub returns-in-Some-clause-value : goal.returns-in-Some-clause-value
returns-in-Some-clause-value c =
    let v = c.args.value.now in
    let n : ℕ = c.args.algebra.now.order.vars in
    let ps : List (ℕ × ℕ) = c.deref.result.now in
    let are : ps ≡ all_pairs n = c.deref.ensures.value ∙ c.in_ok-pairs.ensures.value ∙ ap all_pairs c.n-n.ensures.value in
    let has : has_entries n v ≡ true = ap (λ k. has_entries k v) (sym c.n-n.ensures.value) ∙ sym c.has_entries.ensures ∙ c.if-not-has_entries.false in
    let found = rw c.in-Some.is at c.in_ok-constants.ensures in
    constants-are n v (sym c.is_varying.ensures ∙ c.if-is_varying.false) has (ap (list_all (λ ij. is_constant (entry_for v ij))) (sym are) ∙ found.0)
    ∙ ap Ok (ap (map (λ ij. leading_coefficient (entry_for v ij))) (sym are) ∙ sym found.1)

pub returns-in-Some-clause-numbers : goal.returns-in-Some-clause-numbers
returns-in-Some-clause-numbers c =
    let found = rw c.in-Some.is at c.in_ok-constants.ensures in
    subst (Each (λ k. k < c.args.algebra.now.p)) (sym found.1)
    (constants-below c.args.algebra.now c.args.value.now c.requires c.deref.result.now (omega (arith, c.n-n.ensures.prime.above_one)))

pub returns-clause-value : goal.returns-clause-value
returns-clause-value c =
    let v = c.args.value.now in
    let n : ℕ = c.args.algebra.now.order.vars in
    let ps : List (ℕ × ℕ) = c.deref.result.now in
    let are : ps ≡ all_pairs n = c.deref.ensures.value ∙ c.in_ok-pairs.ensures.value ∙ ap all_pairs c.n-n.ensures.value in
    let has : has_entries n v ≡ true = ap (λ k. has_entries k v) (sym c.n-n.ensures.value) ∙ sym c.has_entries.ensures ∙ c.if-not-has_entries.false in
    let varies = rw c.in-None.is at c.in_ok-constants.ensures in
    constants-vary n v (sym c.is_varying.ensures ∙ c.if-is_varying.false) has (ap (list_all (λ ij. is_constant (entry_for v ij))) (sym are) ∙ varies)
