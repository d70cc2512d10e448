use Rattle.std.proofs.Common.{◌≡◌, ℕ, List, ◌≤◌, ◌∙◌, sym, ap, subst, arith, length, Some, None}
use Rattle.std.proofs.lemmas.Result.{err_from_is_err_and}
use Rattle.std.proofs.lemmas.List.{length-map}
use Rattle.monomials.specs.Polynomials.{Polynomial, Each, IsPolynomial}
use Rattle.monomials.specs.WellFounded.{IsWellFounded}
use Rattle.word_model.specs.Words.{Algebra}
use Rattle.word_model.specs.Conditions.{IsGAlgebra}
use Rattle.word_model.specs.Finished.{finished, Final, FinishedList}
use Rattle.word_model.specs.Machine.{IsElement, Journal, machine}
use Rattle.word_model.specs.Ideals.{IsReducedBasis}
use Rattle.word_model.specs.Bases.{InIdeal}
use Rattle.word_model.specs.declared.records.Mode.{Mode}
use Rattle.word_model.specs.declared.records.Outcome.TheVariants.{Finished}
use Rattle.word_model.proofs.RunIdeals.{finished_reduced}
use Rattle.word_model.proofs.Letters.{Each-map}
use Rattle.word_model.proofs.Kept.{kept-sorted, length-kept}
use Rattle.algebra.proofs.MetFaults.{met_fault}
use Rattle.finish.proofs.Finishing.{nonzero_in, finished-is, finished-none}
use Rattle.finish.proofs.reduced.Goals as goal

pub of-requires-clause-elements : goal.of-requires-clause-elements
of-requires-clause-elements g c =
    let A = c.args.seat.now.algebra in
    (A.order.vars, nonzero_in A c.journal.inside.basis.items (subst (λ (J : Journal). Each (IsElement A) J.basis) (sym c.journal.view_is) c.requires.elements))

pub ascending-requires-clause-sorted : goal.ascending-requires-clause-sorted
ascending-requires-clause-sorted g c =
    let A = c.args.seat.now.algebra in
    subst (Each (IsPolynomial A.p A.order)) (sym c.in_ok-kept.ensures)
    (kept-sorted A c.journal.inside.basis.items (subst (λ (J : Journal). Each (IsElement A) J.basis) (sym c.journal.view_is) c.requires.elements))

pub ascending-requires-clause-few : goal.ascending-requires-clause-few
ascending-requires-clause-few g c =
    let few : length c.journal.inside.basis.items ≤ 4294967295 = subst (λ (J : Journal). length J.basis ≤ 4294967295) (sym c.journal.view_is) c.requires.few in
    omega (arith, ap length c.in_ok-kept.ensures, length-kept c.journal.inside.basis.items, few)

pub returns-in_err-finals-clause-over : goal.returns-in_err-finals-clause-over
returns-in_err-finals-clause-over g c =
    let A = c.args.seat.now.algebra in
    let p = err_from_is_err_and c.from_residual-in_err-finals.result c.from_residual-in_err-finals.ensures.1 in
    λ e. subst (λ (J : Journal). finished A J.basis ≡ None) c.journal.view_is
    (finished-none A c.journal.inside.basis.items _ c.in_ok-kept.ensures (c.in_err-finals.ensures.over (met_fault _ p.0 _ _ p.1 p.2 e)))

pub returns-clause-list : goal.returns-clause-list
returns-clause-list g c =
    let A = c.args.seat.now.algebra in
    subst (λ (J : Journal). finished A J.basis ≡ Some c.in_ok-split.field-0) c.journal.view_is
    (finished-is A c.journal.inside.basis.items _ c.in_ok-finals.finals.items c.in_ok-split.field-0 c.in_ok-kept.ensures c.in_ok-finals.ensures.value c.in_ok-split.ensures)

pub returns-clause-elements : goal.returns-clause-elements
returns-clause-elements g c =
    let A = c.args.seat.now.algebra in
    subst (λ (f : FinishedList). Each (IsElement A) f.list) (sym c.in_ok-split.ensures)
    (Each-map (IsElement A) (λ (x : Final). x.polynomial) c.in_ok-finals.finals.items c.in_ok-finals.ensures.finals)

pub returns-clause-one_origin_each : goal.returns-clause-one_origin_each
returns-clause-one_origin_each g c =
    subst (λ (f : FinishedList). length f.origin ≡ length f.list) (sym c.in_ok-split.ensures)
    (length-map c.in_ok-finals.finals.items (λ (x : Final). x.origin) ∙ sym (length-map c.in_ok-finals.finals.items (λ (x : Final). x.polynomial)))

pub returns-clause-one_tail_each : goal.returns-clause-one_tail_each
returns-clause-one_tail_each g c =
    subst (λ (f : FinishedList). length f.tails ≡ length f.list) (sym c.in_ok-split.ensures)
    (length-map c.in_ok-finals.finals.items (λ (x : Final). x.tail) ∙ sym (length-map c.in_ok-finals.finals.items (λ (x : Final). x.polynomial)))

pub returns-clause-reduced : goal.returns-clause-reduced
returns-clause-reduced g c =
    let A = c.args.seat.now.algebra in
    let ok : IsGAlgebra A = subst IsGAlgebra c.algebra-alg.ensures c.n-n.ensures.accepted in
    let well : IsWellFounded A.order = subst IsWellFounded (c.order.ensures ∙ ap (λ (A : Algebra). A.order) c.algebra-alg.ensures) c.order_is_well_founded.ensures.reached in
    λ gens mode budget sorted run. by A ok well gens sorted mode budget c.args.journal.now run c.requires.finished c.in_ok-split.field-0 (returns-clause-list g c)
  where
    by : (A : Algebra) → IsGAlgebra A → IsWellFounded A.order → (gens : List Polynomial) → Each (IsPolynomial A.p A.order) gens → (mode : Mode) (budget : ℕ) (J : Journal)
        → J ≡ machine A gens mode budget → J.outcome ≡ Finished → (F : FinishedList) → finished A J.basis ≡ Some F → IsReducedBasis A (InIdeal A mode gens) F.list
    by A ok well gens sorted mode budget J run end F listed =
        finished_reduced A ok gens sorted mode budget (ap (λ (J : Journal). J.outcome) (sym run) ∙ end) well F (ap (λ (J : Journal). finished A J.basis) (sym run) ∙ listed)
