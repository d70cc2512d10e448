use Rattle.std.proofs.Common.{◌≡◌, ◌∙◌, None, sym, ap, subst}
use Rattle.std.proofs.lemmas.Result.{err_from_is_err_and}
use Rattle.word_model.specs.Words.{Algebra, normal_form}
use Rattle.word_model.specs.Conditions.{pairs_fault, relations_fault}
use Rattle.word_model.specs.Products.{product}
use Rattle.algebra.specs.Faults.{IsReported}
use Rattle.algebra.specs.Reordered.{reordered}
use Rattle.algebra.proofs.Testing.{relations_passed}
use Rattle.algebra.proofs.SortedAnew.{normal_form-reordered, product-reordered}
use Rattle.algebra.proofs.OrderFaults.{ReportsOrdering-pairs, triples_fault-reordered}
use Rattle.algebra.proofs.Algebra.reordered.Goals as goal

pub returns-in_err-test_pairs-clause-fault : goal.returns-in_err-test_pairs-clause-fault
returns-in_err-test_pairs-clause-fault c =
    let p = err_from_is_err_and c.from_residual-in_err-test_pairs.result c.from_residual-in_err-test_pairs.ensures.1 in
    let e = c.in_err-test_pairs.field-0.0 in
    let A = c.args.self.now in
    let o = c.args.order.now in
    rw (p.1, p.2)
    (ReportsOrdering-pairs A o c.requires c.n-n.ensures.accepted e
    (subst (λ (B : Algebra). IsReported (pairs_fault B) ⊥ e) (c.in_ok-presentation.ensures ∙ ap (reordered o) c.self.view_is) c.in_err-test_pairs.ensures))

-- the new relations are those of the algebra
its_relations : (c : goal.In_ok-test_pairs) → c.in_ok-presentation.presentation ≡ reordered c.args.order.now c.args.self.now
its_relations c = c.in_ok-presentation.ensures ∙ ap (reordered c.args.order.now) c.self.view_is

-- they have no fault
passed : (c : goal.In_ok-test_pairs) → relations_fault (reordered c.args.order.now c.args.self.now) ≡ None
passed c =
    relations_passed (reordered c.args.order.now c.args.self.now)
    (subst (λ (B : Algebra). pairs_fault B ≡ None) (its_relations c) c.in_ok-test_pairs.ensures)
    (triples_fault-reordered c.args.self.now c.args.order.now c.requires c.n-n.ensures.accepted)

pub invariant_of-result : goal.invariant_of-result
invariant_of-result c = subst (λ (B : Algebra). relations_fault B ≡ None) (sym (its_relations c)) (passed c)

pub returns-clause-algebra : goal.returns-clause-algebra
returns-clause-algebra c = its_relations c

pub returns-clause-accepted : goal.returns-clause-accepted
returns-clause-accepted c = passed c

pub returns-clause-normal_forms : goal.returns-clause-normal_forms
returns-clause-normal_forms c =
    λ w.
    ap (λ (B : Algebra). normal_form B w) (its_relations c)
    ∙ normal_form-reordered c.args.self.now c.args.order.now c.requires c.n-n.ensures.prime.above_one w

pub returns-clause-products : goal.returns-clause-products
returns-clause-products c =
    λ f g.
    ap (λ (B : Algebra). product B f g) (its_relations c)
    ∙ product-reordered c.args.self.now c.args.order.now c.requires c.n-n.ensures.prime.above_one f g
