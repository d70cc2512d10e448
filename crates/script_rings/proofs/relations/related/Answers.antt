use Rattle.std.proofs.Common.{◌≡◌, ◌<◌, ◌∙◌, None, subst, ap}
use Rattle.word_model.specs.Words.{Algebra}
use Rattle.word_model.specs.Conditions.{pairs_fault, relations_fault}
use Rattle.algebra.specs.Faults.{Reports}
use Rattle.script_rings.proofs.FaultRests.{reported_rest, reported_first}
use Rattle.script_rings.proofs.NewRelations.{same_data}
use Rattle.script_rings.proofs.relations.related.Goals as goal

pub refusal_of-requires : goal.refusal_of-requires
refusal_of-requires c =
    let A : Algebra = record (c.args.ring.now.algebra) { c = c.args.relations.c.items; d = c.args.relations.d.items } in
    let p_is = c.field.ensures ∙ ap (λ (B : Algebra). B.p) c.algebra-base.ensures in
    let order_is = c.in_ok-order.ensures ∙ c.order.ensures ∙ ap (λ (B : Algebra). B.order) c.algebra-base.ensures in
    let more : 1 < A.p = subst (λ (B : Algebra). 1 < B.p) c.algebra-base.ensures c.n.ensures.prime.above_one in
    reported_rest A more (pairs_fault A ≡ None) c.in-Err.fault
    (subst (λ (B : Algebra). Reports B c.in-Err.fault) (same_data p_is order_is A.c A.d) c.in-Err.ensures.fault)

pub returns-in-Err : goal.returns-in-Err
returns-in-Err c =
    let A : Algebra = record (c.args.ring.now.algebra) { c = c.args.relations.c.items; d = c.args.relations.d.items } in
    let p_is = c.field.ensures ∙ ap (λ (B : Algebra). B.p) c.algebra-base.ensures in
    let order_is = c.in_ok-order.ensures ∙ c.order.ensures ∙ ap (λ (B : Algebra). B.order) c.algebra-base.ensures in
    c.refusal_of.ensures A (relations_fault A)
    (reported_first (relations_fault A) (pairs_fault A ≡ None) c.in-Err.fault
    (subst (λ (B : Algebra). Reports B c.in-Err.fault) (same_data p_is order_is A.c A.d) c.in-Err.ensures.fault))
