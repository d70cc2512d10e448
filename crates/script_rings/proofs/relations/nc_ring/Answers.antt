use Rattle.std.proofs.Common.{◌≡◌, ◌<◌, ◌∙◌, length, sym, subst, ap}
use Rattle.std.proofs.lemmas.Result.{err_from_is_err_and}
use Rattle.monomials.specs.Polynomials.{Each}
use Rattle.word_model.specs.Words.{Algebra}
use Rattle.script_model.specs.Statements as spec
use Rattle.script_values.specs.Gives.{Gives, Stops}
use Rattle.script_rings.proofs.NewRelations.{refused_constants, refused_entries, relations_remain}
use Rattle.script_rings.proofs.relations.nc_ring.Goals as goal

pub returns-in_err-c : goal.returns-in_err-c
returns-in_err-c c =
    let R = c.args.ring.now in
    let count : c.algebra.result.now.order.vars ≡ length R.names = ap (λ (A : Algebra). A.order.vars) c.algebra.ensures ∙ c.has_names.ensures in
    let p = err_from_is_err_and c.from_residual.result c.from_residual.ensures.1 in
    rw (p.1, p.2)
    (refused_constants R c.args.c.now c.args.d.now (sym c.is_made.ensures ∙ c.if-is_made.false) c.in_err-c.field-0.0
    (subst (λ n. Stops c.in_err-c.field-0.0 (spec.constants_for n c.args.c.now)) count c.in_err-c.ensures.value))

pub returns-in_err-d : goal.returns-in_err-d
returns-in_err-d c =
    let R = c.args.ring.now in
    let count : c.algebra.result.now.order.vars ≡ length R.names = ap (λ (A : Algebra). A.order.vars) c.algebra.ensures ∙ c.has_names.ensures in
    let count_again : c.algebra-2.result.now.order.vars ≡ length R.names = ap (λ (A : Algebra). A.order.vars) c.algebra-2.ensures ∙ c.has_names.ensures in
    let p = err_from_is_err_and c.from_residual-in_err-d.result c.from_residual-in_err-d.ensures.1 in
    rw (p.1, p.2)
    (refused_entries R c.args.c.now c.args.d.now (sym c.is_made.ensures ∙ c.if-is_made.false)
    c.in_ok-c.c.items (ap (λ n. spec.constants_for n c.args.c.now) (sym count) ∙ c.in_ok-c.ensures.value) c.in_err-d.field-0.0
    (subst (λ n. Stops c.in_err-d.field-0.0 (spec.entries_for n c.args.d.now)) count_again c.in_err-d.ensures.value))

pub related-requires-clause-numbers : goal.related-requires-clause-numbers
related-requires-clause-numbers c = subst (λ (A : Algebra). Each (λ k. k < A.p) c.in_ok-c.c.items) c.algebra.ensures c.in_ok-c.ensures.numbers

pub returns : goal.returns
returns c =
    let R = c.args.ring.now in
    let count : c.algebra.result.now.order.vars ≡ length R.names = ap (λ (A : Algebra). A.order.vars) c.algebra.ensures ∙ c.has_names.ensures in
    let count_again : c.algebra-2.result.now.order.vars ≡ length R.names = ap (λ (A : Algebra). A.order.vars) c.algebra-2.ensures ∙ c.has_names.ensures in
    subst (Gives c.related.result)
    (sym
    (relations_remain R c.args.c.now c.args.d.now (sym c.is_made.ensures ∙ c.if-is_made.false)
    c.in_ok-c.c.items (ap (λ n. spec.constants_for n c.args.c.now) (sym count) ∙ c.in_ok-c.ensures.value)
    c.in_ok-d.d.items (ap (λ n. spec.entries_for n c.args.d.now) (sym count_again) ∙ c.in_ok-d.ensures.value)))
    c.related.ensures
