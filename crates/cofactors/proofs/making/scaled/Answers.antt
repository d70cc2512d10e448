use Rattle.std.proofs.Common.{◌≡◌, ◌+◌, ◌++◌, ◌∷◌, [], drop, map, sym, ap, ◌∙◌, subst, arith}
use Rattle.monomials.specs.Polynomials.{Each, HasNumbers, IsPolynomial, poly_scale}
use Rattle.monomials.proofs.Keys.{Each-append}
use Rattle.monomials.proofs.Operations.{HasNumbers-polynomial}
use Rattle.cofactors.proofs.Lists.{Each-here, map-step}
use Rattle.cofactors.proofs.making.scaled.Goals as goal

pub scale-requires-clause-numbers : goal.scale-requires-clause-numbers
scale-requires-clause-numbers c =
    let A = c.args.algebra.now in
    let item = c.entry-item.result in
    subst (λ p. HasNumbers p item) (sym c.field-field.ensures)
    (HasNumbers-polynomial A.p A.order item
    (Each-here (IsPolynomial A.p A.order) c.args.entries.now c.loop-entry.entry-index item c.requires.sorted c.loop-entry-test.true (sym c.entry-item.is)))

pub loop-entry-preserved : goal.loop-entry-preserved
loop-entry-preserved c =
    let A = c.args.algebra.now in
    let k = c.loop-entry.entry-index in
    let xs = c.args.entries.now in
    let item = c.entry-item.result in
    let y = c.in_ok-scale.field-0 in
    let done = c.loop-entry.scaled.items in
    let item_is : IsPolynomial A.p A.order item = Each-here (IsPolynomial A.p A.order) xs k item c.requires.sorted c.loop-entry-test.true (sym c.entry-item.is) in
    let y_is : y ≡ poly_scale A.p c.args.scale item = c.in_ok-scale.ensures.value ∙ ap (λ p. poly_scale p c.args.scale item) c.field-field.ensures in
    let y_sorted : IsPolynomial A.p A.order y =
    subst (λ p. IsPolynomial p A.order y) c.field-field.ensures
    (c.in_ok-scale.ensures.sorted A.order (subst (λ p. IsPolynomial p A.order item) (sym c.field-field.ensures) item_is)) in
    record {
      value = ap (λ s. s ++ map (poly_scale A.p c.args.scale) (drop (k + 1) xs)) c.in_ok-push.ensures.items
          ∙ map-step (poly_scale A.p c.args.scale) xs done k (k + 1) item y c.loop-entry-test.true (omega arith) (sym c.entry-item.is) y_is
          ∙ c.loop-entry.invariant.value;
      sorted = subst (Each (IsPolynomial A.p A.order)) (sym c.in_ok-push.ensures.items) (Each-append (IsPolynomial A.p A.order) done (y ∷ []) c.loop-entry.invariant.sorted (y_sorted, tt));
    }
