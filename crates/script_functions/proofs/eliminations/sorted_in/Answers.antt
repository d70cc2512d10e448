use Rattle.std.proofs.Common.{◌≡◌, ◌∙◌, ◌+◌, [], ◌∷◌, ◌++◌, length, sym, ap, subst}
use Rattle.std.proofs.lemmas.List.{length-append}
use Rattle.monomials.specs.Orders.{RowOrder, order_cmp}
use Rattle.monomials.specs.Polynomials.{HasNumbers, IsPolynomial, from_terms}
use Rattle.monomials.proofs.Operations.{HasNumbers-polynomial}
use Rattle.script_functions.proofs.SortedLists.{polynomial_at, sorted_more, polynomials_more}
use Rattle.script_functions.proofs.eliminations.sorted_in.Goals as goal

pub loop-poly-preserved : goal.loop-poly-preserved
loop-poly-preserved c =
    let A = c.args.scope.now.ring.algebra in
    let B = c.args.algebra.now in
    let fs = c.args.polys.now in
    let f = c.poly-item.result in
    let r = c.in_ok-reorder.field-0 in
    let f_is = polynomial_at A fs c.loop-poly.poly-index f c.loop-poly-test.true c.poly-item.is c.requires.polynomials in
    let numbers : HasNumbers B.p f = subst (λ p. HasNumbers p f) (sym c.requires.field) (HasNumbers-polynomial A.p A.order f f_is) in
    let added : c.push.new.self ≡ c.loop-poly.sorted ++ r ∷ [] = c.in_ok-push.ensures.ok in
    let value : r ≡ from_terms (order_cmp B.order.rows) B.p f = c.in_ok-reorder.ensures.value B.p numbers ∙ ap (λ (o : RowOrder). from_terms (order_cmp o.rows) B.p f) c.order.ensures in
    let r_is : IsPolynomial B.p B.order r = subst (λ (o : RowOrder). IsPolynomial B.p o r) c.order.ensures (c.in_ok-reorder.ensures.sorted B.p numbers) in
    record {
      value = sorted_more B fs c.loop-poly.sorted c.push.new.self c.loop-poly.poly-index f r c.loop-poly-test.true c.poly-item.is value added c.loop-poly.invariant.value;
      polynomials = polynomials_more B c.loop-poly.sorted c.push.new.self r added c.loop-poly.invariant.polynomials r_is;
      one_each = ap length added ∙ length-append c.loop-poly.sorted (r ∷ []) ∙ ap (λ k. k + 1) c.loop-poly.invariant.one_each;
    }
