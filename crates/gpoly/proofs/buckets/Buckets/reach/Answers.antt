use Rattle.std.proofs.Common.{◌≡◌, List, [], ◌∷◌, ◌++◌, get_or, sym, ap, ◌∙◌, subst, arith}
use Rattle.monomials.specs.Orders.{order_cmp}
use Rattle.monomials.specs.Polynomials.{Polynomial}
use Rattle.gpoly.specs.Sums.{poly_sum, AreSorted, HasRoom}
use Rattle.gpoly.proofs.Gathered.{sum_more, AreSorted-more}
use Rattle.gpoly.proofs.Rooms.{get_or-more, HasRoom-more}
use Rattle.gpoly.proofs.buckets.Buckets.reach.Goals as goal

pub loop-alloc-preserved : goal.loop-alloc-preserved
loop-alloc-preserved c =
    let p = c.args.field in
    let o = c.args.order.now in
    let bs : List Polynomial = c.loop-alloc.self-inside.buckets.items in
    let more : c.push.new.self.items ≡ bs ++ [] ∷ [] = c.in_ok-push.ensures.items ∙ ap (λ f. bs ++ f ∷ []) c.new.ensures in
    record {
      sorted = subst (AreSorted p o) (sym more) (AreSorted-more p o bs c.loop-alloc.invariant.sorted);
      value = ap (poly_sum (order_cmp o.rows) p) more ∙ sum_more (order_cmp o.rows) p bs ∙ c.loop-alloc.invariant.value;
      room = subst HasRoom (sym more) (HasRoom-more bs (omega (arith, c.loop-alloc-test.true, c.requires.level, c.len.ensures)) c.loop-alloc.invariant.room);
      same = λ j. ap (λ fs. get_or fs j []) more ∙ get_or-more bs j ∙ c.loop-alloc.invariant.same j;
    }
