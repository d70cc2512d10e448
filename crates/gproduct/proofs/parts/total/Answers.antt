use Rattle.std.proofs.Common.{◌∙◌, ◌++◌, ◌∷◌, [], sym, ap, subst, arith}
use Rattle.monomials.specs.Orders.{order_cmp}
use Rattle.monomials.specs.Polynomials.{IsPolynomial, poly_add}
use Rattle.monomials.proofs.Keys.{Each-first, Each-second}
use Rattle.gproduct.specs.Inside.Parts.{sum_of, AreSorted}
use Rattle.gproduct.proofs.Sums.{but_last, plus_nothing, IsPolynomial-sum_of}
use Rattle.gproduct.proofs.parts.total.Goals as goal
use Rattle.gproduct.proofs.parts.total.Goals.{In-Some}

pub loop-part-init : goal.loop-part-init
loop-part-init c =
    let p = c.args.field in
    let order = c.args.order.now in
    record {
      parts = c.requires;
      sorted = subst (IsPolynomial p order) (sym c.zero-sum.ensures) (record { canonical = tt; vars = tt });
      sum =
          ap (poly_add (order_cmp order.rows) p (sum_of p order c.args.parts.items)) c.zero-sum.ensures
          ∙ plus_nothing p (omega (arith, c.p-p.ensures.prime.above_one)) order (sum_of p order c.args.parts.items)
          (IsPolynomial-sum_of p (omega (arith, c.p-p.ensures.prime.above_one)) order c.args.parts.items c.requires);
    }

-- the parts before the last one was taken
sorted_parts : (c : In-Some) → AreSorted c.args.field c.args.order.now (c.pop.new.self.items ++ c.in-Some.part ∷ [])
sorted_parts c = subst (AreSorted c.args.field c.args.order.now) c.in-Some.ensures.items c.loop-part.invariant.parts

pub add-requires-clause-self_sorted : goal.add-requires-clause-self_sorted
add-requires-clause-self_sorted c =
    (Each-second _ c.pop.new.self.items (c.in-Some.part ∷ []) (sorted_parts (goal.at.add-requires-clause-self_sorted c).In-Some)).0

pub loop-part-preserved : goal.loop-part-preserved
loop-part-preserved c =
    let p = c.args.field in
    let order = c.args.order.now in
    let rest = c.pop.new.self.items in
    let all : AreSorted p order (rest ++ c.in-Some.part ∷ []) = sorted_parts (goal.at.loop-part-preserved c).In-Some in
    let first : AreSorted p order rest = Each-first _ rest (c.in-Some.part ∷ []) all in
    record {
      parts = first;
      sorted = c.in_ok-sum.ensures.sorted;
      sum =
          ap (poly_add (order_cmp order.rows) p (sum_of p order rest)) c.in_ok-sum.ensures.value
          ∙ but_last p (omega (arith, c.p-p.ensures.prime.above_one)) order rest c.in-Some.part c.loop-part.sum first (Each-second _ rest (c.in-Some.part ∷ []) all).0 c.loop-part.invariant.sorted
          ∙ ap (λ fs. poly_add (order_cmp order.rows) p (sum_of p order fs) c.loop-part.sum) (sym c.in-Some.ensures.items)
          ∙ c.loop-part.invariant.sum;
    }
