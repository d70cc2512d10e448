use Rattle.std.proofs.Common.{◌≡◌, map, take}
use Rattle.monomials.specs.Orders.{order_cmp}
use Rattle.monomials.specs.Polynomials.{from_terms}
use Rattle.algebra.proofs.presentation.Presentation.reordered.Given as goal

abbrev pub invariant-loop-poly : goal.invariant-loop-poly
invariant-loop-poly l =
    l.d.items ≡ map (from_terms (order_cmp l.order.rows) l.self.p) (take l.poly-index l.poly-items)
