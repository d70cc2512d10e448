use Rattle.std.proofs.Common.{◌≡◌, ◌++◌, drop, map}
use Rattle.monomials.specs.Polynomials.{Each, IsPolynomial, poly_scale}
use Rattle.cofactors.proofs.making.scaled.Given as goal

abbrev pub invariant-loop-entry : goal.invariant-loop-entry
invariant-loop-entry l = record {
  value : l.scaled.items ++ map (poly_scale l.algebra.p l.scale) (drop l.entry-index l.entries) ≡ map (poly_scale l.algebra.p l.scale) l.entries;
  sorted : Each (IsPolynomial l.algebra.p l.algebra.order) l.scaled.items;
}
