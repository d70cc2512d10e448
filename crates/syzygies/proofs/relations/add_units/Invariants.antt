use Rattle.std.proofs.Common.{◌≡◌, suc, ◌++◌, drop, length}
use Rattle.monomials.specs.Polynomials.{Each}
use Rattle.word_model.specs.Syzygies.{zero_units}
use Rattle.cofactors.specs.Rows.{IsRow}
use Rattle.syzygies.proofs.relations.add_units.Given as goal

abbrev pub invariant-loop-place : goal.invariant-loop-place
invariant-loop-place l = record {
  value : l.rows.items ++ zero_units l.algebra (length l.gens) (suc l.place) (drop l.place l.gens)
      ≡ l.fn.rows.items ++ zero_units l.algebra (length l.gens) 1 l.gens;
  sorted : Each (IsRow l.algebra (length l.gens)) l.rows.items;
}
