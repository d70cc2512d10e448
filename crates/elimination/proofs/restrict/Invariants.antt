use Rattle.std.proofs.Common.{◌≡◌, ◌≤◌, ◌++◌, ℕ, drop, length}
use Rattle.monomials.specs.Polynomials.{Each, HasVars}
use Rattle.word_model.specs.Elimination.{restricted}
use Rattle.elimination.proofs.restrict.Given as goal

abbrev pub invariant-loop-poly : goal.invariant-loop-poly
invariant-loop-poly l = record {
  list : (n : ℕ) → Each (HasVars n) l.list → restricted n l.vars l.list ≡ l.kept.items ++ restricted n l.vars (drop l.poly-index l.list);
  fewer : length l.kept.items ≤ l.poly-index;
}
