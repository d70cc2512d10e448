use Rattle.std.proofs.Common.{◌≡◌, ◌≤◌, length}
use Rattle.monomials.specs.Monomials.{degree}
use Rattle.worked_algebras.proofs.of_numbers.Given as goal

abbrev pub invariant-loop-place : goal.invariant-loop-place
invariant-loop-place l = (length l.mono ≡ l.n) × (degree l.mono ≤ 4095)
