use Rattle.std.proofs.Common.{◌≡◌, take}
use Rattle.algebra.proofs.presentation.same_polynomials.Given as goal

abbrev pub invariant-loop-i : goal.invariant-loop-i
invariant-loop-i l = take l.i l.d ≡ take l.i l.e
