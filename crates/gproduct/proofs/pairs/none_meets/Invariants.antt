use Rattle.std.proofs.Common.{take}
use Rattle.monomials.specs.Polynomials.{Each}
use Rattle.gproduct.specs.Inside.Passing.{IsFree}
use Rattle.gproduct.proofs.pairs.none_meets.Given as goal

abbrev pub invariant-loop-pair : goal.invariant-loop-pair
invariant-loop-pair l = Each (IsFree l.left l.right) (take l.pair-index l.pairs)
