use Rattle.std.proofs.Common.{take}
use Rattle.gpoly.specs.Terms.{pairs_of}
use Rattle.gproduct.specs.Inside.Passing.{IsParted}
use Rattle.gproduct.proofs.split.parted.Given as goal

abbrev pub invariant-loop-term : goal.invariant-loop-term
invariant-loop-term l = IsParted l.fn.seat.algebra l.coef l.mono (pairs_of (take l.term-index l.terms)) (pairs_of l.passed.items) (pairs_of l.rest.items)
