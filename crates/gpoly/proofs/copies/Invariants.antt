use Rattle.std.proofs.Common.{◌≡◌, take}
use Rattle.gpoly.proofs.copies.Given as goal

abbrev pub invariant-loop-poly : goal.invariant-loop-poly
invariant-loop-poly l = l.all.items ≡ take l.poly-index l.polys
