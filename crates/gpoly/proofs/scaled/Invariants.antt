use Rattle.std.proofs.Common.{◌≡◌}
use Rattle.gpoly.proofs.InPlace.{scaled_to}
use Rattle.gpoly.proofs.scaled.Given as goal

abbrev pub invariant-loop-i : goal.invariant-loop-i
invariant-loop-i l = l.terms.items ≡ scaled_to l.field l.k l.i l.initial.terms.items
