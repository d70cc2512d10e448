use Rattle.std.proofs.Common.{◌≡◌}
use Rattle.gproduct.proofs.tests.keeping.all_agree.Given as goal

abbrev pub invariant-loop-k : goal.invariant-loop-k
invariant-loop-k g l = record {
  seat : l.seat.algebra ≡ l.fn.seat.algebra;
  other : l.other.algebra ≡ l.fn.other.algebra;
}
