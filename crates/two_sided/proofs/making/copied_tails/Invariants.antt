use Rattle.std.proofs.Common.{◌≡◌, ◌++◌, drop}
use Rattle.two_sided.proofs.making.copied_tails.Given as goal

abbrev pub invariant-loop-tail : goal.invariant-loop-tail
invariant-loop-tail l = record {
  value : l.copies.items ++ drop l.tail-index l.tails ≡ l.tails;
}
