use Rattle.std.proofs.Common.{◌≡◌, ◌+◌, ◌-◌, ◌≤◌, length}
use Rattle.plural_io.specs.Reads.{in_front}
use Rattle.plural_io.proofs.reading.read_all.Given as goal

abbrev pub invariant-loop-n : goal.invariant-loop-n
invariant-loop-n g l = record {
  told : g.S.Source.left l.initial.source ≡ in_front l.bytes.items (g.S.Source.left l.source);
  within : length l.bytes.items ≤ 1048576;
  faults : g.S.Source.faults l.initial.source ≤ g.S.Source.faults l.source;
  reads : g.S.Source.reads l.source ≤ g.S.Source.reads l.initial.source + length l.bytes.items;
  room : length l.buf ≡ 4096;
}

abbrev pub decreases-loop-n : goal.decreases-loop-n
decreases-loop-n g l = 1048576 - length l.bytes.items
