use Rattle.std.proofs.Common.{◌≡◌, ◌+◌, ◌-◌, ◌≤◌, length, take}
use Rattle.plural_io.specs.Reads.{behind_all}
use Rattle.plural_io.proofs.writing.write_all_of.Given as goal

abbrev pub invariant-loop-at : goal.invariant-loop-at
invariant-loop-at g l = record {
  told : g.K.Sink.held l.sink ≡ behind_all (g.K.Sink.held l.initial.sink) (take l.at l.bytes);
  within : l.at ≤ length l.bytes;
  faults : g.K.Sink.faults l.initial.sink ≤ g.K.Sink.faults l.sink;
  writes : g.K.Sink.writes l.sink ≤ g.K.Sink.writes l.initial.sink + l.at;
  untouched : l.at ≡ 0 → l.sink ≡ l.initial.sink;
}

abbrev pub decreases-loop-at : goal.decreases-loop-at
decreases-loop-at g l = length l.bytes - l.at
