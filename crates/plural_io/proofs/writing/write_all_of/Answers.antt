use Rattle.std.proofs.Common.{◌<◌, drop, arith}
use Rattle.std.proofs.lemmas.List.{take_rest, length-drop}
use Rattle.plural_io.specs.Reads.{HasTaken}
use Rattle.plural_io.proofs.Told.{wrote_on}
use Rattle.plural_io.proofs.writing.write_all_of.Goals as goal

-- the first n bytes of the rest were written
pub loop-at-preserved : goal.loop-at-preserved
loop-at-preserved g c =
    let at = c.loop-at.at in
    let n = c.in-Took.n in
    let bytes = c.args.bytes.now in
    let took : HasTaken n (drop at bytes) (g.K.Sink.held c.loop-at.sink) (g.K.Sink.held c.write.new.self) =
    rw (← take_rest bytes at) c.in-Took.ensures.answer in
    let rest = length-drop at bytes in
    let some : 0 < n = took.some (omega arith) in
    record {
      told = wrote_on _ _ _ bytes at n c.loop-at.invariant.told took.appended;
      within = omega (arith, took.within);
      faults = omega (arith, c.in-Took.ensures.faults);
      writes = omega (arith, c.in-Took.ensures.counted);
      untouched = λ none. absurd (omega arith);
    }
