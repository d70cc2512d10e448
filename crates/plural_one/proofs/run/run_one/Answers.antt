use Rattle.std.proofs.Common.{map, string_bytes, sym}
use Rattle.command_words.specs.declared.settings.Program.TheVariants.{One}
use Rattle.program_model.specs.Runs.{SourceSeen}
use Rattle.program_model.proofs.Ends.{run-read_fault, run-write_fault, run-completes}
use Rattle.plural_one.proofs.run.run_one.Goals as goal

pub returns-in-Some-clause-read_fault : goal.returns-in-Some-clause-read_fault
returns-in-Some-clause-read_fault g c = run-read_fault One (map string_bytes c.args.words.now) _ _ _ _ _ (c.run_script.ensures.run One (map string_bytes c.args.words.now) (sym c.in-Some.ensures.value))

pub returns-in-Some-clause-write_fault : goal.returns-in-Some-clause-write_fault
returns-in-Some-clause-write_fault g c = run-write_fault One (map string_bytes c.args.words.now) _ _ _ _ _ (c.run_script.ensures.run One (map string_bytes c.args.words.now) (sym c.in-Some.ensures.value))

pub returns-in-None-clause-read_fault : goal.returns-in-None-clause-read_fault
returns-in-None-clause-read_fault g c =
    let unread : SourceSeen = record { left = g.S.Source.left c.args.source.now; faults = g.S.Source.faults c.args.source.now } in
    run-read_fault One (map string_bytes c.args.words.now) unread unread _ _ _ (c.refuse_words.ensures (map string_bytes c.args.words.now) unread (sym c.in-None.ensures.value))

pub returns-in-None-clause-write_fault : goal.returns-in-None-clause-write_fault
returns-in-None-clause-write_fault g c =
    let unread : SourceSeen = record { left = g.S.Source.left c.args.source.now; faults = g.S.Source.faults c.args.source.now } in
    run-write_fault One (map string_bytes c.args.words.now) unread unread _ _ _ (c.refuse_words.ensures (map string_bytes c.args.words.now) unread (sym c.in-None.ensures.value))

pub returns-in-None-clause-completes : goal.returns-in-None-clause-completes
returns-in-None-clause-completes g c =
    let unread : SourceSeen = record { left = g.S.Source.left c.args.source.now; faults = g.S.Source.faults c.args.source.now } in
    run-completes One (map string_bytes c.args.words.now) unread unread _ _ _ (c.refuse_words.ensures (map string_bytes c.args.words.now) unread (sym c.in-None.ensures.value))
