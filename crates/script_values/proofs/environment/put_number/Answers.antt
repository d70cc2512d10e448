use Rattle.std.proofs.Common.{◌≡◌, ap, ◌∙◌}
use Rattle.script_model.specs.Environment.{put}
use Rattle.script_values.specs.Kept.{entries_of}
use Rattle.script_values.proofs.Maps.{put_kept}
use Rattle.script_values.proofs.environment.put_number.Goals as goal
use Rattle.script_values.proofs.environment.put_number.Goals.{in-Ok, in-Err}

pub returns : goal.returns
returns c =
    let es = c.args.numbers.now.entries in
    elim c.match-insert.branch [
      | in-Ok w ↦
          let stored : entries_of c.insert.new.self.entries ≡ put c.args.name.now c.args.number (entries_of es) =
          ap entries_of w.in-Ok.ensures.entries ∙ put_kept c.in_ok-key.key c.args.number es
          ∙ ap (λ n. put n c.args.number (entries_of es)) c.in_ok-key.ensures.items in
          rw w.result-is (record { value = stored; refused = tt })
      | in-Err w ↦ rw w.result-is (record { value = tt; refused = w.in-Err.ensures.err })
    ]
