-- How a run ends that stopped before its reply.
use Rattle.std.proofs.Common.{◌≡◌, ℕ, List, Some, None, IsTrue, refl, sym, subst}
use Rattle.plural_io.specs.Faults.{Rose}
use Rattle.command_words.specs.declared.settings.Program.{Program}
use Rattle.command_words.specs.declared.settings.Settings.{Settings}
use Rattle.command_words.specs.Settings.{settings_of}
use Rattle.program_model.specs.Replies.{reads_source}
use Rattle.program_model.specs.Runs.{SourceSeen, SinkSeen, IsRun, read_failed, no_memory, undisturbed}
use Rattle.program_model.proofs.Replied.{read-asks}
use Rattle.program_run.specs.declared.status.Stopped.{Stopped}
use Rattle.program_run.specs.declared.status.Stopped.TheVariants.{Read, Memory}

module _ (program : Program) (words : List (List ℕ)) (source source' : SourceSeen) (sink : SinkSeen) where
  -- memory was wanting
  pub memory_wanting : (status : ℕ) → status ≡ 7 → IsRun program words source source' sink sink status
  memory_wanting status seven = subst (IsRun program words source source' sink sink) (sym seven) (undisturbed 7 (no_memory refl))

  -- a read failed, or memory was wanting
  pub run_stopped : (s : Settings) → settings_of program words ≡ Some s → (stopped : Stopped) (status : ℕ) → (stopped ≡ Read → status ≡ 5) → (stopped ≡ Memory → status ≡ 7)
      → (stopped ≡ Read → (s.make ≡ None) × Rose source.faults source'.faults) → IsRun program words source source' sink sink status
  run_stopped s told Read status read memory failed =
      let fault = failed refl in
      let asks : IsTrue (reads_source program words) = subst IsTrue (sym (read-asks _ s told fault.0)) refl in
      subst (IsRun program words source source' sink sink) (sym (read refl)) (read_failed asks fault.1 refl)
  run_stopped s told Memory status read memory failed = memory_wanting status (memory refl)
