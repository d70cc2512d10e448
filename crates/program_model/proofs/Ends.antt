-- What the status of a run tells.
use Rattle.std.proofs.Common.{◌≡◌, ℕ, ◌≤◌, List, ap, arith}
use Rattle.plural_io.specs.Faults.{Rose}
use Rattle.command_words.specs.declared.settings.Program.{Program}
use Rattle.program_model.specs.Runs.{SourceSeen, SinkSeen, IsUndisturbed, whole, no_memory, IsRun, undisturbed, read_failed, write_failed}
use Rattle.program_model.proofs.OneReply.{reply-status}

module _ (program : Program) (words : List (List ℕ)) (source source' : SourceSeen) (sink sink' : SinkSeen) where
  undisturbed-five : (status : ℕ) → IsUndisturbed program words source source' sink sink' status → status ≡ 5 → ⊥
  undisturbed-five _ (whole a replied held) five = let few = reply-status program words replied.bytes a replied.reply in omega (arith, few, five)
  undisturbed-five _ (no_memory same) five = omega (arith, five)

  undisturbed-six : (status : ℕ) → IsUndisturbed program words source source' sink sink' status → status ≡ 6 → ⊥
  undisturbed-six _ (whole a replied held) six = let few = reply-status program words replied.bytes a replied.reply in omega (arith, few, six)
  undisturbed-six _ (no_memory same) six = omega (arith, six)

  -- 5 tells of a failed read
  pub run-read_fault : (status : ℕ) → IsRun program words source source' sink sink' status → status ≡ 5 → Rose source.faults source'.faults
  run-read_fault _ (undisturbed status is) five = absurd (undisturbed-five status is five)
  run-read_fault _ (read_failed asks rose same) five = rose
  run-read_fault _ (write_failed a n replied rose held) five = absurd (omega (arith, five))

  -- 6 tells of a failed write
  pub run-write_fault : (status : ℕ) → IsRun program words source source' sink sink' status → status ≡ 6 → Rose sink.faults sink'.faults
  run-write_fault _ (undisturbed status is) six = absurd (undisturbed-six status is six)
  run-write_fault _ (read_failed asks rose same) six = absurd (omega (arith, six))
  run-write_fault _ (write_failed a n replied rose held) six = rose

  -- a run in which nothing failed
  pub run-completes : (status : ℕ) → IsRun program words source source' sink sink' status → (Rose source.faults source'.faults → ⊥) → (Rose sink.faults sink'.faults → ⊥)
      → IsUndisturbed program words source source' sink sink' status
  run-completes _ (undisturbed status is) read write = is
  run-completes _ (read_failed asks rose same) read write = absurd (read rose)
  run-completes _ (write_failed a n replied rose held) read write = absurd (write rose)
