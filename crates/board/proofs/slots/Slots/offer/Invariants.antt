use Rattle.std.proofs.Common.{◌≡◌, ◌≤◌, ◌+◌, ◌-◌, ◌++◌, length, map, take, vec_len, vec_capacity}
use Rattle.word_model.specs.declared.events.Standing.TheVariants.{Offered}
use Rattle.board.specs.declared.slots.Slot.{Slot}
use Rattle.board.proofs.slots.Slots.offer.Given as goal

abbrev pub invariant-loop-job : goal.invariant-loop-job
invariant-loop-job l = record {
  places : l.self-inside.places ≡ l.initial.self-inside.places;
  passed : l.self-inside.passed ≡ l.initial.self-inside.passed;
  slots : l.self-inside.slots.items ≡ l.initial.self-inside.slots.items ++ map {B = Slot} (λ j. record { job = j; standing = Offered }) (take l.job-index l.jobs);
  room : vec_len l.self-inside.slots + (length l.jobs - l.job-index) ≤ vec_capacity l.self-inside.slots;
}
