use Rattle.std.proofs.Common.{◌≡◌, ◌≤◌, ◌+◌, ◌-◌, ◌++◌, length, map, take, vec_len, vec_capacity}
use Rattle.word_model.specs.declared.events.BoardEvent.TheVariants.{Offer}
use Rattle.board.proofs.logged.Logged.offer.Given as goal

abbrev pub invariant-loop-job : goal.invariant-loop-job
invariant-loop-job l = record {
  log : l.self-inside.log.items ≡ l.initial.self-inside.log.items ++ map Offer (take l.job-index l.jobs);
  len : vec_len l.self-inside.log ≡ vec_len l.initial.self-inside.log + l.job-index;
  room : vec_capacity l.initial.self-inside.log ≤ vec_capacity l.self-inside.log;
  space : vec_len l.self-inside.log + (length l.jobs - l.job-index) ≤ vec_capacity l.self-inside.log;
  slots : l.self-inside.slots ≡ l.initial.self-inside.slots;
  hands : l.self-inside.hands ≡ l.initial.self-inside.hands;
  shut : l.self-inside.shut ≡ l.initial.self-inside.shut;
  seats : l.self-inside.seats ≡ l.initial.self-inside.seats;
}
