use Rattle.std.proofs.Common.{◌≡◌, ◌≤◌, ◌+◌, ◌-◌, ◌++◌, length, replicate, vec_len, vec_capacity, None}
use Rattle.board.proofs.Board.offer.Given as goal

abbrev pub invariant-loop-job : goal.invariant-loop-job
invariant-loop-job g l = record {
  core : l.self-inside.core ≡ l.initial.self-inside.core;
  kept : l.self-inside.kept.items ≡ l.initial.self-inside.kept.items ++ replicate l._job-index None;
  room : vec_len l.self-inside.kept + (length l.jobs - l._job-index) ≤ vec_capacity l.self-inside.kept;
}
