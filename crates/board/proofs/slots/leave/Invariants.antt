use Rattle.std.proofs.Common.{◌≤◌, ◌++◌, List, length, take}
use Rattle.std.specs.BTreeMap.{get}
use Rattle.word_model.specs.declared.records.Job.{Job}
use Rattle.board.specs.Slots.{key_cmp, Finds}
use Rattle.board.proofs.slots.leave.Given as goal

abbrev pub invariant-loop-k : goal.invariant-loop-k
invariant-loop-k l = record {
  in_range : l.k ≤ length l.jobs;
  finds : (before : List Job) → Finds (get key_cmp l.fn.places) (before ++ take l.count l.jobs) → Finds (get key_cmp l.places) (before ++ take l.k l.jobs);
}
