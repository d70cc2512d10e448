use Rattle.std.proofs.Common.{◌≡◌, ◌++◌, List, None, length, take, drop}
use Rattle.std.specs.BTreeMap.{get}
use Rattle.monomials.specs.Polynomials.{Each}
use Rattle.word_model.specs.declared.records.Job.{Job}
use Rattle.pair_strategy.specs.Queues.{IsSet}
use Rattle.board.specs.Slots.{key, key_cmp, Finds}
use Rattle.board.proofs.slots.enter.Given as goal

abbrev pub invariant-loop-k : goal.invariant-loop-k
invariant-loop-k l = record {
  finds : (before : List Job) → length before ≡ l.start → Finds (get key_cmp l.fn.places) before → Finds (get key_cmp l.places) (before ++ take l.k l.jobs);
  fresh : Each (λ j. get key_cmp l.places (key j) ≡ None) (drop l.k l.jobs);
  set : IsSet (drop l.k l.jobs);
}
