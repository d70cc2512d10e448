use Rattle.std.proofs.Common.{◌≡◌, ℕ, ◌+◌, ◌<◌, take, get_or, length}
use Rattle.monomials.specs.ExtraRows.{mark}
use Rattle.monomials.proofs.row.Row.marking.Given as goal

abbrev pub invariant-loop-v : goal.invariant-loop-v
invariant-loop-v l = record {
  whole : length l.places ≡ 16;
  marked : (k : ℕ) → k < 16 → get_or l.places k 0 ≡ mark (take l.v-index l.vars) (k + 1);
}
