use Rattle.std.proofs.Common.{◌≡◌, ◌==◌, length, drop}
use Rattle.word_model.specs.Elimination.{occurrences}
use Rattle.elimination.proofs.free.avoids.Given as goal

-- what is left to see decides
abbrev pub invariant-loop-v : goal.invariant-loop-v
invariant-loop-v l = (occurrences (length l.mono) l.vars l.mono == 0) ≡ (occurrences (length l.mono) (drop l.v-index l.vars) l.mono == 0)
