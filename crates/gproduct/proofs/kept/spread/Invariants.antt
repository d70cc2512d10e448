use Rattle.std.proofs.Common.{List, length}
use Rattle.monomials.specs.Polynomials.{Polynomial}
use Rattle.word_model.specs.Words.{Algebra}
use Rattle.gproduct.specs.Inside.Kept.{AreKept}
use Rattle.gproduct.proofs.kept.spread.Given as goal

abbrev pub invariant-loop-slot : goal.invariant-loop-slot
invariant-loop-slot l = (A : Algebra) (factors : List Polynomial) → AreKept A factors l.fn.slots.items
    → AreKept A factors l.slots.items × AreKept A factors l.more.items

abbrev pub decreases-loop-slot : goal.decreases-loop-slot
decreases-loop-slot l = length l.slots.items
