use Rattle.std.proofs.Common.{List}
use Rattle.monomials.specs.Polynomials.{Polynomial}
use Rattle.word_model.specs.Words.{Algebra}
use Rattle.gproduct.specs.Inside.Kept.{AreKept}
use Rattle.gproduct.proofs.kept.empty_slots.Given as goal

abbrev pub invariant-loop-slot : goal.invariant-loop-slot
invariant-loop-slot l = (A : Algebra) (factors : List Polynomial) → AreKept A factors l.slots.items
