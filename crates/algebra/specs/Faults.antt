-- What a fault says of the relations that it is found in.
use Rattle.std.specs.Prelude.{◌≡◌, Option, None, Some}
use Rattle.word_model.specs.Words.{Algebra}
use Rattle.word_model.specs.Conditions.{Fault, pairs_fault, relations_fault}
use Rattle.algebra.specs.declared.AlgebraFault.{AlgebraFault}
use Rattle.algebra.specs.declared.AlgebraFault.TheVariants.{Coefficient, Profile, Ordering, NonDegeneracy, Memory}

-- the fault is this first one; that memory ran out says `short`
abbrev pub IsReported : Option Fault → Type 0 → AlgebraFault → Type 0
IsReported first short (Coefficient i j) = first ≡ Some (Fault.Coefficient i j)
IsReported first short (Profile i j) = first ≡ Some (Fault.Profile i j)
IsReported first short (Ordering i j) = first ≡ Some (Fault.Ordering i j)
IsReported first short (NonDegeneracy i j k rest) = first ≡ Some (Fault.NonDegeneracy i j k rest)
IsReported first short Memory = short

-- the fault is the first of the relations; memory runs out only at the triples, where no pair has a fault
abbrev pub Reports : Algebra → AlgebraFault → Type 0
Reports A e = IsReported (relations_fault A) (pairs_fault A ≡ None) e
