-- Relations that do not fit an elimination order.
use Rattle.std.specs.Prelude.{◌≡◌, Some}
use Rattle.word_model.specs.Words.{Algebra}
use Rattle.word_model.specs.Conditions.{Fault, relations_fault}
use Rattle.elimination.specs.declared.ElimFault.{ElimFault}
use Rattle.elimination.specs.declared.ElimFault.TheVariants.{NoElimination, Memory}

-- the fault is the first of the relations, and names the pair that is not below its product in the order
abbrev pub ReportsPair : Algebra → ElimFault → Type 0
ReportsPair A (NoElimination i j) = relations_fault A ≡ Some (Fault.Ordering i j)
ReportsPair A Memory = Unit {0}
