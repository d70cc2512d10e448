-- The same relations under another order of the variables.
use Rattle.std.specs.Prelude.{◌≡◌, map, Some}
use Rattle.monomials.specs.Orders.{RowOrder, order_cmp}
use Rattle.monomials.specs.Polynomials.{from_terms}
use Rattle.word_model.specs.Words.{Algebra}
use Rattle.word_model.specs.Conditions.{Fault, relations_fault}
use Rattle.algebra.specs.declared.AlgebraFault.{AlgebraFault}
use Rattle.algebra.specs.declared.AlgebraFault.TheVariants.{Coefficient, Profile, Ordering, NonDegeneracy, Memory}

-- the relations with each of their polynomials sorted by the order
abbrev pub reordered : RowOrder → Algebra → Algebra
reordered order A = record { p = A.p; order = order; c = A.c; d = map (from_terms (order_cmp order.rows) A.p) A.d }

-- the relations' fault is that of the order at a pair, or memory ran out
abbrev pub ReportsOrdering : Algebra → AlgebraFault → Type 0
ReportsOrdering A (Coefficient i j) = ⊥
ReportsOrdering A (Profile i j) = ⊥
ReportsOrdering A (Ordering i j) = relations_fault A ≡ Some (Fault.Ordering i j)
ReportsOrdering A (NonDegeneracy i j k rest) = ⊥
ReportsOrdering A Memory = Unit {0}
