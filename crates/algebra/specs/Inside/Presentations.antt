-- What presents an algebra, as the program keeps it.
use Rattle.word_model.specs.Words.{Algebra}
use Rattle.word_model.specs.Conditions.{IsAlgebraData}
use Rattle.algebra.specs.declared.presentation.Presentation.TheInside.{Inside}

-- the field, the order and the relations that the program keeps
abbrev pub presented : Inside → Algebra
presented a = record { p = a.field; order = a.order; c = a.c.items; d = a.d.items }

-- a number and a polynomial for each pair of variables
abbrev pub IsPresentation : Inside → Type 0
IsPresentation a = IsAlgebraData (presented a)
