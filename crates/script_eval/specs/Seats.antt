-- Which algebra a seat is of.
use Rattle.std.specs.Prelude.{◌≡◌, IfSome}
use Rattle.word_model.specs.Words.{Algebra}
use Rattle.script_model.specs.Environment.{Environment, here}

-- that of the current ring, where there is one
abbrev pub IsSeatOf : Algebra → Environment → Type 0
IsSeatOf A E = IfSome (here E) (λ R. A ≡ R.algebra)
