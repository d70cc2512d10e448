-- What a seat at a table knows.
use Rattle.std.specs.Prelude.{◌≡◌, List, Option, Some, None, slice_index_or}
use Rattle.word_model.specs.Words.{Algebra}
use Rattle.gproduct.specs.Places.{place_value, cell_of}
use Rattle.word_model.specs.declared.events.Place.{Place}
use Rattle.gproduct.specs.declared.seat.Learned.{Learned}
use Rattle.gproduct.specs.declared.seat.Learned.TheVariants.{Shared, Own}

-- a seat: the algebra of its table, and for each cell the place whose value the seat saw there
pub record Seat : Type 0 where
  pub algebra : Algebra
  pub seen : List (Option Place)

-- the seat knows the place's value
abbrev pub Knows : Seat → Place → Type 0
Knows seat place = slice_index_or seat.seen (cell_of seat.algebra.order.vars place) None ≡ Some place

-- what a seat knew it knows later, too
abbrev pub Keeps : Seat → Seat → Type 0
Keeps before after = (place : Place) → Knows before place → Knows after place

-- what an answer tells of a place: that the seat knows it now, or its value
abbrev pub Teaches : Seat → Place → Learned → Type 0
Teaches seat place Shared = Knows seat place
Teaches seat place (Own value) = value ≡ place_value seat.algebra place
