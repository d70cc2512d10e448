-- Places: products of powers of two variables, each of which has a cell in a table.
use Rattle.std.specs.Prelude.{ℕ, ◌+◌, ◌-◌, ◌*◌, ◌/◌, ◌<◌, ◌≤◌, ◌++◌, replicate}
use Rattle.monomials.specs.Polynomials.{Polynomial}
use Rattle.word_model.specs.Words.{Algebra, Word, normal_form, pair_index}
use Rattle.word_model.specs.declared.events.Place.{Place}

-- a place of an algebra: i < j are numbers of variables, and both exponents are from 1 to 16
pub record IsPlace (A : Algebra) (place : Place) : Type 0 where
  pub first : 1 ≤ place.i
  pub ordered : place.i < place.j
  pub last : place.j ≤ A.order.vars
  pub a_some : 1 ≤ place.a
  pub a_small : place.a ≤ 16
  pub b_some : 1 ≤ place.b
  pub b_small : place.b ≤ 16

-- the word x_j^a x_i^b
abbrev pub place_word : Place → Word
place_word place = replicate place.a place.j ++ replicate place.b place.i

-- The value of a place: the normal form of its word.
abbrev pub place_value : Algebra → Place → Polynomial
place_value A place = normal_form A (place_word place)

-- The number of a place's cell, counted from 0: places go by their pair of variables, then by a, and then by b.
abbrev pub cell_of : ℕ → Place → ℕ
cell_of n place = pair_index n place.i place.j * 256 + ((place.a - 1) * 16 + (place.b - 1))

-- How many places an algebra in n variables has: 256 for each pair.
abbrev pub cell_count : ℕ → ℕ
cell_count n = n * (n - 1) / 2 * 256
