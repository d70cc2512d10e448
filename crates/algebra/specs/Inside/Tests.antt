-- What the tests of an algebra's conditions answer, in order.
use Rattle.std.specs.Prelude.{◌≡◌, ℕ, suc, ◌-◌, Option, None, Result, MatchResult}
use Rattle.word_model.specs.Words.{Algebra}
use Rattle.word_model.specs.Conditions.{Fault, pair_fault, triple_fault, first_from}
use Rattle.algebra.specs.declared.AlgebraFault.{AlgebraFault}
use Rattle.algebra.specs.Faults.{IsReported}

-- a test that takes no memory answers Ok where there is no fault, and else the first one
abbrev pub Finds : {T : Type 0} → Option Fault → Result T AlgebraFault → Type 0
Finds first r = MatchResult r (λ _. first ≡ None) (IsReported first ⊥)

-- a test that takes memory answers the same, or that memory ran out
abbrev pub Answers : {T : Type 0} → Option Fault → Result T AlgebraFault → Type 0
Answers first r = MatchResult r (λ _. first ≡ None) (IsReported first (Unit {0}))

-- the first fault of the pairs of x_i with later variables
abbrev pub row_fault : Algebra → ℕ → Option Fault
row_fault A i = first_from (λ j. pair_fault A i j) (suc i) (A.order.vars - i)

-- the first fault of the triples of x_i and x_j with later variables
abbrev pub line_fault : Algebra → ℕ → ℕ → Option Fault
line_fault A i j = first_from (λ k. triple_fault A i j k) (suc j) (A.order.vars - j)

-- the first fault of the triples of x_i with later variables
abbrev pub plane_fault : Algebra → ℕ → Option Fault
plane_fault A i = first_from (λ j. line_fault A i j) (suc i) (A.order.vars - i)
