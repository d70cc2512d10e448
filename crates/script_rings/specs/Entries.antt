-- The entries for pairs of variables, one by one.
use Rattle.std.specs.Prelude.{◌<◌, ◌≤◌, ℕ, Bool, true, false, [], Option}
use Rattle.monomials.specs.Polynomials.{Polynomial}
use Rattle.word_model.specs.Conditions.{Fault}
use Rattle.algebra.specs.declared.AlgebraFault.{AlgebraFault}
use Rattle.algebra.specs.declared.AlgebraFault.TheVariants.{NonDegeneracy}
use Rattle.algebra.specs.Faults.{IsReported}
use Rattle.script_model.specs.declared.values.Value.{Value}
use Rattle.script_model.specs.declared.values.Value.TheVariants.{Poly, Matrix}
use Rattle.script_model.specs.Operations.{matrix_entry}
use Rattle.script_model.specs.Statements.{is_square}

-- whether a value has an entry for each pair of n variables
abbrev pub has_entries : ℕ → Value → Bool
has_entries n (Poly f) = true
has_entries n (Matrix rows) = is_square n rows
has_entries n _ = false

-- the entry for a pair
abbrev pub entry_for : Value → ℕ × ℕ → Polynomial
entry_for (Poly f) ij = f
entry_for (Matrix rows) ij = matrix_entry rows ij.0 ij.1
entry_for _ ij = []

-- the rest that a fault speaks of, if any, has P
abbrev pub RestIs : (Polynomial → Type 0) → AlgebraFault → Type 0
RestIs P (NonDegeneracy i j k rest) = P rest
RestIs P _ = Unit {0}

-- the fault is this one, or that memory ran out
abbrev pub IsFirst : Option Fault → AlgebraFault → Type 0
IsFirst first e = IsReported first (Unit {0}) e

-- the first number of a pair is below the second
abbrev pub IsPair : ℕ × ℕ → Type 0
IsPair ij = (1 ≤ ij.0) × (ij.0 < ij.1)
