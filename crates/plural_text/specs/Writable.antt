-- What the lines of a certificate are like, so that they can be written: words of private functions and of lemmas, which no
-- public contract cites.
use Rattle.std.specs.Prelude.{◌≡◌, ◌<◌, ◌≤◌, true, List, length}
use Rattle.monomials.specs.Polynomials.{Polynomial, Each}
use Rattle.word_model.specs.Words.{Algebra}
use Rattle.word_model.specs.Jobs.{pair_within}
use Rattle.word_model.specs.declared.records.Job.{Job}
use Rattle.word_model.specs.declared.records.Job.TheVariants.{Seed, Pair, Right}
use Rattle.word_model.specs.declared.records.TraceStep.{TraceStep}
use Rattle.word_model.specs.declared.records.Entry.{Entry}
use Rattle.word_model.specs.declared.records.Entry.TheVariants.{New}

-- a step's number and monomial are of the algebra
pub record IsTermOf (A : Algebra) (s : TraceStep) : Type 0 where
  pub small : s.coef < A.p
  pub vars : length s.mono ≡ A.order.vars

-- a pair is of elements of the basis, with products that are computed, and a variable is one of the algebra
abbrev pub IsStartOf : Algebra → List Polynomial → Job → Type 0
IsStartOf A G (Seed s) = Unit {0}
IsStartOf A G (Pair i j) = (1 ≤ i) × (i ≤ length G) × (1 ≤ j) × (j ≤ length G) × (pair_within G i j ≡ true)
IsStartOf A G (Right i v) = (1 ≤ v) × (v ≤ A.order.vars)

abbrev pub IsLineOf : Algebra → List Polynomial → Entry → Type 0
IsLineOf A G (New job trace scale) = IsStartOf A G job × Each (IsTermOf A) trace × (scale < A.p)
IsLineOf A G _ = Unit {0}
