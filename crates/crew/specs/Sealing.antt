-- Reductions that a worker made over what it saw, and when they are good for a lead.
use Rattle.std.specs.Prelude.{◌≡◌, ℕ, ◌≤◌, List, length, Some}
use Rattle.monomials.specs.Polynomials.{Polynomial, Each, IsPolynomial}
use Rattle.monomials.specs.Leading.{leading_monomial}
use Rattle.word_model.specs.Words.{Algebra}
use Rattle.word_model.specs.Reduction.{element, Target, leading_target}
use Rattle.word_model.specs.Machine.{IsElement}
use Rattle.word_model.specs.declared.records.Job.{Job}
use Rattle.word_model.specs.declared.records.Job.TheVariants.{Seed, Pair, Right}
use Rattle.run_records.specs.Ahead.{ReducedStart}
use Rattle.commit_core.specs.Leads.{Run}
use Rattle.commit_core.specs.Specs.{IsGood}

-- a Spec with what it was made over: an algebra, generators, and the elements of a view
pub record SealedSpec : Type 0 where
  pub algebra : Algebra
  pub generators : List Polynomial
  pub elements : List Polynomial
  pub spec : ReducedStart

-- The Spec is good for what it was made over, and all elements were used.
pub record IsSealed (s : SealedSpec) : Type 0 where
  pub generators : Each (IsPolynomial s.algebra.p s.algebra.order) s.generators
  pub elements : Each (IsElement s.algebra) s.elements
  pub prefix : s.spec.prefix ≡ length s.elements
  pub good : IsGood s.algebra s.generators s.elements s.spec

-- what the start of a job is made of is the same: its generator, which there is, or the elements that it names
abbrev pub SameStart : List Polynomial → List Polynomial → List Polynomial → List Polynomial → Job → Type 0
SameStart gens G gens' G' (Seed s) = (s ≤ length gens') × (element gens s ≡ element gens' s)
SameStart gens G gens' G' (Pair i j) = (element G i ≡ element G' i) × (element G j ≡ element G' j)
SameStart gens G gens' G' (Right i v) = element G i ≡ element G' i

-- A sealed Spec agrees with a lead: the algebra is the same; so is what its job's start is made of; the lead has as many
-- elements as the prefix, with the same leading monomials; and the elements of the steps are the same, also that of a
-- step which is undefined, before which the trace ends.
pub record Agrees (s : SealedSpec) (run : Run) : Type 0 where
  pub algebra : s.algebra ≡ run.algebra
  pub start : SameStart s.generators s.elements run.generators run.basis s.spec.job
  pub within : s.spec.prefix ≤ length run.basis
  pub leads : (k : ℕ) → 1 ≤ k → k ≤ length s.elements → leading_monomial (element s.elements k) ≡ leading_monomial (element run.basis k)
  pub steps : Each (λ step. element s.elements step.index ≡ element run.basis step.index) s.spec.trace
  pub undefined : (t : Target) → leading_target s.elements s.spec.rest ≡ Some t → element s.elements t.1 ≡ element run.basis t.1
