-- What the calls of this crate answer, in the words of the definitions.
use Rattle.std.specs.Prelude.{◌≡◌, ◌≢◌, ℕ, ◌≤◌, ◌++◌, List, [], ◌∷◌, length, Some, if◌then◌else◌}
use Rattle.monomials.specs.Polynomials.{Polynomial, Each}
use Rattle.monomials.specs.Leading.{leading_monomial}
use Rattle.word_model.specs.Reduction.{element, Target, leading_target, Reduced as Reduction}
use Rattle.word_model.specs.declared.records.Job.{Job}
use Rattle.word_model.specs.declared.records.Job.TheVariants.{Seed, Pair, Right}
use Rattle.word_model.specs.declared.records.TraceStep.{TraceStep}
use Rattle.left_reduce.specs.declared.reducing.Ended.{Ended}
use Rattle.left_reduce.specs.declared.reducing.Ended.TheVariants.{Zero, Irreducible, DegreeOver}

-- how many products make the start of a job
abbrev pub start_count : Job → ℕ
start_count (Seed s) = 0
start_count (Pair i j) = 2
start_count (Right i v) = 1

-- how a reduction ends whose next step is defined, by what it leaves
abbrev pub ends_at : Polynomial → Ended
ends_at [] = Zero
ends_at (t ∷ f) = Irreducible

-- how a reduction ends
abbrev pub ended_of : Reduction → Ended
ended_of r = if r.over then DegreeOver else ends_at r.rest

-- a reduction that goes on from earlier steps: what it did and left, and how it ended
pub record GoneOn : Type 0 where
  pub trace : List TraceStep
  pub rest : Polynomial
  pub ended : Ended

-- the reduction r, behind these steps
abbrev pub behind_steps : List TraceStep → Reduction → GoneOn
behind_steps trace r = record { trace = trace ++ r.trace; rest = r.rest; ended = ended_of r }

-- the reduction r, which s goes on from where it ended
abbrev pub goes_on_with : Reduction → Reduction → Reduction
goes_on_with r s = record { trace = r.trace ++ s.trace; rest = s.rest; over = s.over }

-- two lists of equal length, of nonzero polynomials with the same leading monomials
pub record SameLeads (G H : List Polynomial) : Type 0 where
  pub long : length H ≡ length G
  pub nonzero : (k : ℕ) → 1 ≤ k → k ≤ length G → (element G k ≢ []) × (element H k ≢ [])
  pub leads : (k : ℕ) → 1 ≤ k → k ≤ length G → leading_monomial (element G k) ≡ leading_monomial (element H k)

-- the elements that this reduction by G used are the same in H, also that of a step which is undefined
pub record SameUsed (G H : List Polynomial) (r : Reduction) : Type 0 where
  pub steps : Each (λ s. element G s.index ≡ element H s.index) r.trace
  pub undefined : (t : Target) → leading_target G r.rest ≡ Some t → element G t.1 ≡ element H t.1
