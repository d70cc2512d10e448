-- The one-worker machine: Buchberger's algorithm for left and two-sided bases, a step at a time.
use Rattle.std.specs.Prelude.{◌≢◌, ℕ, zero, suc, ◌-◌, ◌≤◌, nat_le, List, [], ◌∷◌, ◌++◌, length, Option, Some, None, if◌then◌else◌}
use Rattle.prime_field.specs.Modular.{inverse}
use Rattle.monomials.specs.Polynomials.{Polynomial, poly_scale, Each, IsPolynomial}
use Rattle.monomials.specs.Leading.{leading_coefficient}
use Rattle.word_model.specs.Words.{Algebra}
pub use Rattle.word_model.specs.Limits.{most_elements}
use Rattle.word_model.specs.Reduction.{Reduced, reduce}
use Rattle.word_model.specs.Jobs.{without, job_sugar, element_sugar, least_job, start_of, chain_witness, IsJob, NamesNonzero, AreSugars}
use Rattle.word_model.specs.declared.records.Job.{Job}
use Rattle.word_model.specs.declared.records.Job.TheVariants.{Seed, Pair, Right}
use Rattle.word_model.specs.declared.records.Mode.{Mode}
use Rattle.word_model.specs.declared.records.Mode.TheVariants.{Left, TwoSided}
use Rattle.word_model.specs.declared.records.Entry.{Entry}
use Rattle.word_model.specs.declared.records.Entry.TheVariants.{Skipped, Zero, New}
use Rattle.word_model.specs.declared.records.Outcome.{Outcome}
use Rattle.word_model.specs.declared.records.Outcome.TheVariants.{Finished, BudgetSpent, BasisFull, DegreeOver}

-- the entries so far, the basis with the sugars of its elements, and the jobs that are queued
pub record State : Type 0 where
  pub entries : List Entry
  pub basis : List Polynomial
  pub sugars : List ℕ
  pub queue : List Job

-- a run: its entries, its basis, and how it ended
pub record Journal : Type 0 where
  pub entries : List Entry
  pub basis : List Polynomial
  pub outcome : Outcome

-- what a step leads to: the next state, or the outcome
pub data Turn : Type 0 where
  On : State → Turn
  Over : Outcome → Turn

-- the pairs of the elements 1 to k with the element of number m
abbrev pub pairs_with : ℕ → ℕ → List Job
pairs_with m zero = []
pairs_with m (suc k) = pairs_with m k ++ Pair (suc k) m ∷ []

-- the products of the element of number m with the variables 1 to k
abbrev pub rights_of : ℕ → ℕ → List Job
rights_of m zero = []
rights_of m (suc k) = rights_of m k ++ Right m (suc k) ∷ []

-- the jobs that the element of number m brings: its pairs with those before it, and in two-sided runs its products
-- with the n variables
abbrev pub jobs_of : Mode → ℕ → ℕ → List Job
jobs_of Left n m = pairs_with m (m - 1)
jobs_of TwoSided n m = pairs_with m (m - 1) ++ rights_of m n

-- a job leaves the queue with an entry
abbrev pub with_entry : State → Job → Entry → State
with_entry s job entry = record s { entries = s.entries ++ entry ∷ []; queue = without job s.queue }

-- a job leaves the queue with a new element, the rest h times the inverse of its leading coefficient
abbrev pub with_element : Algebra → List Polynomial → Mode → State → Job → Reduced → State
with_element A gens mode s job r =
    let scale : ℕ = inverse A.p (leading_coefficient r.rest) in
    let m : ℕ = suc (length s.basis) in
    record {
      entries = s.entries ++ New job r.trace scale ∷ [];
      basis = s.basis ++ poly_scale A.p scale r.rest ∷ [];
      sugars = s.sugars ++ element_sugar s.sugars (job_sugar gens s.basis s.sugars job) r.trace ∷ [];
      queue = without job s.queue ++ jobs_of mode A.order.vars m;
    }

-- the turn of a job whose start was reduced
abbrev pub turn_of_rest : Algebra → List Polynomial → Mode → State → Job → Reduced → Turn
turn_of_rest A gens mode s job r =
    if r.over then Over DegreeOver else elim r.rest [
      | [] ↦ On (with_entry s job (Zero job r.trace))
      | t ∷ f ↦ if nat_le most_elements (length s.basis) then Over BasisFull else On (with_element A gens mode s job r)
    ]

-- the turn of a job with this start
abbrev pub turn_of_start : Algebra → List Polynomial → Mode → State → Job → Option Polynomial → Turn
turn_of_start A gens mode s job None = Over DegreeOver
turn_of_start A gens mode s job (Some h) = turn_of_rest A gens mode s job (reduce A s.basis h)

-- the turn of a job with this chain witness
abbrev pub turn_of_job : Algebra → List Polynomial → Mode → State → Job → Option ℕ → Turn
turn_of_job A gens mode s job (Some k) = On (with_entry s job (Skipped job k))
turn_of_job A gens mode s job None = turn_of_start A gens mode s job (start_of A gens s.basis job)

-- One step. The first rule that applies decides: without a job the run is finished; with as many entries as the budget
-- it is spent; else the job of the least key is skipped by a chain witness, or its start is reduced.
unfoldable pub step : Algebra → List Polynomial → Mode → ℕ → State → Turn
step A gens mode budget s = elim s.queue [
  | [] ↦ Over Finished
  | first ∷ queue ↦
      if nat_le budget (length s.entries) then Over BudgetSpent
      else (let job : Job = least_job A gens s.basis s.sugars first queue in
      turn_of_job A gens mode s job (chain_witness s.basis s.queue job))
]

-- the seeds of the nonzero generators, whose numbers count from s
abbrev pub seeds_from : ℕ → List Polynomial → List Job
seeds_from s [] = []
seeds_from s ([] ∷ gens) = seeds_from (suc s) gens
seeds_from s ((t ∷ f) ∷ gens) = Seed s ∷ seeds_from (suc s) gens

-- no entry, no element, and all seeds
abbrev pub first_state : List Polynomial → State
first_state gens = record { entries = []; basis = []; sugars = []; queue = seeds_from 1 gens }

abbrev pub ends_with : State → Outcome → Journal
ends_with s outcome = record { entries = s.entries; basis = s.basis; outcome = outcome }

abbrev pub after_turn : (State → Journal) → State → Turn → Journal
after_turn go s (On s') = go s'
after_turn go s (Over outcome) = ends_with s outcome

-- the run from a state on, where it has fewer than k entries more
unfoldable pub run_within : Algebra → List Polynomial → Mode → ℕ → ℕ → State → Journal
run_within A gens mode budget zero s = ends_with s BudgetSpent
run_within A gens mode budget (suc k) s = after_turn (run_within A gens mode budget k) s (step A gens mode budget s)

-- The journal of the machine. Each step but the last adds an entry, and there are at most as many as the budget.
unfoldable pub machine : Algebra → List Polynomial → Mode → ℕ → Journal
machine A gens mode budget = run_within A gens mode budget (suc budget) (first_state gens)

-- ---- what every state of a run has

-- an element of a basis: a polynomial of the algebra that is not zero
abbrev pub IsElement : Algebra → Polynomial → Type 0
IsElement A g = IsPolynomial A.p A.order g × (g ≢ [])

-- the elements are nonzero polynomials, at most as many as a basis may have, with a sugar each that is at least its
-- degree, and the jobs name nonzero generators, nonzero elements and variables that there are
pub record IsState (A : Algebra) (gens : List Polynomial) (s : State) : Type 0 where
  pub elements : Each (IsElement A) s.basis
  pub few : length s.basis ≤ most_elements
  pub sugars : AreSugars s.basis s.sugars
  pub jobs : Each (λ job. IsJob (length gens) (length s.basis) A.order.vars job × NamesNonzero gens s.basis job) s.queue
