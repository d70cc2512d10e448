-- The rules of a step, in order, and the run after it.
use Rattle.std.proofs.Common.{◌≡◌, ℕ, suc, ◌-◌, ◌*◌, ◌%◌, ◌<◌, ◌≤◌, nat_le, Bool, true, false, List, [], ◌∷◌, ◌++◌, length, Option, Some, None, if◌then◌else◌, refl, sym, ap, ◌∙◌, subst, arith, length-append}
use Rattle.std.proofs.lemmas.Bool.Decides.{nat_tests}
use Rattle.prime_field.specs.Modular.{IsPrime, inverse}
use Rattle.prime_field.proofs.Inverses.{inverse_is}
use Rattle.monomials.specs.Polynomials.{Polynomial, poly_scale}
use Rattle.monomials.specs.Leading.{leading_coefficient}
use Rattle.word_model.specs.Words.{Algebra}
use Rattle.word_model.specs.Reduction.{Reduced, reduce}
use Rattle.word_model.specs.Jobs.{job_sugar, element_sugar, least_job, chain_witness, start_of, without}
use Rattle.word_model.specs.Machine.{State, Turn, On, Over, step, turn_of_job, turn_of_start, turn_of_rest, with_entry, with_element, jobs_of, ends_with, first_state, machine, run_within, after_turn, most_elements}
use Rattle.word_model.specs.declared.records.Job.{Job}
use Rattle.word_model.specs.declared.records.Mode.{Mode}
use Rattle.word_model.specs.declared.records.Entry.{Entry}
use Rattle.word_model.specs.declared.records.Entry.TheVariants.{Skipped, Zero, New}
use Rattle.word_model.specs.declared.records.Outcome.{Outcome}
use Rattle.word_model.specs.declared.records.Outcome.TheVariants.{Finished, BudgetSpent, BasisFull, DegreeOver}

module _ (A : Algebra) (gens : List Polynomial) (mode : Mode) (budget : ℕ) where
  -- without a job the run is finished
  pub step-finished : (s : State) → s.queue ≡ [] → step A gens mode budget s ≡ Over Finished
  unfolding step
  step-finished s e = rw e refl

  -- with as many entries as the budget it is spent
  pub step-spent : (s : State) (first : Job) (queue : List Job) → s.queue ≡ first ∷ queue → budget ≤ length s.entries → step A gens mode budget s ≡ Over BudgetSpent
  unfolding step
  step-spent s first queue e spent = let t : nat_le budget (length s.entries) ≡ true = grind (arith, nat_tests) in rw (e, t) refl

  -- else the least job has its turn
  pub step-job : (s : State) (first : Job) (queue : List Job) → s.queue ≡ first ∷ queue → length s.entries < budget
      → step A gens mode budget s
      ≡ (let job : Job = least_job A gens s.basis s.sugars first queue in turn_of_job A gens mode s job (chain_witness s.basis s.queue job))
  unfolding step
  step-job s first queue e room = let t : nat_le budget (length s.entries) ≡ false = grind (arith, nat_tests) in rw (e, t) refl

-- ---- a new element

-- the state with a new element, from its parts
pub with_element-is : (A : Algebra) (gens : List Polynomial) (mode : Mode) (s : State) (job : Job) (r : Reduced) (scale : ℕ) (basis : List Polynomial) (sugars : List ℕ)
    → scale ≡ inverse A.p (leading_coefficient r.rest)
    → basis ≡ s.basis ++ poly_scale A.p scale r.rest ∷ []
    → sugars ≡ s.sugars ++ element_sugar s.sugars (job_sugar gens s.basis s.sugars job) r.trace ∷ []
    → with_element A gens mode s job r ≡ record {
      entries = s.entries ++ New job r.trace scale ∷ [];
      basis = basis;
      sugars = sugars;
      queue = without job s.queue ++ jobs_of mode A.order.vars (suc (length s.basis));
    }
with_element-is A gens mode s job r scale basis sugars is basis_is sugars_are =
    ap (λ k. made k (s.basis ++ poly_scale A.p k r.rest ∷ []) (s.sugars ++ element_sugar s.sugars (job_sugar gens s.basis s.sugars job) r.trace ∷ [])) (sym is)
    ∙ ap (λ b. made scale b (s.sugars ++ element_sugar s.sugars (job_sugar gens s.basis s.sugars job) r.trace ∷ [])) (sym basis_is)
    ∙ ap (made scale basis) (sym sugars_are)
  where
    made : ℕ → List Polynomial → List ℕ → State
    made k b n = record { entries = s.entries ++ New job r.trace k ∷ []; basis = b; sugars = n; queue = without job s.queue ++ jobs_of mode A.order.vars (suc (length s.basis)) }

-- ---- runs

-- a step that goes on adds an entry, and there were fewer than the budget
pub step-adds : (A : Algebra) (gens : List Polynomial) (mode : Mode) (budget : ℕ) (s s' : State) → step A gens mode budget s ≡ On s'
    → (length s.entries < budget) × (length s'.entries ≡ suc (length s.entries))
unfolding step
step-adds A gens mode budget s s' e = by_queue s.queue refl e
  where
    Adds : Turn → Type 0
    Adds turn = (t' : State) → turn ≡ On t' → length t'.entries ≡ suc (length s.entries)

    entered : (job : Job) (entry : Entry) → Adds (On (with_entry s job entry))
    entered job entry t' e = let same : with_entry s job entry ≡ t' = cc in ap (λ t. length t.entries) (sym same) ∙ length-append s.entries (entry ∷ []) ∙ omega arith

    of_rest : (job : Job) (r : Reduced) → Adds (turn_of_rest A gens mode s job r)
    of_rest job r = by r.over r.rest
      where
        by : (over : Bool) (rest : Polynomial) → Adds (if over then Over DegreeOver else elim rest [
          | [] ↦ On (with_entry s job (Zero job r.trace))
          | t ∷ f ↦ if nat_le most_elements (length s.basis) then Over BasisFull else On (with_element A gens mode s job r)
        ])
        by true rest t' e = absurd cc
        by false [] t' e = entered job (Zero job r.trace) t' e
        by false (t ∷ f) t' e = full (nat_le most_elements (length s.basis)) t' e
          where
            full : (b : Bool) → Adds (if b then Over BasisFull else On (with_element A gens mode s job r))
            full true t' e = absurd cc
            full false t' e =
                let same : with_element A gens mode s job r ≡ t' = cc in
                ap (λ t. length t.entries) (sym same) ∙ length-append s.entries (New job r.trace (inverse A.p (leading_coefficient r.rest)) ∷ []) ∙ omega arith

    of_start : (job : Job) (start : Option Polynomial) → Adds (turn_of_start A gens mode s job start)
    of_start job None t' e = absurd cc
    of_start job (Some h) t' e = of_rest job (reduce A s.basis h) t' e

    of_job : (job : Job) (witness : Option ℕ) → Adds (turn_of_job A gens mode s job witness)
    of_job job (Some k) = entered job (Skipped job k)
    of_job job None = of_start job (start_of A gens s.basis job)

    by_budget : (first : Job) (queue : List Job) (spent : Bool) → nat_le budget (length s.entries) ≡ spent
        → (if spent then Over BudgetSpent else (let job : Job = least_job A gens s.basis s.sugars first queue in turn_of_job A gens mode s job (chain_witness s.basis s.queue job))) ≡ On s'
        → (length s.entries < budget) × (length s'.entries ≡ suc (length s.entries))
    by_budget first queue true t e = absurd cc
    by_budget first queue false t e =
        (grind (arith, nat_tests), of_job (least_job A gens s.basis s.sugars first queue) (chain_witness s.basis s.queue (least_job A gens s.basis s.sugars first queue)) s' e)

    by_queue : (queue : List Job) → s.queue ≡ queue → (elim queue [
      | [] ↦ Over Finished
      | first ∷ queue ↦
          if nat_le budget (length s.entries) then Over BudgetSpent
          else (let job : Job = least_job A gens s.basis s.sugars first queue in turn_of_job A gens mode s job (chain_witness s.basis s.queue job))
    ]) ≡ On s' → (length s.entries < budget) × (length s'.entries ≡ suc (length s.entries))
    by_queue [] q e = absurd cc
    by_queue (first ∷ queue) q e = by_budget first queue (nat_le budget (length s.entries)) refl e

-- the run goes on with the next state, with room for an entry less
pub run-goes_on : (A : Algebra) (gens : List Polynomial) (mode : Mode) (budget : ℕ) (s s' : State) → step A gens mode budget s ≡ On s'
    → run_within A gens mode budget (suc (budget - length s.entries)) s ≡ run_within A gens mode budget (suc (budget - length s'.entries)) s'
unfolding run_within
run-goes_on A gens mode budget s s' e =
    let adds : (length s.entries < budget) × (length s'.entries ≡ suc (length s.entries)) = step-adds A gens mode budget s s' e in
    let room : budget - length s.entries ≡ suc (budget - length s'.entries) = omega arith in
    ap (after_turn (run_within A gens mode budget (budget - length s.entries)) s) e ∙ ap (λ k. run_within A gens mode budget k s') room

-- a run that ends here
pub run-ends : (A : Algebra) (gens : List Polynomial) (mode : Mode) (budget k : ℕ) (s : State) (outcome : Outcome) → step A gens mode budget s ≡ Over outcome
    → run_within A gens mode budget (suc k) s ≡ ends_with s outcome
unfolding run_within
run-ends A gens mode budget k s outcome e = ap (after_turn (run_within A gens mode budget k) s) e

-- a list without elements
pub is_empty : {X : Type 0} → (xs : List X) → length xs ≡ 0 → xs ≡ []
is_empty [] e = refl
is_empty (x ∷ xs) e = absurd (omega arith)

-- a number below p that times another is 1 is the inverse
pub scale-is : (p q a b k : ℕ) → IsPrime p → q ≡ p → a ≡ b → (k * a) % q ≡ 1 → k < q → k ≡ inverse p b
scale-is p q a b k prime field same one below =
    let turned : b * k ≡ k * a = rw same (omega arith) in
    inverse_is p b k prime (ap (λ x. x % p) turned ∙ ap (λ x. (k * a) % x) (sym field) ∙ one) (omega arith)

-- the run from the first state on
pub run-first : (A : Algebra) (gens : List Polynomial) (mode : Mode) (budget : ℕ) (s : State) → s ≡ first_state gens
    → machine A gens mode budget ≡ run_within A gens mode budget (suc (budget - length s.entries)) s
unfolding machine
run-first A gens mode budget s e =
    subst (λ (t : State). run_within A gens mode budget (suc budget) (first_state gens) ≡ run_within A gens mode budget (suc (budget - length t.entries)) t) (sym e)
    (ap (λ k. run_within A gens mode budget (suc k) (first_state gens)) (omega arith))
