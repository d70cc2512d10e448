-- The run of the machine grows at its end: a step adds an entry, and what was done stays.
use Rattle.std.proofs.Common.{◌≡◌, ℕ, zero, suc, nat_le, ◌⊎◌, inl, inr, Bool, true, false, List, [], ◌∷◌, ◌++◌, length, Option, Some, None, if◌then◌else◌, refl, sym, ap, ◌∙◌, subst, append_assoc, append-nil}
use Rattle.prime_field.specs.Modular.{inverse}
use Rattle.monomials.specs.Polynomials.{Polynomial, poly_scale}
use Rattle.monomials.specs.Leading.{leading_coefficient}
use Rattle.word_model.specs.Words.{Algebra}
use Rattle.word_model.specs.Reduction.{Reduced, reduce}
use Rattle.word_model.specs.Jobs.{without, least_job, start_of, chain_witness}
use Rattle.word_model.specs.Machine.{State, Turn, On, Over, Journal, step, turn_of_job, turn_of_start, turn_of_rest, with_entry, with_element, jobs_of, run_within, after_turn, ends_with, most_elements}
use Rattle.word_model.specs.declared.records.Job.{Job}
use Rattle.word_model.specs.declared.records.Mode.{Mode}
use Rattle.word_model.specs.declared.records.Entry.{Entry}
use Rattle.word_model.specs.declared.records.Entry.TheVariants.{Skipped, Zero, New}
use Rattle.word_model.specs.declared.records.Outcome.{Outcome}
use Rattle.word_model.specs.declared.records.Outcome.TheVariants.{Finished, BudgetSpent, BasisFull, DegreeOver}
use Rattle.commit_core.specs.Leads.{IsPart, job_of}

-- ---- a step of the machine that goes on

-- it adds an entry, at most an element, and the jobs that this brings, and only its own job leaves
pub record Grew (s t : State) : Type 0 where
  pub entry : Entry
  pub entries : t.entries ≡ s.entries ++ entry ∷ []
  pub basis : (t.basis ≡ s.basis) ⊎ ((g : Polynomial) × (t.basis ≡ s.basis ++ g ∷ []))
  pub jobs : List Job
  pub queue : t.queue ≡ without (job_of entry) s.queue ++ jobs

pub step-grew : (A : Algebra) (gens : List Polynomial) (mode : Mode) (budget : ℕ) (s s' : State) → step A gens mode budget s ≡ On s' → Grew s s'
unfolding step
step-grew A gens mode budget s s' e = by_queue s.queue refl e
  where
    Goes : Turn → Type 0
    Goes turn = (t : State) → turn ≡ On t → Grew s t

    entered : (job : Job) (entry : Entry) → job_of entry ≡ job → Goes (On (with_entry s job entry))
    entered job entry of t e = let same : with_entry s job entry ≡ t = cc in subst (Grew s) same record {
      entry = entry;
      entries = refl;
      basis = inl refl;
      jobs = [];
      queue = ap (λ j. without j s.queue) (sym of) ∙ sym (append-nil (without (job_of entry) s.queue));
    }

    of_rest : (job : Job) (r : Reduced) → Goes (turn_of_rest A gens mode s job r)
    of_rest job r = by r.over r.rest
      where
        by : (over : Bool) (rest : Polynomial) → Goes (if over then Over DegreeOver else elim rest [
          | [] ↦ On (with_entry s job (Zero job r.trace))
          | t ∷ f ↦ if nat_le most_elements (length s.basis) then Over BasisFull else On (with_element A gens mode s job r)
        ])
        by true rest t e = absurd cc
        by false [] t e = entered job (Zero job r.trace) refl t e
        by false (x ∷ f) t e = full (nat_le most_elements (length s.basis)) t e
          where
            full : (b : Bool) → Goes (if b then Over BasisFull else On (with_element A gens mode s job r))
            full true t e = absurd cc
            full false t e =
                let same : with_element A gens mode s job r ≡ t = cc in
                let scale : ℕ = inverse A.p (leading_coefficient r.rest) in
                subst (Grew s) same record {
                  entry = New job r.trace scale;
                  entries = refl;
                  basis = inr (poly_scale A.p scale r.rest, refl);
                  jobs = jobs_of mode A.order.vars (suc (length s.basis));
                  queue = refl;
                }

    of_start : (job : Job) (start : Option Polynomial) → Goes (turn_of_start A gens mode s job start)
    of_start job None t e = absurd cc
    of_start job (Some h) t e = of_rest job (reduce A s.basis h) t e

    of_job : (job : Job) (witness : Option ℕ) → Goes (turn_of_job A gens mode s job witness)
    of_job job (Some k) = entered job (Skipped job k) refl
    of_job job None = of_start job (start_of A gens s.basis job)

    by_budget : (first : Job) (queue : List Job) (spent : Bool)
        → (if spent then Over BudgetSpent else (let job : Job = least_job A gens s.basis s.sugars first queue in turn_of_job A gens mode s job (chain_witness s.basis s.queue job))) ≡ On s' → Grew s s'
    by_budget first queue true e = absurd cc
    by_budget first queue false e = of_job (least_job A gens s.basis s.sugars first queue) (chain_witness s.basis s.queue (least_job A gens s.basis s.sugars first queue)) s' e

    by_queue : (queue : List Job) → s.queue ≡ queue → (elim queue [
      | [] ↦ Over Finished
      | first ∷ queue ↦
          if nat_le budget (length s.entries) then Over BudgetSpent
          else (let job : Job = least_job A gens s.basis s.sugars first queue in turn_of_job A gens mode s job (chain_witness s.basis s.queue job))
    ]) ≡ On s' → Grew s s'
    by_queue [] q e = absurd cc
    by_queue (first ∷ queue) q e = by_budget first queue (nat_le budget (length s.entries)) e

-- ---- the commits are a part of the machine's run

part-more : (s t : State) (j : Journal) → Grew s t → IsPart t.entries t.basis None j → IsPart s.entries s.basis None j
part-more s t j grew part = record {
  entries = (grew.entry ∷ part.entries.0, part.entries.1 ∙ ap (λ e. e ++ part.entries.0) grew.entries ∙ append_assoc s.entries (grew.entry ∷ []) part.entries.0);
  basis = elim grew.basis [
    | inl same ↦ (part.basis.0, part.basis.1 ∙ ap (λ G. G ++ part.basis.0) same)
    | inr more ↦ (more.0 ∷ part.basis.0, part.basis.1 ∙ ap (λ G. G ++ part.basis.0) more.1 ∙ append_assoc s.basis (more.0 ∷ []) part.basis.0)
  ];
  over = tt;
}

part-here : (s : State) (outcome : Outcome) → IsPart s.entries s.basis None (ends_with s outcome)
part-here s outcome = record { entries = ([], sym (append-nil s.entries)); basis = ([], sym (append-nil s.basis)); over = tt }

pub run-part : (A : Algebra) (gens : List Polynomial) (mode : Mode) (budget k : ℕ) (s : State) → IsPart s.entries s.basis None (run_within A gens mode budget k s)
unfolding run_within
run-part A gens mode budget zero s = part-here s BudgetSpent
run-part A gens mode budget (suc k) s = by (step A gens mode budget s) refl (run-part A gens mode budget k)
  where
    by : (turn : Turn) → step A gens mode budget s ≡ turn → ((t : State) → IsPart t.entries t.basis None (run_within A gens mode budget k t))
        → IsPart s.entries s.basis None (after_turn (run_within A gens mode budget k) s turn)
    by (On t) e ih = part-more s t (run_within A gens mode budget k t) (step-grew A gens mode budget s t e) (ih t)
    by (Over outcome) e ih = part-here s outcome
