-- A Spec that agrees with a lead is good for it, and so is one that was made, for what it was made over.
use Rattle.std.proofs.Common.{◌≡◌, ◌≢◌, ℕ, zero, suc, ◌-◌, ◌<◌, ◌≤◌, inl, inr, Bool, true, false, List, [], ◌∷◌, length, take, drop, slice_index_or, Option, Some, None, if◌then◌else◌, le_refl, refl, sym, ap, ◌∙◌, subst, arith, take_all}
use Rattle.std.proofs.lemmas.Bool.{cases_lt}
use Rattle.std.proofs.lemmas.Bool.Decides.{nat_tests}
use Rattle.std.proofs.lemmas.List.{take-append-drop, length-take-le}
use Rattle.monomials.specs.Polynomials.{Polynomial, Each, HasVars, IsPolynomial}
use Rattle.monomials.specs.Leading.{leading_monomial}
use Rattle.monomials.proofs.Keys.{Each-first, Each-weaker}
use Rattle.word_model.specs.Words.{Algebra}
use Rattle.word_model.specs.Conditions.{IsGAlgebra}
use Rattle.word_model.specs.Products.{product, variable_polynomial, in_reach}
use Rattle.word_model.specs.Reduction.{element, leading_target, Reduced, reduce}
use Rattle.word_model.specs.Jobs.{start_of, s_polynomial, both_within, IsJob}
use Rattle.word_model.specs.Machine.{IsElement}
use Rattle.word_model.specs.declared.records.Job.{Job}
use Rattle.word_model.specs.declared.records.Job.TheVariants.{Seed, Pair, Right}
use Rattle.word_model.specs.declared.records.TraceStep.{TraceStep}
use Rattle.word_model.proofs.LeastNumbers.{Each-element}
use Rattle.word_model.proofs.Steps.{start_of-sorted}
use Rattle.left_reduce.specs.Reductions.{SameLeads, SameUsed}
use Rattle.left_reduce.proofs.Agreeing.{same_reduction}
use Rattle.run_records.specs.Ahead.{ReducedStart}
use Rattle.commit_core.specs.Leads.{Run, IsLead}
use Rattle.commit_core.specs.Specs.{IsGood, IsAhead, names_within, spec_from, spec_over}
use Rattle.commit_core.proofs.Continuing.{good-rest}
use Rattle.crew.specs.Sealing.{SealedSpec, IsSealed, SameStart, Agrees}

-- ---- first elements

-- an element of the first ones
index-take : (G : List Polynomial) (m k : ℕ) → k < m → slice_index_or (take m G) k [] ≡ slice_index_or G k []
index-take [] zero k low = refl
index-take [] (suc m) k low = refl
index-take (g ∷ G) zero k low = absurd (omega arith)
index-take (g ∷ G) (suc m) zero low = refl
index-take (g ∷ G) (suc m) (suc k) low = index-take G m k (omega arith)

index-out : (G : List Polynomial) (k : ℕ) → length G ≤ k → slice_index_or G k [] ≡ []
index-out [] k high = refl
index-out (g ∷ G) zero high = absurd (omega arith)
index-out (g ∷ G) (suc k) high = index-out G k (omega arith)

-- an element that is the same in the whole list is the same among the first ones
same-first : (H G : List Polynomial) (i : ℕ) → length H ≤ length G → element H i ≡ element G i → element H i ≡ element (take (length H) G) i
same-first H G i le same = elim (cases_lt (i - 1) (length H)) [
  | inl low ↦ same ∙ sym (index-take G (length H) (i - 1) low)
  | inr high ↦ index-out H (i - 1) (omega arith) ∙ sym (index-out (take (length H) G) (i - 1) (omega (arith, length-take-le (length H) G le)))
]

same-steps : (H G : List Polynomial) (trace : List TraceStep) → length H ≤ length G → Each (λ s. element H s.index ≡ element G s.index) trace
    → Each (λ s. element H s.index ≡ element (take (length H) G) s.index) trace
same-steps H G [] le h = tt
same-steps H G (s ∷ trace) le h = (same-first H G s.index le h.0, same-steps H G trace le h.1)

Each-take : (P : Polynomial → Type 0) (G : List Polynomial) (m : ℕ) → Each P G → Each P (take m G)
Each-take P G m h = Each-first P (take m G) (drop m G) (subst (Each P) (sym (take-append-drop m G)) h)

polynomials : (A : Algebra) (G : List Polynomial) → Each (IsElement A) G → Each (IsPolynomial A.p A.order) G
polynomials A G h = Each-weaker (IsElement A) (IsPolynomial A.p A.order) (λ g is. is.0) G h

-- ---- the start of a job

pair_start : Algebra → Polynomial → Polynomial → Option Polynomial
pair_start A f g = if both_within f g then Some (s_polynomial A f g) else None

right_start : Algebra → ℕ → Polynomial → Option Polynomial
right_start A v f = if in_reach f (variable_polynomial A v) then Some (product A f (variable_polynomial A v)) else None

same-start : (A : Algebra) (gens H gens' G : List Polynomial) (job : Job) → length H ≤ length G → SameStart gens H gens' G job
    → start_of A gens H job ≡ start_of A gens' (take (length H) G) job
unfolding start_of pair_start right_start
same-start A gens H gens' G (Seed s) le same = ap Some same.1
same-start A gens H gens' G (Pair i j) le same =
    let first : element H i ≡ element (take (length H) G) i = same-first H G i le same.0 in
    let second : element H j ≡ element (take (length H) G) j = same-first H G j le same.1 in
    λ k. pair_start A (first k) (second k)
same-start A gens H gens' G (Right i v) le same = ap (right_start A v) (same-first H G i le same)

same-named : (gens H gens' G : List Polynomial) (m n : ℕ) (job : Job) → IsJob (length gens) m n job → SameStart gens H gens' G job → IsJob (length gens') m n job
same-named gens H gens' G m n (Seed s) named same = (named.0, same.0)
same-named gens H gens' G m n (Pair i j) named same = named
same-named gens H gens' G m n (Right i v) named same = named

-- ---- a Spec that agrees with a lead

module _ (A : Algebra) (ok : IsGAlgebra A) (s : SealedSpec) (run : Run) (s_is : s.algebra ≡ A) (run_is : run.algebra ≡ A) (sealed : IsSealed s) (lead : IsLead run) (agrees : Agrees s run) where
  abbrev H : List Polynomial
  H = s.elements

  abbrev K : List Polynomial
  K = take (length s.elements) run.basis

  within : length H ≤ length run.basis
  within = omega (arith, sealed.prefix, agrees.within)

  gens_are : Each (IsPolynomial A.p A.order) s.generators
  gens_are = subst (λ (B : Algebra). Each (IsPolynomial B.p B.order) s.generators) s_is sealed.generators

  H_are : Each (IsElement A) H
  H_are = subst (λ (B : Algebra). Each (IsElement B) H) s_is sealed.elements

  K_are : Each (IsElement A) K
  K_are = Each-take (IsElement A) run.basis (length H) (subst (λ (B : Algebra). Each (IsElement B) run.basis) run_is lead.elements)

  good : IsGood A s.generators H s.spec
  good = subst (λ (B : Algebra). IsGood B s.generators H s.spec) s_is sealed.good

  ahead : IsAhead A s.generators H s.spec
  ahead = subst (λ (G : List Polynomial). IsAhead A s.generators G s.spec) (ap (λ m. take m H) sealed.prefix ∙ take_all (length H) H (le_refl (length H))) good.ahead

  named : IsJob (length s.generators) (length H) A.order.vars s.spec.job
  named = subst (λ m. IsJob (length s.generators) m A.order.vars s.spec.job) sealed.prefix good.named

  some : (G : List Polynomial) → Each (IsElement A) G → (k : ℕ) → 1 ≤ k → k ≤ length G → element G k ≢ []
  some G are k low high = (Each-element (IsElement A) G k are low high).1

  leads : SameLeads H K
  leads = record {
    long = length-take-le (length H) run.basis within;
    nonzero = λ k low high. (some H H_are k low high, some K K_are k low (omega (arith, high, length-take-le (length H) run.basis within)));
    leads = λ k low high. agrees.leads k low high ∙ ap leading_monomial (sym (index-take run.basis (length H) (k - 1) (omega (arith, low, high))));
  }

  used : SameUsed H K (reduce A H ahead.0)
  used = record {
    steps = subst (Each (λ t. element H t.index ≡ element K t.index)) (sym ahead.2) (same-steps H run.basis s.spec.trace within agrees.steps);
    undefined = λ t e. same-first H run.basis t.1 within (agrees.undefined t (ap (leading_target H) (sym ahead.3) ∙ e));
  }

  same : reduce A K ahead.0 ≡ reduce A H ahead.0
  same =
      same_reduction H K leads A ok (polynomials A H H_are) (polynomials A K K_are) ahead.0
      (start_of-sorted A ok s.generators gens_are H s.spec.job ahead.0 (polynomials A H H_are) named ahead.1)
      used

  agreed : IsGood A run.generators run.basis s.spec
  agreed = record {
    within = agrees.within;
    named = same-named s.generators H run.generators run.basis s.spec.prefix A.order.vars s.spec.job good.named agrees.start;
    ahead = subst (λ m. IsAhead A run.generators (take m run.basis) s.spec) (sym sealed.prefix) (
      ahead.0,
      sym (same-start A s.generators H run.generators run.basis s.spec.job within agrees.start) ∙ ahead.1,
      ap (λ (r : Reduced). r.trace) same ∙ ahead.2,
      ap (λ (r : Reduced). r.rest) same ∙ ahead.3,
    );
  }

pub agrees-good : (s : SealedSpec) (run : Run) → IsGAlgebra run.algebra → IsSealed s → IsLead run → Agrees s run → IsGood run.algebra run.generators run.basis s.spec
agrees-good s run ok sealed lead agrees = agreed run.algebra ok s run agrees.algebra refl sealed lead agrees

-- what is left, and the elements, have an exponent for each variable
pub sealed-vars : (s : SealedSpec) → IsGAlgebra s.algebra → IsSealed s → HasVars s.algebra.order.vars s.spec.rest × Each (HasVars s.algebra.order.vars) s.elements
sealed-vars s ok sealed = (
  (good-rest s.algebra ok s.generators s.elements sealed.generators (polynomials s.algebra s.elements sealed.elements) s.spec sealed.good).vars,
  Each-weaker (IsElement s.algebra) (HasVars s.algebra.order.vars) (λ g is. is.0.vars) s.elements sealed.elements,
)

-- ---- a Spec that was made

named-within : (g n m k : ℕ) (job : Job) → IsJob g m n job → names_within k job ≡ true → IsJob g k n job
named-within g n m k (Seed s) is e = is
named-within g n m k (Pair i j) is e = (is.0, is.1, grind (arith, nat_tests))
named-within g n m k (Right i v) is e = (is.0, grind (arith, nat_tests), is.2, is.3)

pub made-good : (A : Algebra) (gens H : List Polynomial) (job : Job) (spec : ReducedStart) (m : ℕ) → IsJob (length gens) m A.order.vars job → spec_over A gens H (length H) job ≡ Some spec
    → (spec.prefix ≡ length H) × IsGood A gens H spec
made-good A gens H job spec m named e = by (names_within (length H) job) refl (start_of A gens H job) refl e
  where
    by : (t : Bool) → names_within (length H) job ≡ t → (o : Option Polynomial) → start_of A gens H job ≡ o
        → (if t then spec_from A H (length H) job o else None) ≡ Some spec → (spec.prefix ≡ length H) × IsGood A gens H spec
    by false w o is e = cc
    by true w None is e = cc
    by true w (Some start) is e =
        let made : ReducedStart = record { job = job; prefix = length H; trace = (reduce A H start).trace; rest = (reduce A H start).rest } in
        let same : made ≡ spec = cc in
        subst (λ (s : ReducedStart). (s.prefix ≡ length H) × IsGood A gens H s) same (
          refl,
          record {
            within = omega arith;
            named = named-within (length gens) A.order.vars m (length H) job named w;
            ahead = subst (λ (G : List Polynomial). IsAhead A gens G made) (sym (take_all (length H) H (le_refl (length H)))) (start, is, refl, refl);
          },
        )
