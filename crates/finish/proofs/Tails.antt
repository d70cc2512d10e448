-- A reduction of the tail leaves the leading term.
use Rattle.std.proofs.Common.{◌≡◌, ◌≢◌, ℕ, zero, suc, List, [], ◌∷◌, ◌++◌, Option, None, Some, refl, sym, ap, ◌∙◌, subst}
use Rattle.monomials.specs.Monomials.{Monomial}
use Rattle.monomials.specs.Polynomials.{Polynomial, Each, IsPolynomial}
use Rattle.word_model.specs.Words.{Algebra}
use Rattle.word_model.specs.Conditions.{IsGAlgebra}
use Rattle.word_model.specs.Reduction.{element, Target, greatest_target, tail_target, step_by, less_step, Next, Ends, Undefined, Goes, next_step, after_step, steps_within, enough_steps, reduce_tail}
use Rattle.word_model.specs.Machine.{IsElement}
use Rattle.word_model.proofs.Targets.{IsBelow, IsPicked, greatest_target-falls}
use Rattle.word_model.proofs.Multiples.{step-cancels}
use Rattle.word_model.proofs.Reductions.{next_step-goes, next_step-sorted, reduce_tail-sorted}
use Rattle.word_model.specs.declared.records.TraceStep.{TraceStep}

module _ (A : Algebra) (ok : IsGAlgebra A) (K : List Polynomial) (elements : Each (IsPolynomial A.p A.order) K) where
  abbrev IsOf : Polynomial → Type 0
  IsOf f = IsPolynomial A.p A.order f

  -- one step leaves it
  step_leaves : (t : ℕ × Monomial) (f : Polynomial) (s : TraceStep) (h : Polynomial) → IsOf (t ∷ f) → next_step A K (t ∷ f) (tail_target K (t ∷ f)) ≡ Goes s h
      → (r : Polynomial) × (h ≡ t ∷ r)
  step_leaves t f s h is e = by (greatest_target K f) refl e
    where
      by : (o : Option Target) → greatest_target K f ≡ o → next_step A K (t ∷ f) o ≡ Goes s h → (r : Polynomial) × (h ≡ t ∷ r)
      by None at e = cc
      by (Some (u, i)) at e =
          let picked : IsPicked A K (greatest_target K) f u i = greatest_target-falls A K f u i at in
          let whole : t ∷ f ≡ (t ∷ picked.above) ++ u ∷ picked.rest = ap (λ f. t ∷ f) picked.is in
          let left : (r : Polynomial) × (less_step A K ((t ∷ picked.above) ++ u ∷ picked.rest) (step_by A u i (element K i)) ≡ (t ∷ picked.above) ++ r) × IsBelow A u.1 r =
          step-cancels A ok K elements (t ∷ picked.above) u picked.rest (subst IsOf whole is) i picked.divisor in
          (picked.above ++ left.0, sym (next_step-goes A K (t ∷ f) u i s h e).2 ∙ ap (λ f. less_step A K f (step_by A u i (element K i))) whole ∙ left.1)

  -- and so do all
  steps_leave : (k : ℕ) (t : ℕ × Monomial) (f : Polynomial) → IsOf (t ∷ f) → (r : Polynomial) × ((steps_within A K (tail_target K) k (t ∷ f)).rest ≡ t ∷ r)
  unfolding steps_within
  steps_leave zero t f is = (f, refl)
  steps_leave (suc k) t f is = by (next_step A K (t ∷ f) (tail_target K (t ∷ f))) refl (steps_leave k)
    where
      by : (n : Next) → next_step A K (t ∷ f) (tail_target K (t ∷ f)) ≡ n
          → ((t : ℕ × Monomial) (f : Polynomial) → IsOf (t ∷ f) → (r : Polynomial) × ((steps_within A K (tail_target K) k (t ∷ f)).rest ≡ t ∷ r))
          → (r : Polynomial) × ((after_step (steps_within A K (tail_target K) k) (t ∷ f) n).rest ≡ t ∷ r)
      by Ends e ih = (f, refl)
      by Undefined e ih = (f, refl)
      by (Goes s h) e ih =
          let left : (r : Polynomial) × (h ≡ t ∷ r) = step_leaves t f s h is e in
          let sorted : IsOf h = next_step-sorted A ok K elements (t ∷ f) (tail_target K (t ∷ f)) s h is e in
          subst (λ h. (r : Polynomial) × ((steps_within A K (tail_target K) k h).rest ≡ t ∷ r)) (sym left.1) (ih t left.0 (subst IsOf left.1 sorted))

  -- what is left of an element is one
  pub reduce_tail-element : (g : Polynomial) → g ≢ [] → IsOf g → IsElement A (reduce_tail A K g).rest
  unfolding reduce_tail
  reduce_tail-element [] nonzero is = absurd (nonzero refl)
  reduce_tail-element (t ∷ f) nonzero is = (
    reduce_tail-sorted A ok K elements (t ∷ f) is,
    λ none. (let left : (r : Polynomial) × ((steps_within A K (tail_target K) (enough_steps A.order.vars (t ∷ f)) (t ∷ f)).rest ≡ t ∷ r) = steps_leave (enough_steps A.order.vars (t ∷ f)) t f is in
        let no : t ∷ left.0 ≡ [] = sym left.1 ∙ none in cc),
  )
