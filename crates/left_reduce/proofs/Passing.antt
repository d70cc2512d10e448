-- Terms that a reduction passes over, and its target behind them.
use Rattle.std.proofs.Common.{◌≡◌, ℕ, ◌≤◌, List, [], ◌∷◌, ◌++◌, Some, None, refl, sym, ap, ◌∙◌, subst, append_assoc}
use Rattle.monomials.specs.Monomials.{Monomial, degree}
use Rattle.monomials.specs.Orders.{RowOrder, order_cmp}
use Rattle.monomials.specs.Polynomials.{Polynomial, IsCanonical, IsPolynomial}
use Rattle.monomials.proofs.Keys.{Each-append}
use Rattle.std.specs.declared.cmp.Ordering.{Ordering}
use Rattle.gpoly.specs.Terms.{IsTermList}
use Rattle.gpoly.proofs.TermLists.{IsTermList-canonical}
use Rattle.word_model.specs.Reduction.{first_divisor, target_at, target_or, leading_target, greatest_target}
use Rattle.word_model.proofs.Targets.{greatest_target-behind}
use Rattle.left_reduce.specs.Inside.Steps.{target_by, divisor_by, Passes, IsPassed}
use Rattle.left_reduce.specs.declared.targets.Aim.{Aim}
use Rattle.left_reduce.specs.declared.targets.Aim.TheVariants.{Leading, Greatest, Tail}

module _ (G : List Polynomial) where
  -- the target behind terms that are passed over
  pub target-here : (aim : Aim) (f : Polynomial) (t : ℕ × Monomial) (r : Polynomial) (i : ℕ) → IsPassed aim G f → divisor_by aim G f t.1 ≡ Some i
      → target_by aim G (f ++ t ∷ r) ≡ Some (t, i)
  target-here Leading f t r i passed e = ap (λ f. leading_target G (f ++ t ∷ r)) passed ∙ ap (target_at t) e
  target-here Greatest f t r i passed e =
      greatest_target-behind G f (t ∷ r) passed ∙ ap (λ o. target_or (target_at t o) (greatest_target G r)) e
  target-here Tail [] t r i passed e = cc
  target-here Tail (u ∷ f) t r i passed e =
      greatest_target-behind G f (t ∷ r) passed ∙ ap (λ o. target_or (target_at t o) (greatest_target G r)) e

  -- a reduction of the leading term ends where that has no divisor
  pub target-stops : (f : Polynomial) (t : ℕ × Monomial) (r : Polynomial) → f ≡ [] → first_divisor G t.1 ≡ None → leading_target G (f ++ t ∷ r) ≡ None
  target-stops f t r passed e = ap (λ f. leading_target G (f ++ t ∷ r)) passed ∙ ap (target_at t) e

  -- there is no target where nothing is left
  pub target-none : (aim : Aim) (f : Polynomial) → IsPassed aim G f → target_by aim G (f ++ []) ≡ None
  target-none Leading f passed = ap (λ f. leading_target G (f ++ [])) passed
  target-none Greatest f passed = greatest_target-behind G f [] passed
  target-none Tail [] passed = refl
  target-none Tail (u ∷ f) passed = greatest_target-behind G f [] passed

  -- one more term is passed over
  pub passed-more : (aim : Aim) (f : Polynomial) (t : ℕ × Monomial) → Passes aim → IsPassed aim G f → divisor_by aim G f t.1 ≡ None → IsPassed aim G (f ++ t ∷ [])
  passed-more Leading f t passes passed e = absurd passes
  passed-more Greatest f t passes passed e = Each-append _ f (t ∷ []) passed (e, tt)
  passed-more Tail [] t passes passed e = tt
  passed-more Tail (u ∷ f) t passes passed e = Each-append _ f (t ∷ []) passed (e, tt)

  -- no term is passed over at first
  pub passed-none : (aim : Aim) → IsPassed aim G []
  passed-none Leading = refl
  passed-none Greatest = tt
  passed-none Tail = tt

  -- a divisor is the first one
  pub divisor-first : (aim : Aim) (f : Polynomial) (m : Monomial) (i : ℕ) → divisor_by aim G f m ≡ Some i → first_divisor G m ≡ Some i
  divisor-first Leading f m i e = e
  divisor-first Greatest f m i e = e
  divisor-first Tail [] m i e = cc
  divisor-first Tail (u ∷ f) m i e = e

-- the first terms of a canonical polynomial
IsCanonical-first : (cmp : Monomial → Monomial → Ordering) (p : ℕ) (f r : Polynomial) → IsCanonical cmp p (f ++ r) → IsCanonical cmp p f
IsCanonical-first cmp p [] r h = tt
IsCanonical-first cmp p (t ∷ []) r h = (h.0, h.1, tt, tt)
IsCanonical-first cmp p (t ∷ u ∷ f) r h = (h.0, h.1, h.2, IsCanonical-first cmp p (u ∷ f) r h.3)

-- the first terms of a sorted polynomial, with one more of small degree
pub IsTermList-front : (p : ℕ) (order : RowOrder) (f : Polynomial) (t : ℕ × Monomial) (r : Polynomial) → IsPolynomial p order (f ++ t ∷ r)
    → IsTermList f → degree t.1 ≤ 4095 → IsTermList (f ++ t ∷ [])
IsTermList-front p order f t r h facts small =
    IsTermList-canonical p order (f ++ t ∷ [])
    (IsCanonical-first (order_cmp order.rows) p (f ++ t ∷ []) r (subst (IsCanonical (order_cmp order.rows) p) (sym (append_assoc f (t ∷ []) r)) h.canonical))
    (Each-append _ f (t ∷ []) facts.small (small, tt))

-- terms of small degrees that are sorted together
pub IsTermList-whole : (p : ℕ) (order : RowOrder) (f r : Polynomial) → IsPolynomial p order (f ++ r) → IsTermList f → IsTermList r → IsTermList (f ++ r)
IsTermList-whole p order f r h f_facts r_facts =
    IsTermList-canonical p order (f ++ r) h.canonical (Each-append _ f r f_facts.small r_facts.small)
