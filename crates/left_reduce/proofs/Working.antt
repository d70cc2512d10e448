-- The polynomial under reduction, once its next target is found.
use Rattle.std.proofs.Common.{◌≡◌, ℕ, List, ◌∷◌, ◌++◌, drop, Option, Some, None, MatchOption, sym, ap, ◌∙◌, subst, subst₂}
use Rattle.monomials.specs.Orders.{RowOrder, order_cmp}
use Rattle.monomials.specs.Polynomials.{Polynomial, Each, IsPolynomial, poly_add}
use Rattle.gpoly.specs.Terms.{pair_of}
use Rattle.gpoly.specs.Sums.{poly_sum}
use Rattle.word_model.specs.Words.{Algebra}
use Rattle.word_model.specs.Conditions.{IsGAlgebra}
use Rattle.word_model.specs.Reduction.{Goes, next_step}
use Rattle.word_model.specs.declared.records.TraceStep.{TraceStep}
use Rattle.word_model.proofs.LeastNumbers.{first_divisor-found}
use Rattle.left_reduce.specs.Inside.Steps.{target_of, target_by, whole_of, IsWork, IsNext}
use Rattle.left_reduce.specs.declared.targets.Aim.{Aim}
use Rattle.left_reduce.specs.declared.targets.Target.{Target as Found}
use Rattle.left_reduce.specs.declared.targets.Work.{Work}
use Rattle.left_reduce.proofs.Made.{IsPolynomial-second, step-behind}

-- what is so in a field and an order is so in those of the algebra that they were taken from
pub ours : (A taken : Algebra) → taken ≡ A → (p : ℕ) (order : RowOrder) → p ≡ taken.p → order ≡ taken.order
    → (P : ℕ → RowOrder → Type 0) → P p order → P A.p A.order
ours A taken is p order p_is order_is P h = subst₂ P (p_is ∙ ap (λ (a : Algebra). a.p) is) (order_is ∙ ap (λ (a : Algebra). a.order) is) h

-- what is known where the next target was searched for
pub record IsSearched (p : ℕ) (order : RowOrder) (G : List Polynomial) (aim : Aim) (before w : Work) (found : Option Found) : Type 0 where
  pub work : IsWork p order aim G w
  pub whole : whole_of p order w ≡ whole_of p order before
  pub target : MatchOption found (target_by aim G (whole_of p order w) ≡ None) (λ t. target_by aim G (whole_of p order w) ≡ Some (target_of t))
  pub next : MatchOption found (Unit {0}) (λ t. IsNext p order G w t)

module _ (A : Algebra) (G : List Polynomial) (aim : Aim) (before w : Work) (found : Option Found) (at : IsSearched A.p A.order G aim before w found) where
  abbrev whole : Polynomial
  whole = whole_of A.p A.order w

  abbrev behind : Polynomial
  behind = drop 1 (poly_sum (order_cmp A.order.rows) A.p w.rest)

  -- where there is none
  pub none_at : found ≡ None → target_by aim G (whole_of A.p A.order before) ≡ None
  none_at e =
      subst (λ h. target_by aim G h ≡ None) at.whole
      (subst (λ r. MatchOption r (target_by aim G whole ≡ None) (λ t. target_by aim G whole ≡ Some (target_of t))) e at.target)

  module _ (t : Found) (is : found ≡ Some t) where
    pub target_at : target_by aim G whole ≡ Some (target_of t)
    target_at = subst (λ r. MatchOption r (target_by aim G whole ≡ None) (λ t. target_by aim G whole ≡ Some (target_of t))) is at.target

    next_at : IsNext A.p A.order G w t
    next_at = subst (λ r. MatchOption r (Unit {0}) (λ t. IsNext A.p A.order G w t)) is at.next

    split : IsPolynomial A.p A.order (w.passed ++ pair_of t.term ∷ behind)
    split = subst (λ s. IsPolynomial A.p A.order (w.passed ++ s)) next_at.leads at.work.whole

    -- the term and those behind it are sorted
    pub rest_at : IsPolynomial A.p A.order (pair_of t.term ∷ behind)
    rest_at = IsPolynomial-second A.p A.order w.passed (pair_of t.term ∷ behind) split

    module _ (ok : IsGAlgebra A) (elements : Each (IsPolynomial A.p A.order) G) (s : TraceStep) (f : Polynomial)
        (stepped : (h : Polynomial) → next_step A G h (Some (target_of t)) ≡ Goes s (poly_add (order_cmp A.order.rows) A.p h f))
        (after : Work) (passed : after.passed ≡ w.passed)
        (rest : poly_sum (order_cmp A.order.rows) A.p after.rest ≡ poly_add (order_cmp A.order.rows) A.p (poly_sum (order_cmp A.order.rows) A.p w.rest) f) where
      -- the whole, with what was added to the rest
      added : whole_of A.p A.order after ≡ poly_add (order_cmp A.order.rows) A.p whole f
      added =
          (λ j. passed j ++ rest j)
          ∙ ap (λ s. w.passed ++ poly_add (order_cmp A.order.rows) A.p s f) next_at.leads
          ∙ step-behind A ok G elements w.passed (pair_of t.term) behind t.index s
          (poly_add (order_cmp A.order.rows) A.p (w.passed ++ pair_of t.term ∷ behind) f) (poly_add (order_cmp A.order.rows) A.p (pair_of t.term ∷ behind) f)
          split rest_at (first_divisor-found G t.term.mono t.index next_at.divisor)
          (stepped (w.passed ++ pair_of t.term ∷ behind)) (stepped (pair_of t.term ∷ behind))
          ∙ ap (λ s. poly_add (order_cmp A.order.rows) A.p (w.passed ++ s) f) (sym next_at.leads)

      -- the step that is made
      pub made : next_step A G (whole_of A.p A.order before) (target_by aim G (whole_of A.p A.order before)) ≡ Goes s (whole_of A.p A.order after)
      made =
          subst (λ h. next_step A G h (target_by aim G h) ≡ Goes s (whole_of A.p A.order after)) at.whole
          (ap (next_step A G whole) target_at ∙ stepped whole ∙ ap (Goes s) (sym added))
