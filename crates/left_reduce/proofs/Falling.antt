-- A measure of reductions: how many steps may follow.
use Rattle.std.proofs.Common.{◌≡◌, ℕ, suc, ◌<◌, ◌≤◌, List, Option, Some, None, refl, subst₂}
use Rattle.monomials.specs.Polynomials.{Polynomial, Each, IsPolynomial, poly_degree}
use Rattle.word_model.specs.Words.{Algebra}
use Rattle.word_model.specs.Conditions.{IsGAlgebra}
use Rattle.word_model.specs.Products.{degree_limit}
use Rattle.word_model.specs.Reduction.{Target, Goes, next_step, after_step}
use Rattle.word_model.specs.declared.records.TraceStep.{TraceStep}
use Rattle.word_model.proofs.Ranks.{rank}
use Rattle.word_model.proofs.Reductions.{steps_left, leading-falls, greatest-falls, tail-falls, reduce-next, normal_form_by-next, reduce_tail-next}
use Rattle.left_reduce.specs.Inside.Steps.{target_by, reduction_by}
use Rattle.left_reduce.specs.declared.targets.Aim.{Aim}
use Rattle.left_reduce.specs.declared.targets.Aim.TheVariants.{Leading, Greatest, Tail}

-- how many steps may follow where the next one cancels at this target, and no degree is above D
abbrev pub steps_after : Algebra → ℕ → Option Target → ℕ
steps_after A D None = 0
steps_after A D (Some (t, i)) = suc (rank A.order.rows A.order.vars D t.1)

module _ (A : Algebra) (ok : IsGAlgebra A) where
  same_steps : (D : ℕ) (target : Option Target) → steps_left A ok D target ≡ steps_after A D target
  same_steps D None = refl
  same_steps D (Some (t, i)) = refl

  module _ (G : List Polynomial) (elements : Each (IsPolynomial A.p A.order) G) where
    -- the recursion, without fuel
    pub reduction-next : (aim : Aim) (h : Polynomial) → IsPolynomial A.p A.order h
        → reduction_by aim A G h ≡ after_step (reduction_by aim A G) h (next_step A G h (target_by aim G h))
    reduction-next Leading h h_is = reduce-next A ok G elements h h_is
    reduction-next Greatest h h_is = normal_form_by-next A ok G elements h h_is
    reduction-next Tail h h_is = reduce_tail-next A ok G elements h h_is

    module _ (D : ℕ) (wide : degree_limit ≤ D) (h : Polynomial) (s : TraceStep) (left : Polynomial) (h_is : IsPolynomial A.p A.order h) (low : poly_degree h ≤ D) where
      falls : (aim : Aim) → next_step A G h (target_by aim G h) ≡ Goes s left
          → (poly_degree left ≤ D) × (steps_left A ok D (target_by aim G left) < steps_left A ok D (target_by aim G h))
      falls Leading e = leading-falls A ok G elements D wide h s left h_is low e
      falls Greatest e = greatest-falls A ok G elements D wide h s left h_is low e
      falls Tail e = tail-falls A ok G elements D wide h s left h_is low e

      -- a step raises no degree above D, and fewer steps may follow it
      pub fewer_steps : (aim : Aim) → next_step A G h (target_by aim G h) ≡ Goes s left
          → (poly_degree left ≤ D) × (steps_after A D (target_by aim G left) < steps_after A D (target_by aim G h))
      fewer_steps aim e = (
        (falls aim e).0,
        subst₂ (λ (a b : ℕ). a < b) (same_steps D (target_by aim G left)) (same_steps D (target_by aim G h)) (falls aim e).1,
      )
