-- Differences and multiples of polynomials of an algebra: what they weigh, and what monomials they have.
use Rattle.std.proofs.Common.{◌≡◌, ℕ, ◌+◌, ◌-◌, ◌*◌, [], ◌∷◌, length, refl, sym, ◌∙◌, subst, arith}
use Rattle.monomials.specs.Monomials.{Monomial, plus}
use Rattle.monomials.specs.Orders.{order_cmp}
use Rattle.monomials.specs.Leading.{leading_monomial}
use Rattle.monomials.specs.Polynomials.{Polynomial, IsPolynomial, poly_scale, poly_sub}
use Rattle.monomials.proofs.Modulo.{Same, same_refl, same_add}
use Rattle.monomials.proofs.Weights.{weigh, weigh-poly_add, weigh-poly_scale}
use Rattle.monomials.proofs.OrderLaws.{order_cmp_tied}
use Rattle.monomials.proofs.Keys.{EachKey, EachKey-poly_add, EachKey-poly_scale}
use Rattle.monomials.proofs.Operations.{IsPolynomial-poly_add, IsPolynomial-poly_scale}
use Rattle.word_model.specs.Words.{Algebra}
use Rattle.word_model.specs.Conditions.{IsGAlgebra}
use Rattle.word_model.specs.Reduction.{multiple}
use Rattle.word_model.specs.Machine.{IsElement}
use Rattle.word_model.proofs.NormalForms.{row_weight, weigh-product, product_is_polynomial}
use Rattle.word_model.proofs.LeadingMonomials.{order}
use Rattle.word_model.proofs.Multiples.{IsAtMost, at_most_leading, multiple-scale, multiple-leading}
use Rattle.word_model.proofs.Connections.{positive}

module _ (A : Algebra) (ok : IsGAlgebra A) where
  -- the difference
  abbrev pub sub : Polynomial → Polynomial → Polynomial
  sub f g = poly_sub (order_cmp A.order.rows) A.p f g

  pub weigh-sub : (φ : Monomial → ℕ) (f g : Polynomial) → Same A.p (weigh φ (sub f g)) (weigh φ f + (A.p - 1) * weigh φ g)
  weigh-sub φ f g =
      weigh-poly_add (order A) (order_cmp_tied A.order.rows) A.p φ f (poly_scale A.p (A.p - 1) g)
      ∙ same_add A.p (weigh φ f) (weigh φ f) _ _ refl (weigh-poly_scale A.p φ (A.p - 1) g)

  pub scale_is : (c : ℕ) (f : Polynomial) → IsPolynomial A.p A.order f → IsPolynomial A.p A.order (poly_scale A.p c f)
  scale_is c f f_is = IsPolynomial-poly_scale A.p A.order (positive A ok) c f f_is

  pub sub_is : (f g : Polynomial) → IsPolynomial A.p A.order f → IsPolynomial A.p A.order g → IsPolynomial A.p A.order (sub f g)
  sub_is f g f_is g_is = IsPolynomial-poly_add A.p A.order (positive A ok) f (poly_scale A.p (A.p - 1) g) f_is (scale_is (A.p - 1) g g_is)

  pub EachKey-sub : (Q : Monomial → Type 0) (f g : Polynomial) → EachKey Q f → EachKey Q g → EachKey Q (sub f g)
  EachKey-sub Q f g hf hg = EachKey-poly_add (order A) A.p Q f (poly_scale A.p (A.p - 1) g) hf (EachKey-poly_scale A.p Q (A.p - 1) g hg)

  pub multiple_is : (c : ℕ) (m : Monomial) (g : Polynomial) → IsPolynomial A.p A.order (multiple A c m g)
  multiple_is c m g = product_is_polynomial A ok.field.more ((c, m) ∷ []) g

  pub weigh-multiple : (φ : Monomial → ℕ) (c : ℕ) (m : Monomial) (g : Polynomial) → Same A.p (weigh φ (multiple A c m g)) (c * row_weight A φ g m)
  weigh-multiple φ c m g =
      let plain : c * row_weight A φ g m + 0 ≡ c * row_weight A φ g m = omega arith in
      weigh-product A φ ((c, m) ∷ []) g ∙ same_refl A.p _ _ plain

  -- no monomial of m g is above the product of m and the leading monomial of g
  pub multiple_at_most : (c : ℕ) (m : Monomial) (g : Polynomial) → length m ≡ A.order.vars → IsElement A g
      → EachKey (IsAtMost A (plus m (leading_monomial g))) (multiple A c m g)
  multiple_at_most c m g hm el =
      let Q : Monomial → Type 0 = IsAtMost A (plus m (leading_monomial g)) in
      subst (EachKey Q) (sym (multiple-scale A ok c m g hm el.0))
      (EachKey-poly_scale A.p Q c (multiple A 1 m g)
      (subst (λ t. EachKey (IsAtMost A t) (multiple A 1 m g)) (multiple-leading A ok m g hm el.0 el.1).1
      (at_most_leading A (multiple A 1 m g) (multiple_is 1 m g).canonical)))
