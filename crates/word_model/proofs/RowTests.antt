-- Rows of polynomials, as tests see them: a test has a weight for each place.
use Rattle.std.proofs.Common.{◌≡◌, ℕ, zero, suc, ◌+◌, ◌-◌, ◌*◌, ◌<◌, ◌≤◌, List, [], ◌∷◌, ◌++◌, map, length, replicate, slice_set, slice_index_or, refl, sym, ap, ◌∙◌, arith}
use Rattle.monomials.specs.Monomials.{Monomial, one}
use Rattle.monomials.specs.Orders.{order_cmp}
use Rattle.monomials.specs.Polynomials.{Polynomial, Each, HasVars, poly_scale}
use Rattle.monomials.proofs.Modulo.{Same, same_refl, same_add}
use Rattle.monomials.proofs.Weights.{weigh, weigh_alike_on, weigh-zero, weigh-sum, weigh-poly_add, weigh-poly_scale}
use Rattle.monomials.proofs.OrderLaws.{order_cmp_tied}
use Rattle.monomials.proofs.Keys.{Each-weaker}
use Rattle.word_model.specs.Words.{Algebra, sorted_word, normal_form}
use Rattle.word_model.specs.Products.{product}
use Rattle.word_model.specs.Conditions.{IsGAlgebra}
use Rattle.word_model.specs.Reduction.{element}
use Rattle.word_model.specs.Cofactors.{Row, row_value, unit_row, row_sub, row_multiple}
use Rattle.word_model.proofs.NormalForms.{row_weight, weigh-product}
use Rattle.word_model.proofs.MultipleWeights.{behind, multiple_shift}
use Rattle.word_model.proofs.Differences.{weigh-sub, weigh-multiple}
use Rattle.word_model.proofs.Monic.{row_weight-one}

-- a weight for each place
abbrev pub Tests : Type 0
Tests = ℕ → Monomial → ℕ

-- what a test sees of a row whose first place is that of number k
abbrev pub see : Tests → ℕ → Row → ℕ
see Φ k [] = 0
see Φ k (q ∷ row) = weigh (Φ k) q + see Φ (suc k) row

-- a test from behind a monomial
abbrev pub behind_all : Algebra → Monomial → Tests → Tests
behind_all A u Φ = λ s. behind A u (Φ s)

module _ (A : Algebra) (ok : IsGAlgebra A) where
  pub see-sub : (Φ : Tests) (k : ℕ) (r q : Row) → length r ≡ length q → Same A.p (see Φ k (row_sub A r q)) (see Φ k r + (A.p - 1) * see Φ k q)
  see-sub Φ k [] [] e = same_refl A.p _ _ (omega arith)
  see-sub Φ k [] (y ∷ q) e = absurd (omega arith)
  see-sub Φ k (x ∷ r) [] e = absurd (omega arith)
  see-sub Φ k (x ∷ r) (y ∷ q) e =
      same_add A.p _ _ _ _ (weigh-sub A ok (Φ k) x y) (see-sub Φ (suc k) r q (omega arith))
      ∙ same_refl A.p _ _ (regroup (A.p - 1) (weigh (Φ k) x) (weigh (Φ k) y) (see Φ (suc k) r) (see Φ (suc k) q))
    where
      regroup : (e x y r q : ℕ) → (x + e * y) + (r + e * q) ≡ (x + r) + e * (y + q)
      regroup e x y r q = omega arith

  spread : (c x y : ℕ) → c * x + c * y ≡ c * (x + y)
  spread c x y = omega arith

  pub see-multiple : (Φ : Tests) (k c : ℕ) (m : Monomial) (r : Row) → Same A.p (see Φ k (row_multiple A c m r)) (c * see (behind_all A m Φ) k r)
  see-multiple Φ k c m [] = same_refl A.p _ _ (omega arith)
  see-multiple Φ k c m (q ∷ r) =
      same_add A.p _ _ _ _ (weigh-multiple A ok (Φ k) c m q) (see-multiple Φ (suc k) c m r)
      ∙ same_refl A.p _ _ (spread c (weigh (behind A m (Φ k)) q) (see (behind_all A m Φ) (suc k) r))

  pub see-scale : (Φ : Tests) (k c : ℕ) (r : Row) → Same A.p (see Φ k (map (poly_scale A.p c) r)) (c * see Φ k r)
  see-scale Φ k c [] = same_refl A.p _ _ (omega arith)
  see-scale Φ k c (q ∷ r) =
      same_add A.p _ _ _ _ (weigh-poly_scale A.p (Φ k) c q) (see-scale Φ (suc k) c r) ∙ same_refl A.p _ _ (spread c (weigh (Φ k) q) (see Φ (suc k) r))

  pub see-one : (Φ : Tests) (k : ℕ) (r : Row) → Each (HasVars A.order.vars) r → Same A.p (see (behind_all A (one A.order.vars) Φ) k r) (see Φ k r)
  see-one Φ k [] h = refl
  see-one Φ k (q ∷ r) h = same_add A.p _ _ _ _ (row_weight-one A (Φ k) q h.0) (see-one Φ (suc k) r h.1)

  -- u times m times a row, by the terms of the product of u and m
  pub see-shift : (u m : Monomial) → length u ≡ A.order.vars → length m ≡ A.order.vars → (Φ : Tests) (k : ℕ) (r : Row) → Each (HasVars A.order.vars) r
      → Same A.p (see (behind_all A m (behind_all A u Φ)) k r) (weigh (λ x. see (behind_all A x Φ) k r) (normal_form A (sorted_word u ++ sorted_word m)))
  see-shift u m hu hm Φ k [] h = same_refl A.p _ _ (sym (weigh-zero (normal_form A (sorted_word u ++ sorted_word m))))
  see-shift u m hu hm Φ k (q ∷ r) h =
      same_add A.p _ _ _ _ (multiple_shift A ok u m hu hm q h.0 (Φ k)) (see-shift u m hu hm Φ (suc k) r h.1)
      ∙ same_refl A.p _ _ (sym (weigh-sum (row_weight A (Φ k) q) (λ x. see (behind_all A x Φ) (suc k) r) (normal_form A (sorted_word u ++ sorted_word m))))

  -- ---- unit rows

  see-zeros : (Φ : Tests) (k g : ℕ) → see Φ k (replicate g []) ≡ 0
  see-zeros Φ k zero = refl
  see-zeros Φ k (suc g) = omega (arith, see-zeros Φ (suc k) g)

  see-place : (Φ : Tests) (x : Polynomial) (j g k : ℕ) → k < g → see Φ j (slice_set (replicate g []) k x) ≡ weigh (Φ (j + k)) x
  see-place Φ x j zero k below = absurd (omega arith)
  see-place Φ x j (suc g) zero below = let z : j ≡ j + 0 = omega arith in omega (arith, see-zeros Φ (suc j) g, ap (λ i. weigh (Φ i) x) z)
  see-place Φ x j (suc g) (suc k) below = let z : suc j + k ≡ j + suc k = omega arith in omega (arith, see-place Φ x (suc j) g k (omega arith), ap (λ i. weigh (Φ i) x) z)

  pub see-unit : (Φ : Tests) (g s : ℕ) → 1 ≤ s → s ≤ g → see Φ 1 (unit_row A g s) ≡ Φ s (one A.order.vars)
  see-unit Φ g s low high =
      let z : 1 + (s - 1) ≡ s = omega arith in
      see-place Φ ((1, one A.order.vars) ∷ []) 1 g (s - 1) (omega arith) ∙ ap (λ i. weigh (Φ i) ((1, one A.order.vars) ∷ [])) z ∙ once (Φ s (one A.order.vars))
    where
      once : (x : ℕ) → 1 * x + 0 ≡ x
      once x = omega arith

  -- ---- tests that see values

  module _ (gens : List Polynomial) where
    abbrev pub value_test : (Monomial → ℕ) → Tests
    value_test φ = λ s. row_weight A φ (element gens s)

    value_from : (φ : Monomial → ℕ) (k : ℕ) (r : Row) (H : List Polynomial) → length r ≤ length H → ((j : ℕ) → j < length H → slice_index_or H j [] ≡ element gens (k + j))
        → Same A.p (weigh φ (row_value A r H)) (see (value_test φ) k r)
    value_from φ k [] H few at = refl
    value_from φ k (q ∷ r) [] few at = absurd (omega arith)
    value_from φ k (q ∷ r) (f ∷ H) few at =
        weigh-poly_add (order_cmp A.order.rows) (order_cmp_tied A.order.rows) A.p φ (product A q f) (row_value A r H)
        ∙ same_add A.p _ _ _ _ (weigh-product A φ q f ∙ same_refl A.p _ _ (ap (λ g. weigh (row_weight A φ g) q) here))
        (value_from φ (suc k) r H (omega arith) (λ j below. at (suc j) (omega arith) ∙ ap (element gens) (next j)))
      where
        next : (j : ℕ) → k + suc j ≡ suc k + j
        next j = omega arith

        none : k + 0 ≡ k
        none = omega arith

        here : f ≡ element gens k
        here = at 0 (omega arith) ∙ ap (element gens) none

    -- such a test sees the row's value
    pub see-value : (φ : Monomial → ℕ) (r : Row) → length r ≤ length gens → Same A.p (weigh φ (row_value A r gens)) (see (value_test φ) 1 r)
    see-value φ r few = value_from φ 1 r gens few (λ j below. at j)
      where
        at : (j : ℕ) → slice_index_or gens j [] ≡ element gens (1 + j)
        at j = let z : j ≡ 1 + j - 1 = omega arith in ap (λ n. slice_index_or gens n []) z

    element_vars : (H : List Polynomial) → Each (HasVars A.order.vars) H → (k : ℕ) → HasVars A.order.vars (slice_index_or H k [])
    element_vars [] h k = tt
    element_vars (g ∷ H) h zero = h.0
    element_vars (g ∷ H) h (suc k) = element_vars H h.1 k

    -- and behind a monomial, the value behind it
    pub shift-value : Each (HasVars A.order.vars) gens → (m : Monomial) → length m ≡ A.order.vars → (φ : Monomial → ℕ) (k : ℕ) (r : Row) → Each (HasVars A.order.vars) r
        → Same A.p (see (behind_all A m (value_test φ)) k r) (see (value_test (behind A m φ)) k r)
    shift-value vars m hm φ k [] h = refl
    shift-value vars m hm φ k (q ∷ r) h =
        same_add A.p _ _ _ _
        (weigh_alike_on A.p (behind A m (row_weight A φ (element gens k))) (row_weight A (behind A m φ) (element gens k)) q
        (Each-weaker _ _ (λ t len. sym (multiple_shift A ok m t.1 hm len (element gens k) (element_vars gens vars (k - 1)) φ)) q h.0))
        (shift-value vars m hm φ (suc k) r h.1)
