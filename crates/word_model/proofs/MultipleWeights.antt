-- Multiples of the elements of a list by monomials: what they weigh, and what a multiple of a multiple weighs.
use Rattle.std.proofs.Common.{◌≡◌, ◌≢◌, ℕ, ◌+◌, ◌*◌, ◌≤◌, ◌⊎◌, Less, true, List, [], ◌∷◌, ◌++◌, length, refl, sym, ap, ◌∙◌, subst, arith}
use Rattle.monomials.specs.Monomials.{Monomial, plus, minus, divides}
use Rattle.monomials.specs.Leading.{leading_monomial}
use Rattle.monomials.specs.Polynomials.{Polynomial, Each, HasVars, IsPolynomial}
use Rattle.monomials.proofs.Modulo.{Same, same_refl}
use Rattle.monomials.proofs.Weights.{weigh}
use Rattle.monomials.proofs.OrderLaws.{order_cmp_total, order_cmp-plus}
use Rattle.monomials.proofs.Keys.{Each-weaker}
use Rattle.word_model.specs.Words.{Algebra, Word, sorted_word, normal_form}
use Rattle.word_model.specs.Products.{product}
use Rattle.word_model.specs.Conditions.{NonZero, IsGAlgebra}
use Rattle.word_model.specs.Reduction.{element}
use Rattle.word_model.specs.Machine.{IsElement}
use Rattle.word_model.proofs.Letters.{Each-both}
use Rattle.word_model.proofs.Termination.{plus-comm}
use Rattle.word_model.proofs.NormalForms.{word_weight, row_weight, weigh-product, normal_form_is_polynomial}
use Rattle.word_model.proofs.Associativity.{product-assoc}
use Rattle.word_model.proofs.LeadingMonomials.{order, Leads, NonZero-below, leads_is, rest_below, pair_leads, row_leads}
use Rattle.word_model.proofs.PairCofactors.{length-leading_monomial}
use Rattle.word_model.proofs.Divisions.{length-minus, plus-minus}
use Rattle.word_model.proofs.CommonMultiples.{length-plus, plus-assoc, minus-plus, divides-plus}

-- ---- weights seen from behind a monomial

module _ (A : Algebra) where
  -- what a monomial weighs where u stands before it
  abbrev pub behind : Monomial → (Monomial → ℕ) → Monomial → ℕ
  behind u φ m = word_weight A φ (sorted_word u ++ sorted_word m)

  -- the product of the term m with g weighs what g weighs behind m
  pub weigh-term : (φ : Monomial → ℕ) (m : Monomial) (g : Polynomial) → Same A.p (weigh φ (product A ((1, m) ∷ []) g)) (row_weight A φ g m)
  weigh-term φ m g =
      let once : 1 * row_weight A φ g m + 0 ≡ row_weight A φ g m = omega arith in
      weigh-product A φ ((1, m) ∷ []) g ∙ same_refl A.p _ _ once

module _ (A : Algebra) (ok : IsGAlgebra A) where
  -- u times m g, by the terms of the product of u and m
  pub multiple_shift : (u m : Monomial) → length u ≡ A.order.vars → length m ≡ A.order.vars → (g : Polynomial) → HasVars A.order.vars g → (φ : Monomial → ℕ)
      → Same A.p (row_weight A (behind A u φ) g m) (weigh (row_weight A φ g) (normal_form A (sorted_word u ++ sorted_word m)))
  multiple_shift u m hu hm g hg φ =
      let one : 1 * word_weight A (row_weight A φ g) (sorted_word u ++ sorted_word m) + 0 ≡ word_weight A (row_weight A φ g) (sorted_word u ++ sorted_word m) = omega arith in
      sym (weigh-term A φ u (product A ((1, m) ∷ []) g) ∙ weigh-term A (behind A u φ) m g)
      ∙ same_refl A.p _ _ (ap (weigh φ) (sym (product-assoc A ok.downward ok.confluent ok.field.more ((1, u) ∷ []) ((1, m) ∷ []) g (hu, tt) (hm, tt) hg)))
      ∙ weigh-product A φ (product A ((1, u) ∷ []) ((1, m) ∷ [])) g
      ∙ weigh-term A (row_weight A φ g) u ((1, m) ∷ [])
      ∙ same_refl A.p _ _ one

  -- the normal form of u m: its leading term, which is not zero, and terms below it
  pub record IsSplit (u m : Monomial) : Type 0 where
    pub number : ℕ
    pub nonzero : NonZero A.p number
    pub lower : Polynomial
    pub is : normal_form A (sorted_word u ++ sorted_word m) ≡ (number, plus u m) ∷ lower
    pub below : Each (λ t. (length t.1 ≡ A.order.vars) × (order A t.1 (plus u m) ≡ Less)) lower

  pub split : (u m : Monomial) → length u ≡ A.order.vars → length m ≡ A.order.vars → IsSplit u m
  split u m hu hm = by (normal_form A w) refl
    where
      w : Word
      w = sorted_word u ++ sorted_word m

      f_is : IsPolynomial A.p A.order (normal_form A (sorted_word u ++ sorted_word m))
      f_is = normal_form_is_polynomial A ok.field.more (sorted_word u ++ sorted_word m)

      leads : (normal_form A (sorted_word u ++ sorted_word m) ≢ []) × (leading_monomial (normal_form A (sorted_word u ++ sorted_word m)) ≡ plus u m)
      leads = leads_is A (plus u m) (normal_form A (sorted_word u ++ sorted_word m)) f_is.canonical (pair_leads A ok.field ok.downward ok.nonzero u m hu hm)

      by : (f : Polynomial) → normal_form A (sorted_word u ++ sorted_word m) ≡ f → IsSplit u m
      by [] e = absurd (leads.0 e)
      by (t ∷ f) e =
          let is : IsPolynomial A.p A.order (t ∷ f) = subst (IsPolynomial A.p A.order) e f_is in
          let at : t.1 ≡ plus u m = ap leading_monomial (sym e) ∙ leads.1 in
          record {
            number = t.0;
            nonzero = NonZero-below A.p t.0 is.canonical.0 is.canonical.1;
            lower = f;
            is = e ∙ (λ k. (t.0, at k) ∷ f);
            below = Each-both _ _ _ (λ x len less. (len, ap (order A x.1) (sym at) ∙ less)) f is.vars.1 (rest_below A t f is.canonical.3 is.canonical.2);
          }

-- ---- multiples of elements

-- a multiple: the monomial, and the number of the element
abbrev pub Multiple : Type 0
Multiple = Monomial × ℕ

module _ (A : Algebra) (G : List Polynomial) where
  -- the leading monomial of an element
  abbrev pub lead : ℕ → Monomial
  lead i = leading_monomial (element G i)

  -- what a multiple weighs
  abbrev pub multiple_weight : (Monomial → ℕ) → Multiple → ℕ
  multiple_weight φ k = row_weight A φ (element G k.1) k.0

  -- the number of an element, which is not zero
  pub record IsThere (i : ℕ) : Type 0 where
    pub low : 1 ≤ i
    pub high : i ≤ length G
    pub is : IsElement A (element G i)

  pub length-lead : (i : ℕ) → IsThere i → length (lead i) ≡ A.order.vars
  length-lead i there = length-leading_monomial A.order.vars (element G i) there.is.0.vars there.is.1

  -- the leading monomial of a multiple
  abbrev pub top : Multiple → Monomial
  top k = plus k.0 (lead k.1)

  -- a multiple of one of the elements
  abbrev pub Fits : Multiple → Type 0
  Fits k = (length k.0 ≡ A.order.vars) × IsThere k.1

  -- whose leading monomial is below t
  abbrev pub Under : Monomial → Multiple → Type 0
  Under t k = Fits k × (order A (top k) t ≡ Less)

  -- or at most t
  abbrev pub AtMost : Monomial → Multiple → Type 0
  AtMost t k = Fits k × ((order A (top k) t ≡ Less) ⊎ (top k ≡ t))

  pub length-top : (k : Multiple) → Fits k → length (top k) ≡ A.order.vars
  length-top k fits = length-plus k.0 (lead k.1) (fits.0 ∙ sym (length-lead k.1 fits.1)) ∙ fits.0

  -- the multiple of an element whose leading monomial is t
  abbrev pub lift : Monomial → ℕ → Multiple
  lift t i = (minus t (lead i), i)

  pub lift_fits : (t : Monomial) (i : ℕ) → length t ≡ A.order.vars → IsThere i → Fits (lift t i)
  lift_fits t i ht there = (length-minus t (lead i) (ht ∙ sym (length-lead i there)) ∙ ht, there)

  pub top_lift : (t : Monomial) (i : ℕ) → length t ≡ A.order.vars → IsThere i → divides (lead i) t ≡ true → top (lift t i) ≡ t
  top_lift t i ht there d = plus-minus t (lead i) (ht ∙ sym (length-lead i there)) d

  pub is_lift : (t : Monomial) (k : Multiple) → Fits k → top k ≡ t → k ≡ lift t k.1
  is_lift t k fits e =
      let m : k.0 ≡ minus t (lead k.1) = sym (minus-plus k.0 (lead k.1) (fits.0 ∙ sym (length-lead k.1 fits.1))) ∙ ap (λ x. minus x (lead k.1)) e in
      λ s. (m s, k.1)

  pub top_divides : (t : Monomial) (k : Multiple) → Fits k → top k ≡ t → divides (lead k.1) t ≡ true
  top_divides t k fits e = ap (divides (lead k.1)) (sym e) ∙ divides-plus k.0 (lead k.1) (fits.0 ∙ sym (length-lead k.1 fits.1))

  pub lower_right : (u a b : Monomial) → length u ≡ A.order.vars → length a ≡ A.order.vars → length b ≡ A.order.vars → order A a b ≡ Less → order A (plus u a) (plus u b) ≡ Less
  lower_right u a b hu ha hb e = (λ k. order A (plus-comm u a k) (plus-comm u b k)) ∙ order_cmp-plus A.order.rows a b u (ha ∙ sym hu) (hb ∙ sym hu) ∙ e

  -- a multiple that is below t, by u, is below u t
  pub top-above : (u t : Monomial) (k : Multiple) → length u ≡ A.order.vars → length t ≡ A.order.vars → Under t k → order A (plus (plus u k.0) (lead k.1)) (plus u t) ≡ Less
  top-above u t k hu ht under = ap (λ x. order A x (plus u t)) (plus-assoc u k.0 (lead k.1)) ∙ lower_right u (top k) t hu (length-top k under.0) ht under.1

  -- a multiple leads with its top
  pub multiple_leads : (ok : IsGAlgebra A) (k : Multiple) → Fits k → Leads A (top k) (λ φ. multiple_weight φ k)
  multiple_leads ok k fits = row_leads A ok.field ok.downward ok.nonzero k.0 (element G k.1) fits.0 fits.1.is.1 fits.1.is.0

  -- what is below the product of u and the monomial of a multiple is below u times its top
  pub lower_under : (u : Monomial) (k : Multiple) (m : Monomial) → length u ≡ A.order.vars → Fits k → length m ≡ A.order.vars → order A m (plus u k.0) ≡ Less
      → Under (plus u (top k)) (m, k.1)
  lower_under u k m hu fits hm less = (
    (hm, fits.1),
    ap (order A (plus m (lead k.1))) (sym (plus-assoc u k.0 (lead k.1)))
        ∙ order_cmp-plus A.order.rows m (plus u k.0) (lead k.1) (hm ∙ sym (length-lead k.1 fits.1)) (length-plus u k.0 (hu ∙ sym fits.0) ∙ hu ∙ sym (length-lead k.1 fits.1)) ∙ less,
  )

  pub under_lower : (t t' : Monomial) → order A t t' ≡ Less → (k : Multiple) → Under t k → Under t' k
  under_lower t t' less k under = (under.0, (order_cmp_total A.order.rows).trans (top k) t t' under.1 less)

  -- so u times a multiple below t is a sum of multiples below u t
  pub shifted_under : (ok : IsGAlgebra A) (u t : Monomial) (k : Multiple) → length u ≡ A.order.vars → length t ≡ A.order.vars → Under t k
      → Each (λ e. Under (plus u t) (e.1, k.1)) (normal_form A (sorted_word u ++ sorted_word k.0))
  shifted_under ok u t k hu ht under =
      let s : IsSplit A ok u k.0 = split A ok u k.0 hu under.0.0 in
      let up : order A (plus u (top k)) (plus u t) ≡ Less = lower_right u (top k) t hu (length-top k under.0) ht under.1 in
      subst (Each (λ e. Under (plus u t) (e.1, k.1))) (sym s.is) (
        ((length-plus u k.0 (hu ∙ sym under.0.0) ∙ hu, under.0.1), top-above u t k hu ht under),
        Each-weaker _ _ (λ e b. under_lower (plus u (top k)) (plus u t) up (e.1, k.1) (lower_under u k e.1 hu under.0 b.0 b.1)) s.lower s.below,
      )
