-- Buchberger's criterion: where all pairs of elements are linked, a sum of multiples that is not zero is a sum of
-- multiples that reach no further than its leading monomial, and some element's leading monomial divides that.
use Rattle.std.proofs.Common.{◌≡◌, ◌≢◌, ℕ, ◌+◌, ◌*◌, ◌⊎◌, inl, inr, ⊎_elim, true, List, [], ◌∷◌, length, refl, sym, ap, ◌∙◌, subst, arith}
use Rattle.monomials.specs.Monomials.{Monomial, divides}
use Rattle.monomials.specs.Leading.{leading_monomial}
use Rattle.monomials.specs.Polynomials.{Polynomial, IsPolynomial}
use Rattle.monomials.specs.WellFounded.{IsWellFounded, IsBelow}
use Rattle.monomials.proofs.Modulo.{Same, same_refl, same_add, same_mul, same_lin}
use Rattle.monomials.proofs.Weights.{weigh, weigh_alike_on, weigh-zero}
use Rattle.monomials.proofs.OrderLaws.{order_cmp_total}
use Rattle.monomials.proofs.Keys.{Each-weaker, EachKey}
use Rattle.monomials.proofs.WellFoundedness.{monomial_induction}
use Rattle.word_model.specs.Words.{Algebra}
use Rattle.word_model.specs.Conditions.{NonZero, IsGAlgebra}
use Rattle.word_model.specs.Reduction.{element}
use Rattle.word_model.proofs.NormalForms.{same_weights}
use Rattle.word_model.proofs.LeadingMonomials.{NonZero-product, Leads, VanishesBelow, leads_is}
use Rattle.word_model.proofs.Sums.{IsSum}
use Rattle.word_model.proofs.MultipleWeights.{Multiple, behind, multiple_shift, lead, multiple_weight, IsThere, Fits, Under, AtMost, top, length-top, lift, lift_fits, top_lift, multiple_leads}
use Rattle.word_model.proofs.Frames.{Frame, IsLow}
use Rattle.word_model.proofs.Connections.{AllLinked}
use Rattle.word_model.proofs.Collecting.{Greatest, greatest, IsTopped, topped_or_low, collect}

module _ (A : Algebra) (ok : IsGAlgebra A) (G : List Polynomial) where
  -- weights as tests, where only what weighs nothing does not count
  abbrev pub plain : Frame A G
  plain = record {
    Test = Monomial → ℕ;
    shift = behind A;
    weight = multiple_weight A G;
    shifts = λ u k hu fits φ. multiple_shift A ok u k.0 hu fits.0 (element G k.1) fits.1.is.0.vars φ;
    Void = λ F. (φ : Monomial → ℕ) → Same A.p (F φ) 0;
    void_zero = λ φ. refl;
    void_add = λ F H f h φ. same_add A.p (F φ) 0 (H φ) 0 (f φ) (h φ) ∙ same_refl A.p _ _ (omega arith);
    void_scale = λ c F f φ. same_mul A.p c (F φ) 0 (f φ) ∙ same_refl A.p _ _ (omega arith);
    void_shift = λ u hu F f φ. f (behind A u φ);
    void_same = λ F H e f φ. e φ ∙ f φ;
  }

  -- a multiple below t weighs nothing where all below t does
  under_vanishes : (t : Monomial) (k : Multiple) → Under A G t k → (φ : Monomial → ℕ) → VanishesBelow A φ t → Same A.p (multiple_weight A G φ k) 0
  under_vanishes t k under φ van =
      let l : Leads A (top A G k) (λ φ. multiple_weight A G φ k) = multiple_leads A G ok k under.0 in
      let nothing : l.0 * φ (top A G k) ≡ 0 = ap (λ x. l.0 * x) (van (top A G k) under.1) ∙ omega arith in
      l.2 φ (λ m less. van m ((order_cmp_total A.order.rows).trans m (top A G k) t less under.1)) ∙ same_refl A.p _ _ nothing

  -- so does a sum of them
  pub sum_vanishes : (t : Monomial) (F : (Monomial → ℕ) → ℕ) → IsSum A.p (multiple_weight A G) (Under A G t) F → (φ : Monomial → ℕ) → VanishesBelow A φ t → Same A.p (F φ) 0
  sum_vanishes t F s φ van =
      s.value φ
      ∙ weigh_alike_on A.p (multiple_weight A G φ) (λ k. 0) s.terms (Each-weaker _ _ (λ e under. under_vanishes t e.1 under φ van) s.terms s.each)
      ∙ same_refl A.p _ _ (weigh-zero s.terms)

  -- what is below t, as a sum
  pub low_is_sum : (t : Monomial) (F : (Monomial → ℕ) → ℕ) → IsLow A ok G plain t F → IsSum A.p (multiple_weight A G) (Under A G t) F
  low_is_sum t F l = record {
    terms = l.sum.terms;
    each = l.sum.each;
    value = λ φ. l.value φ ∙ same_add A.p (l.main φ) _ (l.extra φ) 0 (l.sum.value φ) (l.void φ) ∙ same_refl A.p _ _ (omega arith);
  }

  -- A polynomial other than zero that is a sum of multiples at most its leading monomial, which some element's leading
  -- monomial divides.
  pub record IsWithin (f : Polynomial) : Type 0 where
    pub nonzero : f ≢ []
    pub i : ℕ
    pub there : IsThere A G i
    pub divides_it : divides (lead A G i) (leading_monomial f) ≡ true
    pub sum : IsSum A.p (multiple_weight A G) (AtMost A G (leading_monomial f)) (λ φ. weigh φ f)

  -- a polynomial that is a sum with a multiple which reaches t has the leading monomial t
  pub leads_at : (f : Polynomial) → IsPolynomial A.p A.order f → (t : Monomial) → length t ≡ A.order.vars → (F : (Monomial → ℕ) → ℕ) → ((φ : Monomial → ℕ) → Same A.p (weigh φ f) (F φ))
      → (p : IsTopped A ok G plain t F) → NonZero A.p p.number → (f ≢ []) × (leading_monomial f ≡ t)
  leads_at f f_is t ht F v p nonzero =
      let k : Multiple = lift A G t p.i in
      let fits : Fits A G k = lift_fits A G t p.i ht p.there in
      let l : Leads A t (λ φ. multiple_weight A G φ k) =
      subst (λ m. Leads A m (λ φ. multiple_weight A G φ k)) (top_lift A G t p.i ht p.there p.divides_it) (multiple_leads A G ok k fits) in
      leads_is A t f f_is.canonical (
        p.number * l.0,
        NonZero-product A.p p.number l.0 ok.field nonzero l.1,
        (λ φ van.
            v φ ∙ p.value φ
            ∙ same_lin A.p p.number _ _ _ _ (l.2 φ van) (sum_vanishes t p.rest (low_is_sum t p.rest p.low) φ van)
            ∙ same_refl A.p _ _ (regroup p.number l.0 (φ t))),
      )
    where
      regroup : (x y z : ℕ) → x * (y * z) + 0 ≡ x * y * z
      regroup x y z = omega arith

  module _ (all : AllLinked A ok G plain) (well : IsWellFounded A.order) (f : Polynomial) (f_is : IsPolynomial A.p A.order f) where
    -- f as a sum of these multiples
    abbrev Sums : List (ℕ × Multiple) → Type 0
    Sums r = (φ : Monomial → ℕ) → Same A.p (weigh φ f) (weigh (multiple_weight A G φ) r)

    -- what there is to show, of sums at most t
    abbrev Falls : Monomial → Type 0
    Falls t = (r : List (ℕ × Multiple)) → EachKey (AtMost A G t) r → Sums r → (f ≡ []) ⊎ IsWithin f

    nothing_left : Sums [] → f ≡ []
    nothing_left v = same_weights A f [] f_is (record { canonical = tt; vars = tt }) v

    -- a sum below t is at most a lower monomial
    lower : (t : Monomial) → ((a : Monomial) → IsBelow A.order a t → Falls a) → (s : List (ℕ × Multiple)) → EachKey (Under A G t) s → Sums s → (f ≡ []) ⊎ IsWithin f
    lower t again [] under v = inl (nothing_left v)
    lower t again (e ∷ s) under v =
        let g : Greatest A G (Under A G t) (e ∷ s) = greatest A G (Under A G t) (λ k u. u.0) e s under in
        again (top A G g.0) (record { vars = length-top A G g.0 g.1.0; less = g.1.1 }) (e ∷ s) g.2 v

    step : (t : Monomial) → length t ≡ A.order.vars → ((a : Monomial) → IsBelow A.order a t → Falls a) → Falls t
    step t ht again r h v = ⊎_elim below topped (collect A ok G plain all t ht r h)
      where
        below : IsLow A ok G plain t (λ φ. weigh (multiple_weight A G φ) r) → (f ≡ []) ⊎ IsWithin f
        below l =
            let s : IsSum A.p (multiple_weight A G) (Under A G t) (λ φ. weigh (multiple_weight A G φ) r) = low_is_sum t (λ φ. weigh (multiple_weight A G φ) r) l in
            lower t again s.terms s.each (λ φ. v φ ∙ s.value φ)

        topped : IsTopped A ok G plain t (λ φ. weigh (multiple_weight A G φ) r) → (f ≡ []) ⊎ IsWithin f
        topped p = ⊎_elim below leading (topped_or_low A ok G plain t (λ φ. weigh (multiple_weight A G φ) r) p)
          where
            leading : NonZero A.p p.number → (f ≡ []) ⊎ IsWithin f
            leading nonzero =
                let leads : (f ≢ []) × (leading_monomial f ≡ t) = leads_at f f_is t ht (λ φ. weigh (multiple_weight A G φ) r) v p nonzero in
                inr (record {
                  nonzero = leads.0;
                  i = p.i;
                  there = p.there;
                  divides_it = ap (divides (lead A G p.i)) leads.1 ∙ p.divides_it;
                  sum = record { terms = r; each = subst (λ t. EachKey (AtMost A G t) r) (sym leads.1) h; value = v };
                })

    -- the criterion
    pub within : IsSum A.p (multiple_weight A G) (Fits A G) (λ φ. weigh φ f) → (f ≡ []) ⊎ IsWithin f
    within s = by s.terms s.each s.value
      where
        by : (r : List (ℕ × Multiple)) → EachKey (Fits A G) r → Sums r → (f ≡ []) ⊎ IsWithin f
        by [] h v = inl (nothing_left v)
        by (e ∷ r) h v =
            let g : Greatest A G (Fits A G) (e ∷ r) = greatest A G (Fits A G) (λ k fits. fits) e r h in
            monomial_induction A.order well Falls step (top A G g.0) (length-top A G g.0 g.1) (e ∷ r) g.2 v
