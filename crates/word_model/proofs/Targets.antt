-- What a reduction's targets have: the terms before a target stay, and what is put behind them has its targets below.
use Rattle.std.proofs.Common.{◌≡◌, ℕ, Less, List, [], ◌∷◌, ◌++◌, Option, Some, None, refl, sym, ap, ◌∙◌, subst}
use Rattle.monomials.specs.Monomials.{Monomial}
use Rattle.monomials.specs.Polynomials.{Polynomial, Each}
use Rattle.monomials.proofs.Keys.{Each-second, EachKey}
use Rattle.word_model.specs.Words.{Algebra}
use Rattle.word_model.specs.Reduction.{first_divisor, Target, target_at, leading_target, target_or, greatest_target, tail_target}
use Rattle.word_model.proofs.LeadingMonomials.{order}
use Rattle.word_model.proofs.LeastNumbers.{IsFirstDivisor, first_divisor-found}

module _ (A : Algebra) where
  -- all monomials of f are below m
  abbrev pub IsBelow : Monomial → Polynomial → Type 0
  IsBelow m f = EachKey (λ k. order A k m ≡ Less) f

  module _ (G : List Polynomial) where
    -- The target is a term of h with its first divisor. Where it and all behind it are replaced by terms below it, the
    -- next target is below it.
    pub record IsPicked (target : Polynomial → Option Target) (h : Polynomial) (t : ℕ × Monomial) (i : ℕ) : Type 0 where
      pub above : Polynomial
      pub rest : Polynomial
      pub is : h ≡ above ++ t ∷ rest
      pub divisor : IsFirstDivisor G t.1 i
      pub falls : (r : Polynomial) → IsBelow t.1 r → (u : ℕ × Monomial) (j : ℕ) → target (above ++ r) ≡ Some (u, j) → order A u.1 t.1 ≡ Less

    -- each target is so
    abbrev pub IsTargeting : (Polynomial → Option Target) → Type 0
    IsTargeting target = (h : Polynomial) (t : ℕ × Monomial) (i : ℕ) → target h ≡ Some (t, i) → IsPicked target h t i

-- ---- the three choices

module _ (G : List Polynomial) where
  -- the target at a term with a divisor
  target_at-found : (x t : ℕ × Monomial) (j i : ℕ) → first_divisor G x.1 ≡ Some j → target_at x (Some j) ≡ Some (t, i) → (x ≡ t) × IsFirstDivisor G t.1 i
  target_at-found x t j i e same =
      let both : ◌≡◌ {A = Target} (x, j) (t, i) = cc in (
        ap (λ (p : Target). p.0) both,
        subst (λ (p : Target). IsFirstDivisor G p.0.1 p.1) both (first_divisor-found G x.1 j e),
      )

  -- the leading term is a reduction's target
  pub leading_target-found : (h : Polynomial) (t : ℕ × Monomial) (i : ℕ) → leading_target G h ≡ Some (t, i)
      → (rest : Polynomial) × (h ≡ t ∷ rest) × IsFirstDivisor G t.1 i
  leading_target-found [] t i e = cc
  leading_target-found (x ∷ h) t i e = by (first_divisor G x.1) refl e
    where
      by : (r : Option ℕ) → first_divisor G x.1 ≡ r → target_at x r ≡ Some (t, i) → (rest : Polynomial) × (x ∷ h ≡ t ∷ rest) × IsFirstDivisor G t.1 i
      by None f e = cc
      by (Some j) f e =
          let found : (x ≡ t) × IsFirstDivisor G t.1 i = target_at-found x t j i f e in
          (h, ap (λ x. x ∷ h) found.0, found.1)

  -- the greatest term with a divisor: none before it has one
  pub record IsGreatest (h : Polynomial) (t : ℕ × Monomial) (i : ℕ) : Type 0 where
    pub above : Polynomial
    pub rest : Polynomial
    pub is : h ≡ above ++ t ∷ rest
    pub divisor : IsFirstDivisor G t.1 i
    pub none_before : Each (λ u. first_divisor G u.1 ≡ None) above

  -- a normal form's target is so
  pub greatest_target-found : (h : Polynomial) (t : ℕ × Monomial) (i : ℕ) → greatest_target G h ≡ Some (t, i) → IsGreatest h t i
  greatest_target-found [] t i e = cc
  greatest_target-found (x ∷ h) t i e = by (first_divisor G x.1) refl e (greatest_target-found h t i)
    where
      by : (r : Option ℕ) → first_divisor G x.1 ≡ r → target_or (target_at x r) (greatest_target G h) ≡ Some (t, i)
          → (greatest_target G h ≡ Some (t, i) → IsGreatest h t i) → IsGreatest (x ∷ h) t i
      by (Some j) f e ih =
          let found : (x ≡ t) × IsFirstDivisor G t.1 i = target_at-found x t j i f e in
          record { above = []; rest = h; is = ap (λ x. x ∷ h) found.0; divisor = found.1; none_before = tt }
      by None f e ih =
          let later : IsGreatest h t i = ih e in
          record { above = x ∷ later.above; rest = later.rest; is = ap (λ f. x ∷ f) later.is; divisor = later.divisor; none_before = (f, later.none_before) }

  -- terms without a divisor are passed over
  pub greatest_target-behind : (f r : Polynomial) → Each (λ u. first_divisor G u.1 ≡ None) f → greatest_target G (f ++ r) ≡ greatest_target G r
  greatest_target-behind [] r h = refl
  greatest_target-behind (x ∷ f) r h =
      ap (λ o. target_or (target_at x o) (greatest_target G (f ++ r))) h.0 ∙ greatest_target-behind f r h.1

  -- what holds of all monomials of f holds of those of its targets
  leading_target-key : (P : Monomial → Type 0) (f : Polynomial) (u : ℕ × Monomial) (j : ℕ) → EachKey P f → leading_target G f ≡ Some (u, j) → P u.1
  leading_target-key P f u j h e =
      let found : (rest : Polynomial) × (f ≡ u ∷ rest) × IsFirstDivisor G u.1 j = leading_target-found f u j e in
      (subst (EachKey P) found.1 h).0

  greatest_target-key : (P : Monomial → Type 0) (f : Polynomial) (u : ℕ × Monomial) (j : ℕ) → EachKey P f → greatest_target G f ≡ Some (u, j) → P u.1
  greatest_target-key P f u j h e =
      let found : IsGreatest f u j = greatest_target-found f u j e in
      (Each-second (λ t. P t.1) found.above (u ∷ found.rest) (subst (EachKey P) found.is h)).0

-- ---- each of them leads downwards

module _ (A : Algebra) (G : List Polynomial) where
  pub leading_target-falls : IsTargeting A G (leading_target G)
  leading_target-falls h t i e =
      let found : (rest : Polynomial) × (h ≡ t ∷ rest) × IsFirstDivisor G t.1 i = leading_target-found G h t i e in
      record {
        above = [];
        rest = found.0;
        is = found.1;
        divisor = found.2;
        falls = λ r below u j e. leading_target-key G (λ k. order A k t.1 ≡ Less) r u j below e;
      }

  pub greatest_target-falls : IsTargeting A G (greatest_target G)
  greatest_target-falls h t i e =
      let found : IsGreatest G h t i = greatest_target-found G h t i e in
      record {
        above = found.above;
        rest = found.rest;
        is = found.is;
        divisor = found.divisor;
        falls = λ r below u j e.
            greatest_target-key G (λ k. order A k t.1 ≡ Less) r u j below (sym (greatest_target-behind G found.above r found.none_before) ∙ e);
      }

  -- the leading term stays, and behind it the greatest term with a divisor is the target
  pub tail_target-falls : IsTargeting A G (tail_target G)
  tail_target-falls [] t i e = cc
  tail_target-falls (x ∷ h) t i e =
      let found : IsPicked A G (greatest_target G) h t i = greatest_target-falls h t i e in
      record {
        above = x ∷ found.above;
        rest = found.rest;
        is = ap (λ f. x ∷ f) found.is;
        divisor = found.divisor;
        falls = found.falls;
      }
