-- Canonical polynomials: two that weigh alike are equal, and each operation gives one.
use Rattle.std.proofs.Common.{◌≡◌, ℕ, ◌+◌, ◌*◌, ◌%◌, ◌<◌, cond, List, [], ◌∷◌, refl, sym, ap, ◌∙◌, subst, arith, mod-lt}
use Rattle.std.proofs.Common.{Ordering, Less, Equal, Greater, is_eq}
use Rattle.std.specs.Ordering.{ordering_reverse}
use Rattle.std.specs.Cmp.{IsTotalOrder}
use Rattle.std.specs.List.Sorted.{IsPermutation}
pub use Rattle.monomials.specs.Polynomials.{IsAbove, IsCanonical}
use Rattle.monomials.specs.Polynomials.{cons_nonzero, insert_term, from_terms, poly_add, poly_scale, sum_over}
use Rattle.monomials.proofs.Modulo.{Same, same_refl, same_cancel, same_equal}
use Rattle.monomials.proofs.Insertion.{cons_nonzero_cases, insert_term_cases}
use Rattle.monomials.proofs.Weights.{weigh, weigh-from_terms, weigh-IsPermutation}

-- 1 at k, and 0 at any other key
abbrev pub only_at : {K : Type 0} → (K → K → Ordering) → K → K → ℕ
only_at cmp k x = cond (is_eq (cmp k x)) 1 0

module _ {K : Type 0} (cmp : K → K → Ordering) (total : IsTotalOrder cmp) (tied : (x y : K) → cmp x y ≡ Equal → x ≡ y) (p : ℕ) where
  -- Less turned round is Greater
  pub turn : (x y : K) → cmp x y ≡ Less → cmp y x ≡ Greater
  turn x y e = total.antisymm y x ∙ ap ordering_reverse e

  -- Greater turned round is Less
  pub turn_back : (x y : K) → cmp x y ≡ Greater → cmp y x ≡ Less
  turn_back x y e = total.antisymm y x ∙ ap ordering_reverse e

  -- keys that fall, and fall on, fall
  pub falls_on : (x y z : K) → cmp x y ≡ Greater → cmp y z ≡ Greater → cmp x z ≡ Greater
  falls_on x y z e h = turn z x (total.trans z y x (turn_back y z h) (turn_back x y e))

  -- a key ties with itself
  pub ties_itself : (x : K) → cmp x x ≡ Equal
  ties_itself x = by (cmp x x) (total.antisymm x x)
    where
      by : (o : Ordering) → o ≡ ordering_reverse o → o ≡ Equal
      by Less e = cc
      by Equal e = refl
      by Greater e = cc

  -- a key above the first is above the rest
  pub above_rest : (k : K) (t : ℕ × K) (f : List (ℕ × K)) → cmp k t.1 ≡ Greater → IsAbove cmp t.1 f → IsAbove cmp k f
  above_rest k t [] e h = tt
  above_rest k t (u ∷ f) e h = falls_on k t.1 u.1 e h

  -- 1 at the key itself
  pub only_at-same : (k : K) → only_at cmp k k ≡ 1
  only_at-same k = ap (λ o. cond (is_eq o) 1 0) (ties_itself k)

  -- 0 at a key below
  pub only_at-below : (k x : K) → cmp k x ≡ Greater → only_at cmp k x ≡ 0
  only_at-below k x e = ap (λ o. cond (is_eq o) 1 0) e

  -- a polynomial has no term at a key above it
  pub absent : (k : K) (f : List (ℕ × K)) → IsCanonical cmp p f → IsAbove cmp k f → weigh (only_at cmp k) f ≡ 0
  absent k [] h a = refl
  absent k (t ∷ f) h a =
      omega (arith, ap (λ x. t.0 * x) (only_at-below k t.1 a), absent k f h.3 (above_rest k t f a h.2))

  -- the first term alone is at its key
  pub lead_alone : (t : ℕ × K) (f : List (ℕ × K)) → IsCanonical cmp p (t ∷ f) → weigh (only_at cmp t.1) (t ∷ f) ≡ t.0
  lead_alone t f h = omega (arith, ap (λ x. t.0 * x) (only_at-same t.1), absent t.1 f h.3 h.2)

  -- a first term cannot be missing on the other side
  lead_present : (t : ℕ × K) (f g : List (ℕ × K)) → IsCanonical cmp p (t ∷ f) → IsCanonical cmp p g → IsAbove cmp t.1 g
      → Same p (weigh (only_at cmp t.1) (t ∷ f)) (weigh (only_at cmp t.1) g) → ⊥
  lead_present t f g hf hg a e =
      let number : t.0 ≡ 0 =
      same_equal p t.0 0 hf.1 (omega (arith, hf.1))
      (same_refl p _ _ (sym (lead_alone t f hf)) ∙ e ∙ same_refl p _ _ (absent t.1 g hg a)) in
      omega (arith, hf.0)

  -- two polynomials with the same number at each key are equal
  pub same_at_keys : (f g : List (ℕ × K)) → IsCanonical cmp p f → IsCanonical cmp p g
      → ((k : K) → Same p (weigh (only_at cmp k) f) (weigh (only_at cmp k) g)) → f ≡ g
  same_at_keys [] [] hf hg e = refl
  same_at_keys [] (u ∷ g) hf hg e = absurd (lead_present u g [] hg hf tt (sym (e u.1)))
  same_at_keys (t ∷ f) [] hf hg e = absurd (lead_present t f [] hf hg tt (e t.1))
  same_at_keys (t ∷ f) (u ∷ g) hf hg e =
      elim (cmp t.1 u.1) as (λ r. cmp t.1 u.1 ≡ r → t ∷ f ≡ u ∷ g) [
        | Greater ↦ λ is. absurd (lead_present t f (u ∷ g) hf hg is (e t.1))
        | Less ↦ λ is. absurd (lead_present u g (t ∷ f) hg hf (turn t.1 u.1 is) (sym (e u.1)))
        | Equal ↦ λ is.
            let k : t.1 ≡ u.1 = tied t.1 u.1 is in
            let c : t.0 ≡ u.0 =
            same_equal p t.0 u.0 hf.1 hg.1
            (same_refl p _ _ (sym (lead_alone t f hf)) ∙ e t.1 ∙ same_refl p _ _ (ap (λ x. weigh (only_at cmp x) (u ∷ g)) k ∙ lead_alone u g hg)) in
            let same : t ≡ u = λ i. (c i, k i) in
            let rest : f ≡ g =
            same_at_keys f g hf.3 hg.3
            (λ x. same_cancel p (t.0 * only_at cmp x t.1) (weigh (only_at cmp x) f) (weigh (only_at cmp x) g) (omega (arith, hf.1))
            (e x ∙ same_refl p _ _ (ap (λ v. v.0 * only_at cmp x v.1 + weigh (only_at cmp x) g) (sym same)))) in
            λ i. same i ∷ rest i
      ] refl

  -- two polynomials that weigh alike are equal
  pub same_poly : (f g : List (ℕ × K)) → IsCanonical cmp p f → IsCanonical cmp p g
      → ((φ : K → ℕ) → Same p (weigh φ f) (weigh φ g)) → f ≡ g
  same_poly f g hf hg e = same_at_keys f g hf hg (λ k. e (only_at cmp k))

  -- a term above f in front of f
  pub IsCanonical-cons_nonzero : (c : ℕ) (k : K) (f : List (ℕ × K)) → c < p → IsCanonical cmp p f → IsAbove cmp k f
      → IsCanonical cmp p (cons_nonzero c k f)
  IsCanonical-cons_nonzero c k f l h a = cons_nonzero_cases (IsCanonical cmp p) c k f h (λ more. (more, l, a, h))

  -- x is above a term in front of f where it is above both
  pub IsAbove-cons_nonzero : (x : K) (c : ℕ) (k : K) (f : List (ℕ × K)) → cmp x k ≡ Greater → IsAbove cmp x f
      → IsAbove cmp x (cons_nonzero c k f)
  IsAbove-cons_nonzero x c k f e a = cons_nonzero_cases (IsAbove cmp x) c k f a (λ more. e)

  -- x is above t + f where it is above both
  pub IsAbove-insert_term : (x : K) (c : ℕ) (k : K) (f : List (ℕ × K)) → cmp x k ≡ Greater → IsCanonical cmp p f → IsAbove cmp x f
      → IsAbove cmp x (insert_term cmp p c k f)
  IsAbove-insert_term x c k [] e h a = IsAbove-cons_nonzero x (c % p) k [] e tt
  IsAbove-insert_term x c k (t ∷ f) e h a =
      insert_term_cases cmp p (IsAbove cmp x) c k t f
      (λ is. IsAbove-cons_nonzero x (c % p) k (t ∷ f) e a)
      (λ is. IsAbove-cons_nonzero x ((c + t.0) % p) k f e (above_rest x t f a h.2))
      (λ is. a)

  -- t + f is canonical
  pub IsCanonical-insert_term : 0 < p → (c : ℕ) (k : K) (f : List (ℕ × K)) → IsCanonical cmp p f
      → IsCanonical cmp p (insert_term cmp p c k f)
  IsCanonical-insert_term pos c k [] h = IsCanonical-cons_nonzero (c % p) k [] (mod-lt c pos) tt tt
  IsCanonical-insert_term pos c k (t ∷ f) h =
      insert_term_cases cmp p (IsCanonical cmp p) c k t f
      (λ is. IsCanonical-cons_nonzero (c % p) k (t ∷ f) (mod-lt c pos) h is)
      (λ is. IsCanonical-cons_nonzero ((c + t.0) % p) k f (mod-lt (c + t.0) pos) h.3 (subst (λ x. IsAbove cmp x f) (sym (tied k t.1 is)) h.2))
      (λ is. (h.0, h.1, IsAbove-insert_term t.1 c k f (turn k t.1 is) h.3 h.2, IsCanonical-insert_term pos c k f h.3))

  -- any sum of terms is canonical
  pub IsCanonical-from_terms : 0 < p → (f : List (ℕ × K)) → IsCanonical cmp p (from_terms cmp p f)
  IsCanonical-from_terms pos [] = tt
  IsCanonical-from_terms pos (t ∷ f) = IsCanonical-insert_term pos t.0 t.1 (from_terms cmp p f) (IsCanonical-from_terms pos f)

  -- a sum is canonical where its second part is
  pub IsCanonical-poly_add : 0 < p → (f g : List (ℕ × K)) → IsCanonical cmp p g → IsCanonical cmp p (poly_add cmp p f g)
  IsCanonical-poly_add pos [] g h = h
  IsCanonical-poly_add pos (t ∷ f) g h = IsCanonical-insert_term pos t.0 t.1 (poly_add cmp p f g) (IsCanonical-poly_add pos f g h)

  -- x is above a multiple of what it is above
  pub IsAbove-poly_scale : (x : K) (c : ℕ) (f : List (ℕ × K)) → IsCanonical cmp p f → IsAbove cmp x f
      → IsAbove cmp x (poly_scale p c f)
  IsAbove-poly_scale x c [] h a = tt
  IsAbove-poly_scale x c (t ∷ f) h a =
      IsAbove-cons_nonzero x ((c * t.0) % p) t.1 (poly_scale p c f) a (IsAbove-poly_scale x c f h.3 (above_rest x t f a h.2))

  -- a multiple is canonical
  pub IsCanonical-poly_scale : 0 < p → (c : ℕ) (f : List (ℕ × K)) → IsCanonical cmp p f → IsCanonical cmp p (poly_scale p c f)
  IsCanonical-poly_scale pos c [] h = tt
  IsCanonical-poly_scale pos c (t ∷ f) h =
      IsCanonical-cons_nonzero ((c * t.0) % p) t.1 (poly_scale p c f) (mod-lt (c * t.0) pos) (IsCanonical-poly_scale pos c f h.3) (IsAbove-poly_scale t.1 c f h.3 h.2)

  -- a linear extension has canonical values
  pub IsCanonical-sum_over : 0 < p → {J : Type 0} (value : J → List (ℕ × K)) (f : List (ℕ × J))
      → IsCanonical cmp p (sum_over cmp p value f)
  IsCanonical-sum_over pos value [] = tt
  IsCanonical-sum_over pos value (t ∷ f) =
      IsCanonical-poly_add pos (poly_scale p t.0 (value t.1)) (sum_over cmp p value f) (IsCanonical-sum_over pos value f)

  -- a canonical polynomial is the sum of its terms
  pub from_terms-canonical : 0 < p → (f : List (ℕ × K)) → IsCanonical cmp p f → from_terms cmp p f ≡ f
  from_terms-canonical pos f h =
      same_poly (from_terms cmp p f) f (IsCanonical-from_terms pos f) h (λ φ. weigh-from_terms cmp tied p φ f)

  -- the order in which terms are given does not matter
  pub from_terms-IsPermutation : 0 < p → (f g : List (ℕ × K)) → IsPermutation f g → from_terms cmp p g ≡ from_terms cmp p f
  from_terms-IsPermutation pos f g h =
      same_poly (from_terms cmp p g) (from_terms cmp p f) (IsCanonical-from_terms pos g) (IsCanonical-from_terms pos f)
      (λ φ. weigh-from_terms cmp tied p φ g ∙ same_refl p _ _ (weigh-IsPermutation φ f g h) ∙ sym (weigh-from_terms cmp tied p φ f))
