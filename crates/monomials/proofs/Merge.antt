-- Sums of canonical polynomials, by their first terms.
use Rattle.std.proofs.Common.{◌≡◌, ℕ, ◌+◌, ◌%◌, ◌<◌, List, [], ◌∷◌, refl, sym, ap, ◌∙◌, subst, arith, mod-eq_of_lt}
use Rattle.std.proofs.Common.{Ordering, Less, Equal, Greater}
use Rattle.std.specs.Cmp.{IsTotalOrder}
use Rattle.monomials.specs.Polynomials.{IsAbove, IsCanonical, cons_nonzero, insert_term, poly_add}
use Rattle.monomials.proofs.Modulo.{same_refl}
use Rattle.monomials.proofs.Insertion.{cons_nonzero-positive}
use Rattle.monomials.proofs.Weights.{weigh, weigh-poly_add}
use Rattle.monomials.proofs.Canonical.{above_rest, IsAbove-insert_term, IsCanonical-poly_add, same_poly}

module _ {K : Type 0} (cmp : K → K → Ordering) (p c : ℕ) (k : K) where
  -- a term above f stays in front
  pub insert_term-above : (f : List (ℕ × K)) → IsAbove cmp k f → insert_term cmp p c k f ≡ cons_nonzero (c % p) k f
  insert_term-above [] a = refl
  insert_term-above (t ∷ f) a =
      ap (λ r. elim r as (λ r. List (ℕ × K)) [ Greater ↦ cons_nonzero (c % p) k (t ∷ f) | Equal ↦ cons_nonzero ((c + t.0) % p) k f | Less ↦ t ∷ insert_term cmp p c k f ]) a

  -- a term with the first key is added to the first term
  pub insert_term-equal : (t : ℕ × K) (f : List (ℕ × K)) → cmp k t.1 ≡ Equal → insert_term cmp p c k (t ∷ f) ≡ cons_nonzero ((c + t.0) % p) k f
  insert_term-equal t f e =
      ap (λ r. elim r as (λ r. List (ℕ × K)) [ Greater ↦ cons_nonzero (c % p) k (t ∷ f) | Equal ↦ cons_nonzero ((c + t.0) % p) k f | Less ↦ t ∷ insert_term cmp p c k f ]) e

module _ {K : Type 0} (cmp : K → K → Ordering) (total : IsTotalOrder cmp) (tied : (x y : K) → cmp x y ≡ Equal → x ≡ y) (p : ℕ) (pos : 0 < p) where
  -- a proper term above f goes in front
  pub insert_term-front : (t : ℕ × K) (f : List (ℕ × K)) → 0 < t.0 → t.0 < p → IsAbove cmp t.1 f
      → insert_term cmp p t.0 t.1 f ≡ t ∷ f
  insert_term-front t f more less a =
      insert_term-above cmp p t.0 t.1 f a
      ∙ ap (λ c. cons_nonzero c t.1 f) (mod-eq_of_lt less)
      ∙ cons_nonzero-positive t.0 t.1 f more

  -- x is above a sum where it is above both parts
  pub IsAbove-poly_add : (x : K) (f g : List (ℕ × K)) → IsAbove cmp x f → IsAbove cmp x g → IsCanonical cmp p f → IsCanonical cmp p g
      → IsAbove cmp x (poly_add cmp p f g)
  IsAbove-poly_add x [] g af ag hf hg = ag
  IsAbove-poly_add x (t ∷ f) g af ag hf hg =
      IsAbove-insert_term cmp total tied p x t.0 t.1 (poly_add cmp p f g) af (IsCanonical-poly_add cmp total tied p pos f g hg)
      (IsAbove-poly_add x f g (above_rest cmp total tied p x t f af hf.2) ag hf.3 hg)

  -- f + 0 = f
  pub poly_add-nil : (f : List (ℕ × K)) → IsCanonical cmp p f → poly_add cmp p f [] ≡ f
  poly_add-nil [] h = refl
  poly_add-nil (t ∷ f) h = ap (insert_term cmp p t.0 t.1) (poly_add-nil f h.3) ∙ insert_term-front t f h.0 h.1 h.2

  -- f + g = g + f
  pub poly_add-comm : (f g : List (ℕ × K)) → IsCanonical cmp p f → IsCanonical cmp p g → poly_add cmp p f g ≡ poly_add cmp p g f
  poly_add-comm f g hf hg =
      same_poly cmp total tied p (poly_add cmp p f g) (poly_add cmp p g f) (IsCanonical-poly_add cmp total tied p pos f g hg) (IsCanonical-poly_add cmp total tied p pos g f hf)
      (λ φ.
      let e : weigh φ f + weigh φ g ≡ weigh φ g + weigh φ f = omega arith in
      weigh-poly_add cmp tied p φ f g ∙ same_refl p _ _ e ∙ sym (weigh-poly_add cmp tied p φ g f))

  -- the first term of f is above g
  pub merge_left : (t : ℕ × K) (f g : List (ℕ × K)) → IsCanonical cmp p (t ∷ f) → IsCanonical cmp p g → IsAbove cmp t.1 g
      → poly_add cmp p (t ∷ f) g ≡ t ∷ poly_add cmp p f g
  merge_left t f g hf hg a = insert_term-front t (poly_add cmp p f g) hf.0 hf.1 (IsAbove-poly_add t.1 f g hf.2 a hf.3 hg)

  -- the first term of g is above f
  pub merge_right : (u : ℕ × K) (f g : List (ℕ × K)) → IsCanonical cmp p f → IsCanonical cmp p (u ∷ g) → IsAbove cmp u.1 f
      → poly_add cmp p f (u ∷ g) ≡ u ∷ poly_add cmp p f g
  merge_right u f g hf hg a =
      poly_add-comm f (u ∷ g) hf hg ∙ merge_left u g f hg hf a ∙ ap (λ r. u ∷ r) (poly_add-comm g f hg.3 hf)

  -- the first terms of both have one key
  pub merge_both : (t : ℕ × K) (f : List (ℕ × K)) (u : ℕ × K) (g : List (ℕ × K)) → IsCanonical cmp p (t ∷ f) → IsCanonical cmp p (u ∷ g) → cmp t.1 u.1 ≡ Equal
      → poly_add cmp p (t ∷ f) (u ∷ g) ≡ cons_nonzero ((t.0 + u.0) % p) t.1 (poly_add cmp p f g)
  merge_both t f u g hf hg e =
      ap (insert_term cmp p t.0 t.1) (merge_right u f g hf.3 hg (subst (λ x. IsAbove cmp x f) (tied t.1 u.1 e) hf.2))
      ∙ insert_term-equal cmp p t.0 t.1 u (poly_add cmp p f g) e
