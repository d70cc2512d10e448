-- Multiples of polynomials: sums with them, by their first terms, and differences.
use Rattle.std.proofs.Common.{◌≡◌, ℕ, zero, suc, ◌+◌, ◌-◌, ◌*◌, ◌%◌, ◌<◌, List, [], ◌∷◌, refl, sym, ap, ◌∙◌, subst, arith, mod-eq_of_lt, mod-lt}
use Rattle.std.proofs.Common.{Ordering, Equal, Greater}
use Rattle.std.proofs.Math.Nat.{mul-add-mod_self_left, add-mod-mod}
use Rattle.std.specs.Cmp.{IsTotalOrder}
use Rattle.monomials.specs.Monomials.{Monomial}
use Rattle.monomials.specs.Orders.{RowOrder, order_cmp}
use Rattle.monomials.specs.Polynomials.{Polynomial, IsAbove, IsCanonical, IsPolynomial, cons_nonzero, poly_add, poly_sub, poly_scale, coefficient_at}
use Rattle.monomials.proofs.Insertion.{cons_nonzero-positive}
use Rattle.monomials.proofs.Canonical.{IsAbove-poly_scale, IsCanonical-poly_scale}
use Rattle.monomials.proofs.Merge.{merge_left, merge_right, merge_both}
use Rattle.monomials.proofs.Coefficients.{coefficient_at-below}
use Rattle.monomials.proofs.Operations.{HasNumbers-polynomial, IsApart-canonical, IsPolynomial-poly_scale, coefficient_of_sum, coefficient_of_multiple}

-- 1 f = f
pub poly_scale-one : {K : Type 0} (cmp : K → K → Ordering) (p : ℕ) (f : List (ℕ × K)) → IsCanonical cmp p f → poly_scale p 1 f ≡ f
poly_scale-one cmp p [] h = refl
poly_scale-one cmp p (t ∷ f) h =
    let once : 1 * t.0 ≡ t.0 = omega arith in
    let number : (1 * t.0) % p ≡ t.0 = ap (λ x. x % p) once ∙ mod-eq_of_lt h.1 in
    (λ i. cons_nonzero (number i) t.1 (poly_scale-one cmp p f h.3 i)) ∙ cons_nonzero-positive t.0 t.1 f h.0

module _ {K : Type 0} (cmp : K → K → Ordering) (total : IsTotalOrder cmp) (tied : (x y : K) → cmp x y ≡ Equal → x ≡ y) (p : ℕ) (pos : 0 < p) where
  -- the term c k, or none where c is zero, is above f
  front_right : (c : ℕ) (k : K) (f g : List (ℕ × K)) → c < p → IsCanonical cmp p f → IsCanonical cmp p g → IsAbove cmp k f → IsAbove cmp k g
      → poly_add cmp p f (cons_nonzero c k g) ≡ cons_nonzero c k (poly_add cmp p f g)
  front_right zero k f g l hf hg af ag = refl
  front_right (suc c) k f g l hf hg af ag = merge_right cmp total tied p pos (suc c, k) f g hf (omega arith, l, ag, hg) af

  -- the first term of f has its key
  front_both : (t : ℕ × K) (f : List (ℕ × K)) (c : ℕ) (k : K) (g : List (ℕ × K)) → IsCanonical cmp p (t ∷ f) → c < p → IsCanonical cmp p g → IsAbove cmp k g
      → cmp t.1 k ≡ Equal → poly_add cmp p (t ∷ f) (cons_nonzero c k g) ≡ cons_nonzero ((t.0 + c) % p) t.1 (poly_add cmp p f g)
  front_both t f zero k g hf l hg ag e =
      let same : t.0 + 0 ≡ t.0 = omega arith in
      merge_left cmp total tied p pos t f g hf hg (subst (λ x. IsAbove cmp x g) (sym (tied t.1 k e)) ag)
      ∙ sym (ap (λ x. cons_nonzero x t.1 (poly_add cmp p f g)) (ap (λ x. x % p) same ∙ mod-eq_of_lt hf.1) ∙ cons_nonzero-positive t.0 t.1 (poly_add cmp p f g) hf.0)
  front_both t f (suc c) k g hf l hg ag e = merge_both cmp total tied p pos t f (suc c, k) g hf (omega arith, l, ag, hg) e

  module _ (k : ℕ) (u : ℕ × K) (f g : List (ℕ × K)) (hg : IsCanonical cmp p (u ∷ g)) where
    -- a first term that is above the other polynomial is above its multiple
    pub multiple_left : (t : ℕ × K) → IsCanonical cmp p (t ∷ f) → cmp t.1 u.1 ≡ Greater
        → poly_add cmp p (t ∷ f) (poly_scale p k (u ∷ g)) ≡ t ∷ poly_add cmp p f (poly_scale p k (u ∷ g))
    multiple_left t hf e =
        merge_left cmp total tied p pos t f (poly_scale p k (u ∷ g)) hf (IsCanonical-poly_scale cmp total tied p pos k (u ∷ g) hg)
        (IsAbove-poly_scale cmp total tied p t.1 k (u ∷ g) hg e)

    -- the multiple of a first term that is above the other polynomial goes in front
    pub multiple_right : IsCanonical cmp p f → IsAbove cmp u.1 f
        → poly_add cmp p f (poly_scale p k (u ∷ g)) ≡ cons_nonzero ((k * u.0) % p) u.1 (poly_add cmp p f (poly_scale p k g))
    multiple_right hf a =
        front_right ((k * u.0) % p) u.1 f (poly_scale p k g) (mod-lt (k * u.0) pos) hf (IsCanonical-poly_scale cmp total tied p pos k g hg.3) a
        (IsAbove-poly_scale cmp total tied p u.1 k g hg.3 hg.2)

    -- first terms with one key are added
    pub multiple_both : (t : ℕ × K) → IsCanonical cmp p (t ∷ f) → cmp t.1 u.1 ≡ Equal
        → poly_add cmp p (t ∷ f) (poly_scale p k (u ∷ g)) ≡ cons_nonzero ((t.0 + (k * u.0) % p) % p) t.1 (poly_add cmp p f (poly_scale p k g))
    multiple_both t hf e =
        front_both t f ((k * u.0) % p) u.1 (poly_scale p k g) hf (mod-lt (k * u.0) pos) (IsCanonical-poly_scale cmp total tied p pos k g hg.3)
        (IsAbove-poly_scale cmp total tied p u.1 k g hg.3 hg.2) e

-- p - 1 times y is p - y, modulo p
minus_one : (p x y : ℕ) → 0 < p → y < p → (x + (p - 1) * y) % p ≡ (x + (p - y)) % p
minus_one zero x y pos l = absurd (omega arith)
minus_one (suc q) x y pos l =
    let q_is : suc q - 1 ≡ q = omega arith in
    let whole : suc q * 1 + (x + q * y) ≡ suc q * y + (x + (suc q - y)) = omega arith in
    ap (λ n. (x + n * y) % suc q) q_is
    ∙ sym (mul-add-mod_self_left (suc q) 1 (x + q * y))
    ∙ ap (λ n. n % suc q) whole
    ∙ mul-add-mod_self_left (suc q) y (x + (suc q - y))

module _ (p : ℕ) (order : RowOrder) (pos : 0 < p) where
  -- the number of a sum with a multiple at a monomial
  pub coefficient_of_sum_with : (k : ℕ) (m : Monomial) (f g : Polynomial) → IsPolynomial p order f → IsPolynomial p order g
      → coefficient_at m (poly_add (order_cmp order.rows) p f (poly_scale p k g)) ≡ (coefficient_at m f + k * coefficient_at m g) % p
  coefficient_of_sum_with k m f g hf hg =
      coefficient_of_sum p order pos m f (poly_scale p k g) hf (IsPolynomial-poly_scale p order pos k g hg)
      ∙ ap (λ x. (coefficient_at m f + x) % p) (coefficient_of_multiple p k m g pos (IsApart-canonical p order g hg.canonical))
      ∙ add-mod-mod (coefficient_at m f) (k * coefficient_at m g) p

  -- the number of a difference at a monomial
  pub coefficient_of_difference : (m : Monomial) (f g : Polynomial) → IsPolynomial p order f → IsPolynomial p order g
      → coefficient_at m (poly_sub (order_cmp order.rows) p f g) ≡ (coefficient_at m f + (p - coefficient_at m g)) % p
  coefficient_of_difference m f g hf hg =
      coefficient_of_sum_with (p - 1) m f g hf hg
      ∙ minus_one p (coefficient_at m f) (coefficient_at m g) pos
      (coefficient_at-below p m g pos (HasNumbers-polynomial p order g hg) (IsApart-canonical p order g hg.canonical))
