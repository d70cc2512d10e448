-- The numbers of a polynomial at its monomials.
use Rattle.std.proofs.Common.{◌≡◌, ◌≢◌, ℕ, ◌+◌, ◌*◌, ◌<◌, cond, List, [], ◌∷◌, refl, sym, ap, ◌∙◌, subst, arith, ℤ}
use Rattle.std.proofs.Common.{Ordering, Less, Equal, Greater, is_eq, nat_cmp}
use Rattle.std.specs.Cmp.Lexicographic.{slice_cmp, nat_list_cmp_total}
use Rattle.monomials.specs.Monomials.{Monomial}
use Rattle.monomials.specs.Orders.{RowOrder, order_cmp}
use Rattle.monomials.specs.Polynomials.{Polynomial, Each, HasNumbers, IsApart, IsPolynomial, from_terms, poly_add, poly_scale, coefficient_at}
use Rattle.monomials.proofs.Modulo.{Same, same_refl}
use Rattle.monomials.proofs.Weights.{weigh, weigh_equal, weigh-from_terms, weigh-poly_add, weigh-poly_scale}
use Rattle.monomials.proofs.Canonical.{only_at, ties_itself, same_at_keys}
use Rattle.monomials.proofs.OrderLaws.{order_cmp_total, order_cmp_tied, slice_cmp_tied}

-- 1 at m, and 0 at any other monomial
abbrev pub indicator : Monomial → Monomial → ℕ
indicator = only_at (slice_cmp nat_cmp)

-- the number at m is the weight of f where m alone weighs 1
pub coefficient_at-weigh : (m : Monomial) (f : Polynomial) → coefficient_at m f ≡ weigh (indicator m) f
coefficient_at-weigh m [] = refl
coefficient_at-weigh m (t ∷ f) = by (slice_cmp nat_cmp m t.1) (coefficient_at m f) (weigh (indicator m) f) (coefficient_at-weigh m f)
  where
    by : (o : Ordering) (c w : ℕ) → c ≡ w → elim o as (λ o. ℕ) [ Equal ↦ t.0 + c | _ ↦ c ] ≡ t.0 * cond (is_eq o) 1 0 + w
    by Less c w e = omega arith
    by Equal c w e = omega arith
    by Greater c w e = omega arith

-- two orders that tie at equal keys alone single out the same key
pub only_at_alike : {K : Type 0} (cmp other : K → K → Ordering) → ((x : K) → cmp x x ≡ Equal) → ((x : K) → other x x ≡ Equal)
    → ((x y : K) → cmp x y ≡ Equal → x ≡ y) → ((x y : K) → other x y ≡ Equal → x ≡ y)
    → (k x : K) → only_at cmp k x ≡ only_at other k x
only_at_alike cmp other c o ctied otied k x =
    by (cmp k x) (other k x) (λ e. ap (other k) (sym (ctied k x e)) ∙ o k) (λ e. ap (cmp k) (sym (otied k x e)) ∙ c k)
  where
    by : (u v : Ordering) → (u ≡ Equal → v ≡ Equal) → (v ≡ Equal → u ≡ Equal) → ◌≡◌ {A = ℕ} (cond (is_eq u) 1 0) (cond (is_eq v) 1 0)
    by Equal v f g = ap (λ v. cond (is_eq v) 1 0) (sym (f refl))
    by Less Equal f g = let no : Less ≡ Equal = g refl in cc
    by Less Less f g = refl
    by Less Greater f g = refl
    by Greater Equal f g = let no : Greater ≡ Equal = g refl in cc
    by Greater Less f g = refl
    by Greater Greater f g = refl

only_at-indicator : (rows : List (List ℤ)) (m x : Monomial) → only_at (order_cmp rows) m x ≡ indicator m x
only_at-indicator rows =
    only_at_alike (order_cmp rows) (slice_cmp nat_cmp)
    (ties_itself (order_cmp rows) (order_cmp_total rows) (order_cmp_tied rows) 0)
    (ties_itself (slice_cmp nat_cmp) nat_list_cmp_total slice_cmp_tied 0)
    (order_cmp_tied rows)
    slice_cmp_tied

-- the number of a sum of terms
pub coefficient_at-from_terms : (rows : List (List ℤ)) (p : ℕ) (m : Monomial) (f : Polynomial)
    → Same p (coefficient_at m (from_terms (order_cmp rows) p f)) (coefficient_at m f)
coefficient_at-from_terms rows p m f =
    same_refl p _ _ (coefficient_at-weigh m (from_terms (order_cmp rows) p f))
    ∙ weigh-from_terms (order_cmp rows) (order_cmp_tied rows) p (indicator m) f
    ∙ same_refl p _ _ (sym (coefficient_at-weigh m f))

-- the number of a sum
pub coefficient_at-poly_add : (rows : List (List ℤ)) (p : ℕ) (m : Monomial) (f g : Polynomial)
    → Same p (coefficient_at m (poly_add (order_cmp rows) p f g)) (coefficient_at m f + coefficient_at m g)
coefficient_at-poly_add rows p m f g =
    same_refl p _ _ (coefficient_at-weigh m (poly_add (order_cmp rows) p f g))
    ∙ weigh-poly_add (order_cmp rows) (order_cmp_tied rows) p (indicator m) f g
    ∙ same_refl p _ _ (sym (λ i. coefficient_at-weigh m f i + coefficient_at-weigh m g i))

-- the number of a multiple
pub coefficient_at-poly_scale : (p c : ℕ) (m : Monomial) (f : Polynomial)
    → Same p (coefficient_at m (poly_scale p c f)) (c * coefficient_at m f)
coefficient_at-poly_scale p c m f =
    same_refl p _ _ (coefficient_at-weigh m (poly_scale p c f))
    ∙ weigh-poly_scale p (indicator m) c f
    ∙ same_refl p _ _ (ap (λ x. c * x) (sym (coefficient_at-weigh m f)))

-- the number at a monomial that no term has is 0
pub coefficient_at-absent : (m : Monomial) (f : Polynomial) → Each (λ t. m ≢ t.1) f → coefficient_at m f ≡ 0
coefficient_at-absent m [] h = refl
coefficient_at-absent m (t ∷ f) h = by (slice_cmp nat_cmp m t.1) (slice_cmp_tied m t.1) (coefficient_at-absent m f h.1)
  where
    by : (o : Ordering) → (o ≡ Equal → m ≡ t.1) → coefficient_at m f ≡ 0
        → elim o as (λ o. ℕ) [ Equal ↦ t.0 + coefficient_at m f | _ ↦ coefficient_at m f ] ≡ 0
    by Less tied e = e
    by Equal tied e = absurd (h.0 (tied refl))
    by Greater tied e = e

-- the number at a monomial is that of one term, or 0
pub coefficient_at-below : (p : ℕ) (m : Monomial) (f : Polynomial) → 0 < p → HasNumbers p f → IsApart f → coefficient_at m f < p
coefficient_at-below p m [] pos h a = pos
coefficient_at-below p m (t ∷ f) pos h a = by (slice_cmp nat_cmp m t.1) (slice_cmp_tied m t.1) (coefficient_at-below p m f pos h.1 a.1)
  where
    by : (o : Ordering) → (o ≡ Equal → m ≡ t.1) → coefficient_at m f < p
        → elim o as (λ o. ℕ) [ Equal ↦ t.0 + coefficient_at m f | _ ↦ coefficient_at m f ] < p
    by Less tied e = e
    by Equal tied e =
        let none : coefficient_at m f ≡ 0 =
        coefficient_at-absent m f (subst (λ x. Each (λ u. x ≢ u.1) f) (sym (tied refl)) a.0) in
        omega (arith, h.0)
    by Greater tied e = e

-- sorted polynomials with the same numbers are equal
pub coefficients_decide : (p : ℕ) (order : RowOrder) (f g : Polynomial) → IsPolynomial p order f → IsPolynomial p order g
    → ((m : Monomial) → coefficient_at m f ≡ coefficient_at m g) → f ≡ g
coefficients_decide p order f g hf hg e =
    same_at_keys (order_cmp order.rows) (order_cmp_total order.rows) (order_cmp_tied order.rows) p f g hf.canonical hg.canonical
    (λ m. same_refl p _ _ (number m f ∙ e m ∙ sym (number m g)))
  where
    number : (m : Monomial) (f : Polynomial) → weigh (only_at (order_cmp order.rows) m) f ≡ coefficient_at m f
    number m f = weigh_equal _ _ (only_at-indicator order.rows m) f ∙ sym (coefficient_at-weigh m f)
