-- The terms of a polynomial, sorted by another order.
use Rattle.std.proofs.Common.{◌≡◌, ◌≢◌, ℕ, zero, suc, ◌<◌, Bool, true, false, nat_eq, List, [], ◌∷◌, length, refl, sym, ap, ◌∙◌, arith, ℤ}
use Rattle.std.specs.Bool.{Decides}
use Rattle.std.specs.List.{AllByRecursion, IsDistinct}
use Rattle.std.specs.List.Sorted.{IsPermutation}
use Rattle.std.specs.Cmp.Lexicographic.{pointwise}
use Rattle.std.proofs.lemmas.Cmp.{nat_list_eq_equiv}
use Rattle.std.proofs.lemmas.Map.Keys.{IsDistinct-IsPermutation}
use Rattle.std.proofs.lemmas.Slice.Eq.{bytes_eq-Decides}
use Rattle.monomials.specs.Monomials.{Monomial}
use Rattle.monomials.specs.Orders.{RowOrder, order_cmp}
use Rattle.monomials.specs.Polynomials.{Polynomial, Each, HasVars, HasNumbers, IsAbove, IsApart, IsCanonical, IsPolynomial, from_terms, coefficient_at}
use Rattle.monomials.proofs.Canonical.{from_terms-canonical, from_terms-IsPermutation}
use Rattle.monomials.proofs.Coefficients.{indicator, coefficient_at-weigh}
use Rattle.monomials.proofs.OrderLaws.{order_cmp_total, order_cmp_tied}
use Rattle.monomials.proofs.Weights.{weigh-IsPermutation}
use Rattle.gpoly.specs.Inside.Sorting.{IsFalling}
use Rattle.gpoly.specs.Terms.{IsTermList}
use Rattle.gpoly.proofs.Lists.{Each-IsPermutation}
use Rattle.gpoly.proofs.Sorting.{above_first}

-- ---- different monomials stay different where they change places

same_key : ℕ × Monomial → ℕ × Monomial → Bool
same_key t u = pointwise nat_eq t.1 u.1

tells : (t u : ℕ × Monomial) → Decides (same_key t u) (t.1 ≡ u.1)
unfolding same_key
tells t u = bytes_eq-Decides t.1 u.1

flips : (t u : ℕ × Monomial) → same_key t u ≡ same_key u t
unfolding same_key
flips t u = nat_list_eq_equiv.symm t.1 u.1

untold : (t u : ℕ × Monomial) → t.1 ≢ u.1 → same_key t u ≡ false
untold t u h = by (same_key t u) (tells t u).0
  where
    by : (b : Bool) → (b ≡ true → t.1 ≡ u.1) → b ≡ false
    by true told = absurd (h (told refl))
    by false told = refl

others : (t : ℕ × Monomial) (f : Polynomial) → Each (λ u. t.1 ≢ u.1) f → AllByRecursion (λ u. same_key t u ≡ false) f
others t [] h = tt
others t (u ∷ f) h = (untold t u h.0, others t f h.1)

distinct : (f : Polynomial) → IsApart f → IsDistinct same_key f
unfolding IsDistinct
distinct [] h = tt
distinct (t ∷ f) h = (others t f h.0, distinct f h.1)

different : (t : ℕ × Monomial) (f : Polynomial) → AllByRecursion (λ u. same_key t u ≡ false) f → Each (λ u. t.1 ≢ u.1) f
different t [] h = tt
different t (u ∷ f) h =
    (λ e. (let no : false ≡ true = sym h.0 ∙ (tells t u).1 e in cc), different t f h.1)

apart : (f : Polynomial) → IsDistinct same_key f → IsApart f
unfolding IsDistinct
apart [] h = tt
apart (t ∷ f) h = (different t f h.0, apart f h.1)

IsApart-IsPermutation : (f g : Polynomial) → IsPermutation f g → IsApart f → IsApart g
IsApart-IsPermutation f g moved h = apart g (IsDistinct-IsPermutation same_key flips f g moved (distinct f h))

-- ---- terms that fall and are apart are canonical

falls_strictly : (rows : List (List ℤ)) (t : ℕ × Monomial) (g : Polynomial) → IsFalling (order_cmp rows) (t ∷ g) → IsApart (t ∷ g)
    → IsAbove (order_cmp rows) t.1 g
falls_strictly rows t [] falls apart = tt
falls_strictly rows t (u ∷ g) falls apart = above_first rows 0 t.1 u falls.0.0 (λ e. apart.0.0 (sym e))

IsCanonical-falling : (rows : List (List ℤ)) (p : ℕ) (g : Polynomial) → IsFalling (order_cmp rows) g → IsApart g
    → Each (λ t. 0 < t.0) g → HasNumbers p g → IsCanonical (order_cmp rows) p g
IsCanonical-falling rows p [] falls apart nonzero numbers = tt
IsCanonical-falling rows p (t ∷ g) falls apart nonzero numbers = (
  nonzero.0,
  numbers.0,
  falls_strictly rows t g falls apart,
  IsCanonical-falling rows p g falls.1 apart.1 nonzero.1 numbers.1,
)

-- the terms of f in falling order
module _ (order : RowOrder) (f g : Polynomial) (terms : IsTermList f) (moved : IsPermutation f g) (falls : IsFalling (order_cmp order.rows) g) where
  pub terms_reordered : IsTermList g
  terms_reordered = record {
    nonzero = Each-IsPermutation (λ t. 0 < t.0) f g moved terms.nonzero;
    small = Each-IsPermutation _ f g moved terms.small;
    apart = IsApart-IsPermutation f g moved terms.apart;
  }

  pub numbers_reordered : (p : ℕ) → HasNumbers p f → HasNumbers p g
  numbers_reordered p numbers = Each-IsPermutation (λ t. t.0 < p) f g moved numbers

  pub vars_reordered : HasVars order.vars f → HasVars order.vars g
  vars_reordered vars = Each-IsPermutation (λ t. length t.1 ≡ order.vars) f g moved vars

  pub sorted_reordered : HasVars order.vars f → (p : ℕ) → HasNumbers p f → IsPolynomial p order g
  sorted_reordered vars p numbers = record {
    canonical =
        IsCanonical-falling order.rows p g falls terms_reordered.apart terms_reordered.nonzero (numbers_reordered p numbers);
    vars = vars_reordered vars;
  }

  empty : (p : ℕ) → p ≡ 0 → (h : Polynomial) → HasNumbers p h → h ≡ []
  empty p none [] numbers = refl
  empty p none (t ∷ h) numbers = absurd (omega (arith, none, numbers.0))

  -- they are the sum of the terms of f, over any field that has the numbers
  pub value_reordered : (p : ℕ) → HasNumbers p f → g ≡ from_terms (order_cmp order.rows) p f
  value_reordered zero numbers =
      empty 0 refl g (numbers_reordered 0 numbers) ∙ sym (ap (from_terms (order_cmp order.rows) 0) (empty 0 refl f numbers))
  value_reordered (suc q) numbers =
      let canonical : IsCanonical (order_cmp order.rows) (suc q) g =
      IsCanonical-falling order.rows (suc q) g falls terms_reordered.apart terms_reordered.nonzero (numbers_reordered (suc q) numbers) in
      sym (from_terms-canonical (order_cmp order.rows) (order_cmp_total order.rows) (order_cmp_tied order.rows) (suc q) (omega arith) g canonical)
      ∙ from_terms-IsPermutation (order_cmp order.rows) (order_cmp_total order.rows) (order_cmp_tied order.rows) (suc q) (omega arith) f g moved

  -- and the same map from monomials to numbers
  pub map_reordered : (m : Monomial) → coefficient_at m g ≡ coefficient_at m f
  map_reordered m =
      coefficient_at-weigh m g ∙ (weigh-IsPermutation (indicator m) f g moved ∙ sym (coefficient_at-weigh m f))
