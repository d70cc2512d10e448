-- Lists restricted to polynomials without given variables.
use Rattle.std.proofs.Common.{◌≡◌, ℕ, Bool, true, false, List, [], ◌∷◌, map, ℤ, pos, if◌then◌else◌, refl, sym, ap, ◌∙◌}
use Rattle.std.specs.Ordering.{ordering_then, int_cmp, nat_cmp}
use Rattle.std.specs.Cmp.Lexicographic.{slice_cmp}
use Rattle.monomials.specs.Monomials.{Monomial}
use Rattle.monomials.specs.Orders.{RowOrder, rows_cmp, order_cmp}
use Rattle.monomials.specs.ExtraRows.{marks}
use Rattle.monomials.specs.Rows.{weighted}
use Rattle.monomials.specs.Polynomials.{Polynomial, Each, HasVars, IsAbove, IsCanonical, IsPolynomial}
use Rattle.monomials.proofs.RowValues.{row_value-map_pos}
use Rattle.monomials.proofs.Keys.{Each-weaker, EachKey}
use Rattle.word_model.specs.Words.{Algebra}
use Rattle.word_model.specs.Conditions.{IsGAlgebra}
use Rattle.word_model.specs.Elimination.{elimination_order, is_free, restricted}
use Rattle.word_model.specs.Ideals.{InLeftIdeal, IsReducedBasis}
use Rattle.word_model.proofs.Combinations.{ideal_is}
use Rattle.word_model.proofs.FreePolynomials.{free_keys}

-- ---- a row in front that is zero at both monomials decides nothing

module _ (ws : List ℕ) (rows : List (List ℤ)) where
  same_cmp : (a b : Monomial) → weighted ws a ≡ 0 → weighted ws b ≡ 0 → order_cmp (map pos ws ∷ rows) a b ≡ order_cmp rows a b
  same_cmp a b za zb i = ordering_then (ordering_then (int_cmp ((row_value-map_pos ws a ∙ ap pos za) i) ((row_value-map_pos ws b ∙ ap pos zb) i)) (rows_cmp rows a b)) (slice_cmp nat_cmp a b)

  above_before : (a : Monomial) (f : Polynomial) → weighted ws a ≡ 0 → EachKey (λ m. weighted ws m ≡ 0) f → IsAbove (order_cmp (map pos ws ∷ rows)) a f → IsAbove (order_cmp rows) a f
  above_before a [] za z above = tt
  above_before a (t ∷ f) za z above = sym (same_cmp a t.1 za z.0) ∙ above

  canonical_before : (p : ℕ) (f : Polynomial) → EachKey (λ m. weighted ws m ≡ 0) f → IsCanonical (order_cmp (map pos ws ∷ rows)) p f → IsCanonical (order_cmp rows) p f
  canonical_before p [] z c = tt
  canonical_before p (t ∷ f) z c = (c.0, c.1, above_before t.1 f z.0 z.1 c.2, canonical_before p f z.1 c.3)

-- ---- polynomials without the variables are sorted by the order behind the row

module _ (p : ℕ) (vars : List ℕ) (old : RowOrder) where
  sorted_before : (f : Polynomial) → IsPolynomial p (elimination_order vars old) f → is_free old.vars vars f ≡ true → IsPolynomial p old f
  sorted_before f f_is free = record {
    canonical = canonical_before (marks old.vars vars) old.rows p f (free_keys old.vars vars f free) f_is.canonical;
    vars = f_is.vars;
  }

  pub restricted-sorted : (F : List Polynomial) → Each (IsPolynomial p (elimination_order vars old)) F → Each (IsPolynomial p old) (restricted old.vars vars F)
  restricted-sorted [] sorted = tt
  restricted-sorted (f ∷ F) sorted = by (is_free old.vars vars f) refl (restricted-sorted F sorted.1)
    where
      by : (b : Bool) → is_free old.vars vars f ≡ b → Each (IsPolynomial p old) (restricted old.vars vars F) → Each (IsPolynomial p old) (if b then f ∷ restricted old.vars vars F else restricted old.vars vars F)
      by true free rest = (sorted_before f sorted.0 free, rest)
      by false free rest = rest

-- ---- variables

pub polynomials-vars : (p : ℕ) (order : RowOrder) (F : List Polynomial) → Each (IsPolynomial p order) F → Each (HasVars order.vars) F
polynomials-vars p order F sorted = Each-weaker _ _ (λ f f_is. f_is.vars) F sorted

pub basis-vars : (A : Algebra) (ok : IsGAlgebra A) (gens F : List Polynomial) → IsReducedBasis A (InLeftIdeal A gens) F → Each (HasVars A.order.vars) F
basis-vars A ok gens F r = Each-weaker _ _ (λ f h. (ideal_is A ok gens f h).vars) F r.inside
