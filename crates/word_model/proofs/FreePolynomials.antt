-- Polynomials without given variables, under an order that first compares how often these occur.
use Rattle.std.proofs.Common.{◌≡◌, ℕ, ◌+◌, ◌*◌, ◌≤◌, Bool, true, false, cond, nat_lt, ◌&&◌, ◌==◌, List, [], ◌∷◌, ◌++◌, map, length, Ordering, Less, Equal, Greater, ℤ, pos, refl, sym, ap, ◌∙◌, subst, arith}
use Rattle.std.specs.Ordering.{ordering_then, int_cmp}
use Rattle.std.proofs.lemmas.Bool.Decides.{nat_tests}
use Rattle.monomials.specs.Monomials.{Monomial, plus}
use Rattle.monomials.specs.Orders.{RowOrder, rows_cmp, order_cmp}
use Rattle.monomials.specs.ExtraRows.{marks}
use Rattle.monomials.specs.Rows.{weighted}
use Rattle.monomials.specs.Leading.{leading_monomial}
use Rattle.monomials.specs.Polynomials.{Polynomial, Each, HasVars, IsPolynomial, sum_over}
use Rattle.monomials.proofs.RowValues.{weighted-cons, row_value-map_pos}
use Rattle.monomials.proofs.Keys.{Each-weaker, EachKey, EachKey-sum_over, EachKey-poly_add}
use Rattle.word_model.specs.Words.{Algebra, sorted_word, normal_form}
use Rattle.word_model.specs.Products.{product}
use Rattle.word_model.specs.Conditions.{IsGAlgebra}
use Rattle.word_model.specs.Cofactors.{Row, row_value as value_of_row}
use Rattle.word_model.specs.Elimination.{elimination_order, occurrences, is_free}
use Rattle.word_model.proofs.Letters.{Each-both}
use Rattle.word_model.proofs.LeadingMonomials.{order, rest_below}
use Rattle.word_model.proofs.MultipleWeights.{IsSplit, split}

-- the weight of a product
pub weighted-plus : (ws : List ℕ) (a b : Monomial) → length a ≡ length b → weighted ws (plus a b) ≡ weighted ws a + weighted ws b
weighted-plus [] a b e = refl
weighted-plus (w ∷ ws) [] [] e = refl
weighted-plus (w ∷ ws) [] (y ∷ b) e = absurd (omega arith)
weighted-plus (w ∷ ws) (x ∷ a) [] e = absurd (omega arith)
weighted-plus (w ∷ ws) (x ∷ a) (y ∷ b) e =
    weighted-cons w (x + y) ws (plus a b)
    ∙ ap (λ n. w * (x + y) + n) (weighted-plus ws a b (omega arith))
    ∙ regroup w x y (weighted ws a) (weighted ws b)
    ∙ sym (λ i. weighted-cons w x ws a i + weighted-cons w y ws b i)
  where
    regroup : (w x y m n : ℕ) → w * (x + y) + (m + n) ≡ (w * x + m) + (w * y + n)
    regroup w x y m n = omega arith

-- a row of weights in front decides first
first_decides : (x y : ℕ) (r s : Ordering) → ordering_then (ordering_then (int_cmp (pos x) (pos y)) r) s ≡ Less → x ≤ y
first_decides x y r s e = by (nat_lt x y) refl (nat_lt y x) refl e
  where
    by : (b : Bool) → nat_lt x y ≡ b → (c : Bool) → nat_lt y x ≡ c → ordering_then (ordering_then (cond b Less (cond c Greater Equal)) r) s ≡ Less → x ≤ y
    by true b c d e = grind (arith, nat_tests, b)
    by false b true c e = cc
    by false b false c e = grind (arith, nat_tests, c)

pub weighted-below : (ws : List ℕ) (rows : List (List ℤ)) (a b : Monomial) → order_cmp (map pos ws ∷ rows) a b ≡ Less → weighted ws a ≤ weighted ws b
weighted-below ws rows a b e =
    first_decides (weighted ws a) (weighted ws b) (rows_cmp rows a b) (Rattle.std.specs.Cmp.Lexicographic.slice_cmp Rattle.std.specs.Ordering.nat_cmp a b)
    (sym (λ i. ordering_then (ordering_then (int_cmp (row_value-map_pos ws a i) (row_value-map_pos ws b i)) (rows_cmp rows a b)) (Rattle.std.specs.Cmp.Lexicographic.slice_cmp Rattle.std.specs.Ordering.nat_cmp a b)) ∙ e)

-- ---- tests and what they say

module _ (n : ℕ) (vars : List ℕ) where
  -- none of the variables occurs in the monomial
  abbrev pub Avoids : Monomial → Type 0
  Avoids m = occurrences n vars m ≡ 0

  pub free_keys : (f : Polynomial) → is_free n vars f ≡ true → EachKey Avoids f
  free_keys [] e = tt
  free_keys (t ∷ f) e = by (occurrences n vars t.1 == 0) refl (is_free n vars f) refl e (free_keys f)
    where
      by : (b : Bool) → (occurrences n vars t.1 == 0) ≡ b → (c : Bool) → is_free n vars f ≡ c → (b && c) ≡ true → (is_free n vars f ≡ true → EachKey Avoids f) → EachKey Avoids (t ∷ f)
      by true b true c e rest = (grind (arith, nat_tests, b), rest c)
      by true b false c e rest = cc
      by false b c d e rest = cc

  pub keys_free : (f : Polynomial) → EachKey Avoids f → is_free n vars f ≡ true
  keys_free [] h = refl
  keys_free (t ∷ f) h = let here : (occurrences n vars t.1 == 0) ≡ true = grind (arith, nat_tests, h.0) in λ i. here i && keys_free f h.1 i

-- ---- products

module _ (A : Algebra) (ok : IsGAlgebra A) (vars : List ℕ) (old : RowOrder) (is : A.order ≡ elimination_order vars old) where
  abbrev pub IsFree : Monomial → Type 0
  IsFree = Avoids A.order.vars vars

  -- what is below a monomial without the variables has none of them
  pub free_below : (a b : Monomial) → order A a b ≡ Less → IsFree b → IsFree a
  free_below a b less free =
      let rows : order_cmp (map pos (marks A.order.vars vars) ∷ old.rows) a b ≡ Less =
      (λ i. order_cmp (map pos (marks (is i).vars vars) ∷ old.rows) a b) ∙ ap (λ (o : RowOrder). order_cmp o.rows a b) (sym is) ∙ less in
      omega (arith, weighted-below (marks A.order.vars vars) old.rows a b rows, free)

  pub free_plus : (a b : Monomial) → length a ≡ A.order.vars → length b ≡ A.order.vars → IsFree a → IsFree b → IsFree (plus a b)
  free_plus a b ha hb fa fb = omega (arith, weighted-plus (marks A.order.vars vars) a b (ha ∙ sym hb), fa, fb)

  pub free_factors : (a b : Monomial) → length a ≡ A.order.vars → length b ≡ A.order.vars → IsFree (plus a b) → IsFree a × IsFree b
  free_factors a b ha hb free =
      let sum : occurrences A.order.vars vars a + occurrences A.order.vars vars b ≡ 0 = sym (weighted-plus (marks A.order.vars vars) a b (ha ∙ sym hb)) ∙ free in
      (omega (arith, sum), omega (arith, sum))

  -- a polynomial whose leading monomial has none of the variables
  pub free_by_leading : (f : Polynomial) → IsPolynomial A.p A.order f → IsFree (leading_monomial f) → EachKey IsFree f
  free_by_leading [] f_is free = tt
  free_by_leading (t ∷ f) f_is free = (free, Each-weaker _ _ (λ u less. free_below u.1 t.1 less free) f (rest_below A t f f_is.canonical.3 f_is.canonical.2))

  normal_form-free : (a b : Monomial) → length a ≡ A.order.vars → length b ≡ A.order.vars → IsFree a → IsFree b → EachKey IsFree (normal_form A (sorted_word a ++ sorted_word b))
  normal_form-free a b ha hb fa fb =
      let s : IsSplit A ok a b = split A ok a b ha hb in
      let top : IsFree (plus a b) = free_plus a b ha hb fa fb in
      subst (EachKey IsFree) (sym s.is) (top, Each-weaker _ _ (λ t below. free_below t.1 (plus a b) below.1 top) s.lower s.below)

  -- products of polynomials without the variables have none of them
  pub product-free : (f g : Polynomial) → HasVars A.order.vars f → HasVars A.order.vars g → EachKey IsFree f → EachKey IsFree g → EachKey IsFree (product A f g)
  unfolding product
  product-free f g hf hg ff fg =
      EachKey-sum_over (order_cmp A.order.rows) A.p IsFree (λ a. sum_over (order_cmp A.order.rows) A.p (λ b. normal_form A (sorted_word a ++ sorted_word b)) g) f
      (Each-both _ _ _ (λ t ha fa.
      EachKey-sum_over (order_cmp A.order.rows) A.p IsFree (λ b. normal_form A (sorted_word t.1 ++ sorted_word b)) g
      (Each-both _ _ _ (λ u hb fb. normal_form-free t.1 u.1 ha hb fa fb) g hg fg)) f hf ff)

  -- and so have values of rows
  pub row_value-free : (q : Row) (G : List Polynomial) → Each (HasVars A.order.vars) q → Each (HasVars A.order.vars) G → Each (EachKey IsFree) q → Each (EachKey IsFree) G → EachKey IsFree (value_of_row A q G)
  row_value-free [] G hq hG fq fG = tt
  row_value-free (f ∷ q) [] hq hG fq fG = tt
  row_value-free (f ∷ q) (g ∷ G) hq hG fq fG =
      EachKey-poly_add (order_cmp A.order.rows) A.p IsFree (product A f g) (value_of_row A q G) (product-free f g hq.0 hG.0 fq.0 fG.0) (row_value-free q G hq.1 hG.1 fq.1 fG.1)
