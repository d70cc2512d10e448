-- The merge of a sorted list of terms and the multiple of another: its invariant, and that each step keeps it.
use Rattle.std.proofs.Common.{◌≡◌, ℕ, zero, suc, ◌+◌, ◌*◌, ◌%◌, ◌<◌, ◌≤◌, ◌⊎◌, inl, inr, List, [], ◌∷◌, ◌++◌, length, drop, get_or, refl, sym, ap, ◌∙◌, subst}
use Rattle.std.proofs.Common.{Less, Equal, Greater}
use Rattle.std.proofs.lemmas.List.{map-append, append_assoc, append-nil, drop_more, drop_all}
use Rattle.monomials.specs.Monomials.{Monomial}
use Rattle.monomials.specs.Orders.{RowOrder, order_cmp}
use Rattle.monomials.specs.Polynomials.{Polynomial, IsPolynomial, cons_nonzero, poly_add, poly_scale}
use Rattle.monomials.proofs.Canonical.{turn}
use Rattle.monomials.proofs.Merge.{poly_add-nil}
use Rattle.monomials.proofs.OrderLaws.{order_cmp_total, order_cmp_tied}
use Rattle.gpoly.specs.declared.Term.{Term}
use Rattle.gpoly.specs.Terms.{pair_of, pairs_of}
use Rattle.gpoly.proofs.Multiples.{multiple_left, multiple_right, multiple_both}

-- the terms from an index on, the first of them taken apart
pub rest_is : (ts : List Term) (i : ℕ) (t : Term) → i < length ts → t ≡ get_or ts i t
    → pairs_of (drop i ts) ≡ pair_of t ∷ pairs_of (drop (i + 1) ts)
rest_is ts i t l is =
    ap pairs_of (drop_more ts i t l) ∙ ap (λ u. pair_of u ∷ pairs_of (drop (i + 1) ts)) (sym is)

-- what is written so far, in front of the sum of what is left, is the whole sum
pub record IsMerging (p : ℕ) (order : RowOrder) (fs : List Term) (k : ℕ) (gs out : List Term) (i j : ℕ) : Type 0 where
  pub sum : pairs_of out ++ poly_add (order_cmp order.rows) p (pairs_of (drop i fs)) (poly_scale p k (pairs_of (drop j gs)))
      ≡ poly_add (order_cmp order.rows) p (pairs_of fs) (poly_scale p k (pairs_of gs))
  pub left : IsPolynomial p order (pairs_of (drop i fs))
  pub right : IsPolynomial p order (pairs_of (drop j gs))

-- what is left behind the first term
tail_of : (p : ℕ) (order : RowOrder) (t : ℕ × List ℕ) (f : Polynomial) → IsPolynomial p order (t ∷ f) → IsPolynomial p order f
tail_of p order t f h = record { canonical = h.canonical.3; vars = h.vars.1 }

-- a term in front of a list, where it stands or not
in_front : (c : ℕ) (m : Monomial) (f : Polynomial) → cons_nonzero c m [] ++ f ≡ cons_nonzero c m f
in_front zero m f = refl
in_front (suc c) m f = refl

module _ (p : ℕ) (order : RowOrder) (fs : List Term) (k : ℕ) (gs : List Term) (pos : 0 < p) where
  -- what the next terms of both lists are
  pub record IsReading (i j : ℕ) (t u : Term) : Type 0 where
    pub left_in : i < length fs
    pub right_in : j < length gs
    pub left_is : t ≡ get_or fs i t
    pub right_is : u ≡ get_or gs j u

  -- the sum of what is left
  abbrev rest_sum : ℕ → ℕ → Polynomial
  rest_sum i j = poly_add (order_cmp order.rows) p (pairs_of (drop i fs)) (poly_scale p k (pairs_of (drop j gs)))

  -- what is written goes on to be the whole sum, where a step takes one term, or none, from the sum of what was left
  written_more : (out new : List Term) (i j i' j' c : ℕ) (m : Monomial) → IsMerging p order fs k gs out i j
      → pairs_of new ≡ pairs_of out ++ cons_nonzero c m [] → rest_sum i j ≡ cons_nonzero c m (rest_sum i' j')
      → pairs_of new ++ rest_sum i' j' ≡ poly_add (order_cmp order.rows) p (pairs_of fs) (poly_scale p k (pairs_of gs))
  written_more out new i j i' j' c m h written step =
      ap (λ x. x ++ rest_sum i' j') written
      ∙ append_assoc (pairs_of out) (cons_nonzero c m []) (rest_sum i' j')
      ∙ ap (λ x. pairs_of out ++ x) (in_front c m (rest_sum i' j') ∙ sym step)
      ∙ h.sum

  module _ (out new : List Term) (i j : ℕ) (t u : Term) (r : IsReading i j t u) (h : IsMerging p order fs k gs out i j) where
    -- what is left on the left, the first term taken apart
    first_left : IsPolynomial p order (pair_of t ∷ pairs_of (drop (i + 1) fs))
    first_left = subst (IsPolynomial p order) (rest_is fs i t r.left_in r.left_is) h.left

    -- what is left on the right, the first term taken apart
    first_right : IsPolynomial p order (pair_of u ∷ pairs_of (drop (j + 1) gs))
    first_right = subst (IsPolynomial p order) (rest_is gs j u r.right_in r.right_is) h.right

    -- the sum of what is left, both first terms taken apart
    rest_apart : rest_sum i j ≡ poly_add (order_cmp order.rows) p (pair_of t ∷ pairs_of (drop (i + 1) fs)) (poly_scale p k (pair_of u ∷ pairs_of (drop (j + 1) gs)))
    rest_apart = λ x. poly_add (order_cmp order.rows) p (rest_is fs i t r.left_in r.left_is x) (poly_scale p k (rest_is gs j u r.right_in r.right_is x))

    -- the left term is the greater
    pub step_left : order_cmp order.rows t.mono u.mono ≡ Greater → new ≡ out ++ t ∷ [] → IsMerging p order fs k gs new (i + 1) j
    step_left e written =
        let f : Polynomial = pairs_of (drop (i + 1) fs) in
        let g : Polynomial = pairs_of (drop (j + 1) gs) in
        record {
          sum =
              ap (λ x. pairs_of x ++ rest_sum (i + 1) j) written
              ∙ ap (λ x. x ++ rest_sum (i + 1) j) (map-append pair_of out (t ∷ []))
              ∙ append_assoc (pairs_of out) (pair_of t ∷ []) (rest_sum (i + 1) j)
              ∙ ap (λ x. pairs_of out ++ pair_of t ∷ poly_add (order_cmp order.rows) p f (poly_scale p k x)) (rest_is gs j u r.right_in r.right_is)
              ∙ ap (λ x. pairs_of out ++ x) (sym (multiple_left (order_cmp order.rows) (order_cmp_total order.rows) (order_cmp_tied order.rows) p pos k (pair_of u) f g first_right.canonical (pair_of t) first_left.canonical e))
              ∙ ap (λ x. pairs_of out ++ x) (sym rest_apart)
              ∙ h.sum;
          left = tail_of p order (pair_of t) f first_left;
          right = h.right;
        }

    -- the right term is the greater
    pub step_right : order_cmp order.rows t.mono u.mono ≡ Less → pairs_of new ≡ pairs_of out ++ cons_nonzero ((k * u.coef) % p) u.mono []
        → IsMerging p order fs k gs new i (j + 1)
    step_right e written =
        let f : Polynomial = pairs_of (drop (i + 1) fs) in
        let g : Polynomial = pairs_of (drop (j + 1) gs) in
        let c : ℕ = (k * u.coef) % p in
        record {
          sum =
              written_more out new i j i (j + 1) c u.mono h written
              (rest_apart
              ∙ multiple_right (order_cmp order.rows) (order_cmp_total order.rows) (order_cmp_tied order.rows) p pos k (pair_of u) (pair_of t ∷ f) g first_right.canonical first_left.canonical
              (turn (order_cmp order.rows) (order_cmp_total order.rows) (order_cmp_tied order.rows) p t.mono u.mono e)
              ∙ ap (λ x. cons_nonzero c u.mono (poly_add (order_cmp order.rows) p x (poly_scale p k g))) (sym (rest_is fs i t r.left_in r.left_is)));
          left = h.left;
          right = tail_of p order (pair_of u) g first_right;
        }

    -- both have one monomial
    pub step_both : order_cmp order.rows t.mono u.mono ≡ Equal → pairs_of new ≡ pairs_of out ++ cons_nonzero ((t.coef + (k * u.coef) % p) % p) t.mono []
        → IsMerging p order fs k gs new (i + 1) (j + 1)
    step_both e written =
        let f : Polynomial = pairs_of (drop (i + 1) fs) in
        let g : Polynomial = pairs_of (drop (j + 1) gs) in
        record {
          sum =
              written_more out new i j (i + 1) (j + 1) ((t.coef + (k * u.coef) % p) % p) t.mono h written
              (rest_apart
              ∙ multiple_both (order_cmp order.rows) (order_cmp_total order.rows) (order_cmp_tied order.rows) p pos k (pair_of u) f g first_right.canonical (pair_of t) first_left.canonical e);
          left = tail_of p order (pair_of t) f first_left;
          right = tail_of p order (pair_of u) g first_right;
        }

  -- where one list is at its end, the rest of the other is the rest of the sum
  pub merge_ends : (out : List Term) (i j : ℕ) → (length fs ≤ i) ⊎ (length gs ≤ j) → IsMerging p order fs k gs out i j
      → pairs_of (out ++ drop i fs) ++ poly_scale p k (pairs_of (drop j gs)) ≡ poly_add (order_cmp order.rows) p (pairs_of fs) (poly_scale p k (pairs_of gs))
  merge_ends out i j ends h =
      ap (λ x. x ++ poly_scale p k (pairs_of (drop j gs))) (map-append pair_of out (drop i fs))
      ∙ append_assoc (pairs_of out) (pairs_of (drop i fs)) (poly_scale p k (pairs_of (drop j gs)))
      ∙ ap (λ x. pairs_of out ++ x) (rests ends)
      ∙ h.sum
    where
      rests : (length fs ≤ i) ⊎ (length gs ≤ j) → pairs_of (drop i fs) ++ poly_scale p k (pairs_of (drop j gs)) ≡ rest_sum i j
      rests (inl l) =
          let none : drop i fs ≡ [] = drop_all i fs l in
          ap (λ x. pairs_of x ++ poly_scale p k (pairs_of (drop j gs))) none
          ∙ sym (ap (λ x. poly_add (order_cmp order.rows) p (pairs_of x) (poly_scale p k (pairs_of (drop j gs)))) none)
      rests (inr l) =
          let none : drop j gs ≡ [] = drop_all j gs l in
          ap (λ x. pairs_of (drop i fs) ++ poly_scale p k (pairs_of x)) none
          ∙ append-nil (pairs_of (drop i fs))
          ∙ sym (poly_add-nil (order_cmp order.rows) (order_cmp_total order.rows) (order_cmp_tied order.rows) p pos (pairs_of (drop i fs)) h.left.canonical)
          ∙ sym (ap (λ x. poly_add (order_cmp order.rows) p (pairs_of (drop i fs)) (poly_scale p k (pairs_of x))) none)
