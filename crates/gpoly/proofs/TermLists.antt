-- Terms of the program, and the polynomials that they stand for.
use Rattle.std.proofs.Common.{◌≡◌, ℕ, zero, suc, ◌*◌, ◌%◌, ◌<◌, ◌≤◌, List, [], ◌∷◌, ◌++◌, length, map, reverse, get_or, drop, refl, sym, ap, ◌∙◌, arith}
use Rattle.std.proofs.lemmas.List.{reverse-append, append-nil, at_drop_all}
use Rattle.monomials.specs.Monomials.{Monomial, degree}
use Rattle.monomials.specs.Orders.{RowOrder, order_cmp}
use Rattle.monomials.specs.Polynomials.{Polynomial, Each, HasNumbers, HasVars, IsCanonical, IsPolynomial, cons_nonzero, from_terms, poly_add, poly_scale, poly_degree}
use Rattle.monomials.proofs.Insertion.{cons_nonzero_cases}
use Rattle.monomials.proofs.Keys.{Each-append, EachKey-poly_scale, EachKey-from_terms, EachKey-poly_add}
use Rattle.monomials.proofs.Canonical.{IsCanonical-from_terms}
use Rattle.monomials.proofs.OrderLaws.{order_cmp_total, order_cmp_tied}
use Rattle.monomials.proofs.Operations.{IsApart-poly_scale, IsApart-canonical, IsPolynomial-poly_add}
use Rattle.gpoly.specs.declared.Term.{Term}
use Rattle.gpoly.specs.Terms.{pairs_of, IsTermList}

-- terms with one polynomial are equal
pub pairs_of_tell : (ts us : List Term) → pairs_of ts ≡ pairs_of us → ts ≡ us
pairs_of_tell ts us e = sym (back ts) ∙ ap (map (λ (q : ℕ × Monomial). record { coef = q.0; mono = q.1 })) e ∙ back us
  where
    back : (ts : List Term) → map (λ (q : ℕ × Monomial). record { coef = q.0; mono = q.1 }) (pairs_of ts) ≡ ts
    back [] = refl
    back (t ∷ ts) = ap (λ r. t ∷ r) (back ts)

-- a term at the end is the first of the reversed list
pub reverse-cons_nonzero : (f : Polynomial) (c : ℕ) (m : Monomial) → reverse (f ++ cons_nonzero c m []) ≡ cons_nonzero c m (reverse f)
reverse-cons_nonzero f zero m = ap reverse (append-nil f)
reverse-cons_nonzero f (suc c) m = reverse-append f ((suc c, m) ∷ [])

-- the numbers of terms with one more at the end
pub HasNumbers-more : (p : ℕ) (f : Polynomial) (c : ℕ) (m : Monomial) → HasNumbers p f → c < p → HasNumbers p (f ++ cons_nonzero c m [])
HasNumbers-more p f c m h l =
    Each-append (λ t. t.0 < p) f (cons_nonzero c m []) h (cons_nonzero_cases (HasNumbers p) c m [] tt (λ more. (l, tt)))

-- the degree of a polynomial whose terms are small
pub poly_degree_small : (n : ℕ) (f : Polynomial) → Each (λ t. degree t.1 ≤ n) f → poly_degree f ≤ n
poly_degree_small n [] h = omega arith
poly_degree_small n (t ∷ f) h = omega (arith, h.0, poly_degree_small n f h.1)

-- a multiple of the terms of a polynomial is one
pub IsTermList-poly_scale : (p c : ℕ) (f : Polynomial) → IsTermList f → IsTermList (poly_scale p c f)
IsTermList-poly_scale p c f h = record {
  nonzero = positive f;
  small = EachKey-poly_scale p (λ m. degree m ≤ 4095) c f h.small;
  apart = IsApart-poly_scale p c f h.apart;
}
  where
    positive : (f : Polynomial) → Each (λ t. 0 < t.0) (poly_scale p c f)
    positive [] = tt
    positive (t ∷ f) =
        cons_nonzero_cases (Each (λ t. 0 < t.0)) ((c * t.0) % p) t.1 (poly_scale p c f) (positive f) (λ more. (more, positive f))

-- so are the terms of a canonical polynomial of small degrees
pub IsTermList-canonical : (p : ℕ) (order : RowOrder) (f : Polynomial) → IsCanonical (order_cmp order.rows) p f
    → Each (λ t. degree t.1 ≤ 4095) f → IsTermList f
IsTermList-canonical p order f h s = record { nonzero = positive f h; small = s; apart = IsApart-canonical p order f h }
  where
    positive : (f : Polynomial) → IsCanonical (order_cmp order.rows) p f → Each (λ t. 0 < t.0) f
    positive [] h = tt
    positive (t ∷ f) h = (h.0, positive f h.3)

-- the number of a term at an index
pub numbers_at : (p : ℕ) (ts : List Term) (i : ℕ) (d : Term) → i < length ts → HasNumbers p (pairs_of ts) → (get_or ts i d).coef < p
numbers_at p [] i d l h = absurd (omega arith)
numbers_at p (t ∷ ts) zero d l h = h.0
numbers_at p (t ∷ ts) (suc i) d l h = numbers_at p ts i d (omega arith) h.1

-- the multiple where no term is left
pub scaled_all : (p k : ℕ) (out ts us : List Term) (i : ℕ) → length ts ≤ i → ts ≡ us
    → pairs_of out ++ poly_scale p k (pairs_of (drop i ts)) ≡ poly_scale p k (pairs_of ts) → pairs_of out ≡ poly_scale p k (pairs_of us)
scaled_all p k out ts us i l same h =
    sym (append-nil (pairs_of out))
    ∙ sym (at_drop_all (λ vs. pairs_of out ++ poly_scale p k (pairs_of vs)) ts i l)
    ∙ h
    ∙ ap (λ vs. poly_scale p k (pairs_of vs)) same

-- the number of variables of a term at an index
pub vars_at : (n : ℕ) (ts : List Term) (i : ℕ) (d : Term) → i < length ts → HasVars n (pairs_of ts) → length (get_or ts i d).mono ≡ n
vars_at n [] i d l h = absurd (omega arith)
vars_at n (t ∷ ts) zero d l h = h.0
vars_at n (t ∷ ts) (suc i) d l h = vars_at n ts i d (omega arith) h.1

-- so are the terms of a sum
pub IsTermList-poly_add : (p : ℕ) (order : RowOrder) (f g : Polynomial) → 0 < p → IsTermList f → IsTermList g → IsPolynomial p order f → IsPolynomial p order g
    → IsTermList (poly_add (order_cmp order.rows) p f g)
IsTermList-poly_add p order f g pos lf lg hf hg =
    IsTermList-canonical p order (poly_add (order_cmp order.rows) p f g) (IsPolynomial-poly_add p order pos f g hf hg).canonical
    (EachKey-poly_add (order_cmp order.rows) p (λ m. degree m ≤ 4095) f g lf.small lg.small)

-- so are the terms of a sum of terms of small degrees
pub IsTermList-from_terms : (p : ℕ) (order : RowOrder) (f : Polynomial) → 0 < p → Each (λ t. degree t.1 ≤ 4095) f
    → IsTermList (from_terms (order_cmp order.rows) p f)
IsTermList-from_terms p order f pos small =
    IsTermList-canonical p order (from_terms (order_cmp order.rows) p f)
    (IsCanonical-from_terms (order_cmp order.rows) (order_cmp_total order.rows) (order_cmp_tied order.rows) p pos f)
    (EachKey-from_terms (order_cmp order.rows) p (λ m. degree m ≤ 4095) f small)
