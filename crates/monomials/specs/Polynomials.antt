-- Polynomials as lists of terms, each a number and a key, with the greatest key first. The keys of a polynomial are monomials;
-- sums of words have words as keys.
use Rattle.std.specs.Prelude.{◌≡◌, ◌≢◌, ℕ, zero, suc, ◌+◌, ◌-◌, ◌*◌, ◌%◌, ◌<◌, max, List, [], ◌∷◌, length}
use Rattle.std.specs.declared.cmp.Ordering.{Ordering}
use Rattle.std.specs.declared.cmp.Ordering.TheVariants.{Less, Equal, Greater}
use Rattle.std.specs.Ordering.{nat_cmp}
use Rattle.std.specs.Cmp.Lexicographic.{slice_cmp}
use Rattle.monomials.specs.Monomials.{Monomial, degree}
use Rattle.monomials.specs.Orders.{RowOrder, order_cmp}

-- a polynomial: its terms, each a number and a monomial
abbrev pub Polynomial : Type 0
Polynomial = List (ℕ × Monomial)

-- the term c k in front, unless c is zero
abbrev pub cons_nonzero : {K : Type 0} → ℕ → K → List (ℕ × K) → List (ℕ × K)
cons_nonzero zero k f = f
cons_nonzero (suc c) k f = (suc c, k) ∷ f

module _ {K : Type 0} (cmp : K → K → Ordering) (p : ℕ) where
  -- the sum of the term c k and f
  abbrev pub insert_term : ℕ → K → List (ℕ × K) → List (ℕ × K)
  insert_term c k [] = cons_nonzero (c % p) k []
  insert_term c k (t ∷ f) = elim (cmp k t.1) [
    | Greater ↦ cons_nonzero (c % p) k (t ∷ f)
    | Equal ↦ cons_nonzero ((c + t.0) % p) k f
    | Less ↦ t ∷ insert_term c k f
  ]

  -- the sum of two polynomials: each term of the first is added to the second
  abbrev pub poly_add : List (ℕ × K) → List (ℕ × K) → List (ℕ × K)
  poly_add [] g = g
  poly_add (t ∷ f) g = insert_term t.0 t.1 (poly_add f g)

  -- the polynomial with these terms, given in any order and with any repetition: their sum
  abbrev pub from_terms : List (ℕ × K) → List (ℕ × K)
  from_terms f = poly_add f []

-- the multiple c f
abbrev pub poly_scale : {K : Type 0} → ℕ → ℕ → List (ℕ × K) → List (ℕ × K)
poly_scale p c [] = []
poly_scale p c (t ∷ f) = cons_nonzero ((c * t.0) % p) t.1 (poly_scale p c f)

-- the difference of two polynomials: the sum of f and -1 times g, where p - 1 stands for -1
abbrev pub poly_sub : {K : Type 0} → (K → K → Ordering) → ℕ → List (ℕ × K) → List (ℕ × K) → List (ℕ × K)
poly_sub cmp p f g = poly_add cmp p f (poly_scale p (p - 1) g)

-- The linear extension of `value` to f: the sum of c times the value at k, over the terms c k of f.
abbrev pub sum_over : {J K : Type 0} → (K → K → Ordering) → ℕ → (J → List (ℕ × K)) → List (ℕ × J) → List (ℕ × K)
sum_over cmp p value [] = []
sum_over cmp p value (t ∷ f) = poly_add cmp p (poly_scale p t.0 (value t.1)) (sum_over cmp p value f)

-- P of each element
abbrev pub Each : {X : Type 0} → (X → Type 0) → List X → Type 0
Each P [] = Unit {0}
Each P (x ∷ xs) = P x × Each P xs

-- k is above every key of a list that is in order: above its first
abbrev pub IsAbove : {K : Type 0} → (K → K → Ordering) → K → List (ℕ × K) → Type 0
IsAbove cmp k [] = Unit {0}
IsAbove cmp k (t ∷ f) = cmp k t.1 ≡ Greater

-- the canonical form: the keys strictly fall, and the numbers are below p and not zero
abbrev pub IsCanonical : {K : Type 0} → (K → K → Ordering) → ℕ → List (ℕ × K) → Type 0
IsCanonical cmp p [] = Unit {0}
IsCanonical cmp p (t ∷ f) = (0 < t.0) × (t.0 < p) × IsAbove cmp t.1 f × IsCanonical cmp p f

-- all monomials have n exponents
abbrev pub HasVars : ℕ → Polynomial → Type 0
HasVars n f = Each (λ t. length t.1 ≡ n) f

-- all numbers are below p
abbrev pub HasNumbers : ℕ → Polynomial → Type 0
HasNumbers p f = Each (λ t. t.0 < p) f

-- the keys are pairwise different
abbrev pub IsApart : {K : Type 0} → List (ℕ × K) → Type 0
IsApart [] = Unit {0}
IsApart (t ∷ f) = Each (λ u. t.1 ≢ u.1) f × IsApart f

-- a polynomial over the field with p elements in the variables of an order, sorted by it
pub record IsPolynomial (p : ℕ) (order : RowOrder) (f : Polynomial) : Type 0 where
  pub canonical : IsCanonical (order_cmp order.rows) p f
  pub vars : HasVars order.vars f

-- the total degree, 0 for the zero polynomial
abbrev pub poly_degree : Polynomial → ℕ
poly_degree [] = 0
poly_degree (t ∷ f) = max (degree t.1) (poly_degree f)

-- the number at a monomial: a polynomial as a finite map
abbrev pub coefficient_at : Monomial → Polynomial → ℕ
coefficient_at m [] = 0
coefficient_at m (t ∷ f) = elim (slice_cmp nat_cmp m t.1) [
  | Equal ↦ t.0 + coefficient_at m f
  | _ ↦ coefficient_at m f
]
