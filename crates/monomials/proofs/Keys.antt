-- What holds of the keys of polynomials holds of those of their sums and multiples.
use Rattle.std.proofs.Common.{◌≡◌, ℕ, zero, suc, ◌+◌, ◌*◌, ◌%◌, List, [], ◌∷◌, ◌++◌, length, slice_set}
use Rattle.std.proofs.Common.{Ordering}
use Rattle.monomials.specs.Monomials.{Monomial}
use Rattle.monomials.specs.Polynomials.{Polynomial, HasVars, cons_nonzero, insert_term, from_terms, poly_add, poly_scale, sum_over, Each}
use Rattle.monomials.proofs.Insertion.{cons_nonzero_cases, insert_term_cases}

-- P of each element of both lists
pub Each-append : {X : Type 0} (P : X → Type 0) (xs ys : List X) → Each P xs → Each P ys → Each P (xs ++ ys)
Each-append P [] ys h k = k
Each-append P (x ∷ xs) ys h k = (h.0, Each-append P xs ys h.1 k)

-- P of each element of the first list
pub Each-first : {X : Type 0} (P : X → Type 0) (xs ys : List X) → Each P (xs ++ ys) → Each P xs
Each-first P [] ys h = tt
Each-first P (x ∷ xs) ys h = (h.0, Each-first P xs ys h.1)

-- P of each element of the second list
pub Each-second : {X : Type 0} (P : X → Type 0) (xs ys : List X) → Each P (xs ++ ys) → Each P ys
Each-second P [] ys h = h
Each-second P (x ∷ xs) ys h = Each-second P xs ys h.1

-- what follows from P of each element
pub Each-weaker : {X : Type 0} (P Q : X → Type 0) → ((x : X) → P x → Q x) → (xs : List X) → Each P xs → Each Q xs
Each-weaker P Q f [] h = tt
Each-weaker P Q f (x ∷ xs) h = (f x h.0, Each-weaker P Q f xs h.1)

-- of a list with another element at a place
pub Each-set : {X : Type 0} (P : X → Type 0) (xs : List X) (k : ℕ) (x : X) → Each P xs → P x → Each P (slice_set xs k x)
Each-set P [] k x h p = tt
Each-set P (y ∷ xs) zero x h p = (p, h.1)
Each-set P (y ∷ xs) (suc k) x h p = (h.0, Each-set P xs k x h.1 p)

-- Q holds of each key
abbrev pub EachKey : {K : Type 0} → (K → Type 0) → List (ℕ × K) → Type 0
EachKey Q f = Each (λ t. Q t.1) f

-- the keys of a list with a term in front
pub EachKey-cons_nonzero : {K : Type 0} (Q : K → Type 0) (c : ℕ) (k : K) (f : List (ℕ × K)) → Q k → EachKey Q f
    → EachKey Q (cons_nonzero c k f)
EachKey-cons_nonzero Q c k f q h = cons_nonzero_cases (EachKey Q) c k f h (λ more. (q, h))

-- the keys of a multiple
pub EachKey-poly_scale : {K : Type 0} (p : ℕ) (Q : K → Type 0) (c : ℕ) (f : List (ℕ × K)) → EachKey Q f → EachKey Q (poly_scale p c f)
EachKey-poly_scale p Q c [] h = tt
EachKey-poly_scale p Q c (t ∷ f) h =
    EachKey-cons_nonzero Q ((c * t.0) % p) t.1 (poly_scale p c f) h.0 (EachKey-poly_scale p Q c f h.1)

module _ {K : Type 0} (cmp : K → K → Ordering) (p : ℕ) (Q : K → Type 0) where
  -- the keys of t + f
  pub EachKey-insert_term : (c : ℕ) (k : K) (f : List (ℕ × K)) → Q k → EachKey Q f → EachKey Q (insert_term cmp p c k f)
  EachKey-insert_term c k [] q h = EachKey-cons_nonzero Q (c % p) k [] q tt
  EachKey-insert_term c k (t ∷ f) q h =
      insert_term_cases cmp p (EachKey Q) c k t f
      (λ is. EachKey-cons_nonzero Q (c % p) k (t ∷ f) q h)
      (λ is. EachKey-cons_nonzero Q ((c + t.0) % p) k f q h.1)
      (λ is. (h.0, EachKey-insert_term c k f q h.1))

  -- the keys of a sum of terms
  pub EachKey-from_terms : (f : List (ℕ × K)) → EachKey Q f → EachKey Q (from_terms cmp p f)
  EachKey-from_terms [] h = tt
  EachKey-from_terms (t ∷ f) h = EachKey-insert_term t.0 t.1 (from_terms cmp p f) h.0 (EachKey-from_terms f h.1)

  -- the keys of a sum
  pub EachKey-poly_add : (f g : List (ℕ × K)) → EachKey Q f → EachKey Q g → EachKey Q (poly_add cmp p f g)
  EachKey-poly_add [] g hf hg = hg
  EachKey-poly_add (t ∷ f) g hf hg = EachKey-insert_term t.0 t.1 (poly_add cmp p f g) hf.0 (EachKey-poly_add f g hf.1 hg)

  -- where it holds of the keys of each value
  pub EachKey-sum_over : {J : Type 0} (value : J → List (ℕ × K)) (f : List (ℕ × J)) → EachKey (λ j. EachKey Q (value j)) f
      → EachKey Q (sum_over cmp p value f)
  EachKey-sum_over value [] h = tt
  EachKey-sum_over value (t ∷ f) h =
      EachKey-poly_add (poly_scale p t.0 (value t.1)) (sum_over cmp p value f) (EachKey-poly_scale p Q t.0 (value t.1) h.0) (EachKey-sum_over value f h.1)

-- the number of variables
module _ (p n : ℕ) where
  -- a multiple has the same variables
  pub HasVars-poly_scale : (c : ℕ) (f : Polynomial) → HasVars n f → HasVars n (poly_scale p c f)
  HasVars-poly_scale c f h = EachKey-poly_scale p (λ m. length m ≡ n) c f h

module _ (cmp : Monomial → Monomial → Ordering) (p n : ℕ) where
  -- a sum of terms has the same variables
  pub HasVars-from_terms : (f : Polynomial) → HasVars n f → HasVars n (from_terms cmp p f)
  HasVars-from_terms = EachKey-from_terms cmp p (λ m. length m ≡ n)

  -- a sum has the same variables
  pub HasVars-poly_add : (f g : Polynomial) → HasVars n f → HasVars n g → HasVars n (poly_add cmp p f g)
  HasVars-poly_add = EachKey-poly_add cmp p (λ m. length m ≡ n)

  -- a linear extension has the variables of the values
  pub HasVars-sum_over : {J : Type 0} (value : J → Polynomial) (f : List (ℕ × J)) → EachKey (λ j. HasVars n (value j)) f
      → HasVars n (sum_over cmp p value f)
  HasVars-sum_over value f h = EachKey-sum_over cmp p (λ m. length m ≡ n) value f h
