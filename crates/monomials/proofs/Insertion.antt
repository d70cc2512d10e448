-- The cases of an insertion, by which the laws of sums go.
use Rattle.std.proofs.Common.{◌≡◌, ℕ, zero, suc, ◌+◌, ◌%◌, ◌<◌, List, ◌∷◌, refl, arith}
use Rattle.std.proofs.Common.{Ordering, Less, Equal, Greater}
use Rattle.monomials.specs.Polynomials.{cons_nonzero, insert_term}

-- a term whose number is not zero stays
pub cons_nonzero-positive : {K : Type 0} (c : ℕ) (k : K) (f : List (ℕ × K)) → 0 < c
    → cons_nonzero c k f ≡ (c, k) ∷ f
cons_nonzero-positive zero k f h = absurd (omega arith)
cons_nonzero-positive (suc c) k f h = refl

-- what holds of a list with a term in front, and of the list, holds where a zero term is left out
pub cons_nonzero_cases : {K : Type 0} (P : List (ℕ × K) → Type 0) (c : ℕ) (k : K) (f : List (ℕ × K))
    → P f → (0 < c → P ((c, k) ∷ f)) → P (cons_nonzero c k f)
cons_nonzero_cases P zero k f none some = none
cons_nonzero_cases P (suc c) k f none some = some (omega arith)

module _ {K : Type 0} (cmp : K → K → Ordering) (p : ℕ) where
  -- P holds of t + f where it holds of what each answer of the comparison gives
  pub insert_term_cases : (P : List (ℕ × K) → Type 0) (c : ℕ) (k : K) (t : ℕ × K) (f : List (ℕ × K))
      → (cmp k t.1 ≡ Greater → P (cons_nonzero (c % p) k (t ∷ f)))
      → (cmp k t.1 ≡ Equal → P (cons_nonzero ((c + t.0) % p) k f))
      → (cmp k t.1 ≡ Less → P (t ∷ insert_term cmp p c k f))
      → P (insert_term cmp p c k (t ∷ f))
  insert_term_cases P c k t f greater equal less =
      elim (cmp k t.1) as (λ r. cmp k t.1 ≡ r → P (elim r as (λ r. List (ℕ × K)) [ Greater ↦ cons_nonzero (c % p) k (t ∷ f) | Equal ↦ cons_nonzero ((c + t.0) % p) k f | Less ↦ t ∷ insert_term cmp p c k f ])) [
        | Greater ↦ greater
        | Equal ↦ equal
        | Less ↦ less
      ] refl
