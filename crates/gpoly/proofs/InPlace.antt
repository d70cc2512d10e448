-- Terms that are multiplied in place.
use Rattle.std.proofs.Common.{◌≡◌, ℕ, zero, suc, ◌+◌, ◌*◌, ◌%◌, ◌<◌, List, [], ◌∷◌, length, get_or, refl, sym, ap, ◌∙◌, arith}
use Rattle.std.specs.Prelude.{slice_set}
use Rattle.std.proofs.lemmas.List.{get_or_default}
use Rattle.prime_field.specs.Modular.{IsPrime}
use Rattle.prime_field.proofs.Inverses.{no_zero_divisors}
use Rattle.monomials.specs.Polynomials.{Each, HasNumbers, poly_scale}
use Rattle.monomials.proofs.Insertion.{cons_nonzero-positive}
use Rattle.gpoly.specs.declared.Term.{Term}
use Rattle.gpoly.specs.Terms.{pair_of, pairs_of}

-- the multiple of a term
abbrev pub scaled : ℕ → ℕ → Term → Term
scaled p k t = record { coef = (k * t.coef) % p; mono = t.mono }

-- the first i terms multiplied
abbrev pub scaled_to : ℕ → ℕ → ℕ → List Term → List Term
scaled_to p k zero ts = ts
scaled_to p k (suc i) [] = []
scaled_to p k (suc i) (t ∷ ts) = scaled p k t ∷ scaled_to p k i ts

-- the next term is as it was
pub scaled_to-next : (p k i : ℕ) (ts us : List Term) (t d : Term) → us ≡ scaled_to p k i ts → t ≡ get_or us i t → i < length ts
    → t ≡ get_or ts i d
scaled_to-next p k i ts us t d so_far is l =
    is ∙ ap (λ (us : List Term). get_or us i t) so_far ∙ next i ts ∙ get_or_default ts i t d l
  where
    next : (i : ℕ) (ts : List Term) → get_or (scaled_to p k i ts) i t ≡ get_or ts i t
    next zero ts = refl
    next (suc i) [] = refl
    next (suc i) (t ∷ ts) = next i ts

-- one more term is multiplied
pub scaled_to-more : (p k i : ℕ) (ts us : List Term) (d u : Term) → us ≡ scaled_to p k i ts → i < length ts → u ≡ scaled p k (get_or ts i d)
    → slice_set us i u ≡ scaled_to p k (i + 1) ts
scaled_to-more p k i ts us d u so_far l is = (λ x. slice_set (so_far x) i (is x)) ∙ more i ts l ∙ ap (λ n. scaled_to p k n ts) one
  where
    one : suc i ≡ i + 1
    one = omega arith

    more : (i : ℕ) (ts : List Term) → i < length ts → slice_set (scaled_to p k i ts) i (scaled p k (get_or ts i d)) ≡ scaled_to p k (suc i) ts
    more zero [] l = absurd (omega arith)
    more (suc i) [] l = absurd (omega arith)
    more zero (t ∷ ts) l = refl
    more (suc i) (t ∷ ts) l = ap (λ us. scaled p k t ∷ us) (more i ts (omega arith))

-- where all terms are multiplied, and none is zero, they are the multiple
pub scaled_to-all : (p k : ℕ) (ts : List Term) → IsPrime p → 0 < k → k < p → Each (λ t. 0 < t.0) (pairs_of ts) → HasNumbers p (pairs_of ts)
    → pairs_of (scaled_to p k (length ts) ts) ≡ poly_scale p k (pairs_of ts)
scaled_to-all p k [] prime some small nonzero numbers = refl
scaled_to-all p k (t ∷ ts) prime some small nonzero numbers =
    ap (λ f. pair_of (scaled p k t) ∷ f) (scaled_to-all p k ts prime some small nonzero.1 numbers.1)
    ∙ sym (cons_nonzero-positive ((k * t.coef) % p) t.mono (poly_scale p k (pairs_of ts)) (no_zero_divisors p k t.coef prime some small nonzero.0 numbers.0))
