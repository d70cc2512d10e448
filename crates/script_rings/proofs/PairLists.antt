-- The pairs of variables, row by row.
use Rattle.std.proofs.Common.{◌≡◌, ◌∙◌, ℕ, zero, suc, ◌+◌, ◌-◌, ◌*◌, ◌<◌, ◌≤◌, ◌∷◌, ◌++◌, length, refl, sym, ap, arith, length-append}
use Rattle.monomials.specs.Polynomials.{Each}
use Rattle.monomials.proofs.Keys.{Each-append}
use Rattle.script_model.specs.Statements.{pairs_row, pairs_from, all_pairs}
use Rattle.script_rings.specs.Entries.{IsPair}

pub row-next : (n i j : ℕ) → j < n + 1 → pairs_row i j (n + 1 - j) ≡ (i, j) ∷ pairs_row i (j + 1) (n + 1 - (j + 1))
row-next n i j h =
    let more : n + 1 - j ≡ suc (n + 1 - (j + 1)) = omega arith in
    let next : suc j ≡ j + 1 = omega arith in
    ap (pairs_row i j) more ∙ ap (λ k. (i, j) ∷ pairs_row i k (n + 1 - (j + 1))) next

pub rows-next : (n i : ℕ) → i < n + 1 → pairs_from i (n + 1 - i) ≡ pairs_row i (suc i) (n - i) ++ pairs_from (i + 1) (n + 1 - (i + 1))
rows-next n i h =
    let more : n + 1 - i ≡ suc (n + 1 - (i + 1)) = omega arith in
    let next : suc i ≡ i + 1 = omega arith in
    let some : n + 1 - (i + 1) ≡ n - i = omega arith in
    ap (pairs_from i) more
    ∙ ap (λ k. pairs_row i (suc i) k ++ pairs_from (suc i) (n + 1 - (i + 1))) some
    ∙ ap (λ k. pairs_row i (suc i) (n - i) ++ pairs_from k (n + 1 - (i + 1))) next

-- ---- each is a pair

row-pairs : (i j k : ℕ) → 1 ≤ i → i < j → Each IsPair (pairs_row i j k)
row-pairs i j zero low less = tt
row-pairs i j (suc k) low less = ((low, less), row-pairs i (suc j) k low (omega arith))

from-pairs : (i k : ℕ) → 1 ≤ i → Each IsPair (pairs_from i k)
from-pairs i zero low = tt
from-pairs i (suc k) low =
    Each-append IsPair (pairs_row i (suc i) k) (pairs_from (suc i) k) (row-pairs i (suc i) k low (omega arith)) (from-pairs (suc i) k (omega arith))

pub are_pairs : (n : ℕ) → Each IsPair (all_pairs n)
are_pairs n = from-pairs 1 n (omega arith)

-- ---- how many there are

row-count : (i j k : ℕ) → length (pairs_row i j k) ≡ k
row-count i j zero = refl
row-count i j (suc k) = ap suc (row-count i (suc j) k)

from-count : (i k : ℕ) → 2 * length (pairs_from i k) ≡ k * (k - 1)
from-count i zero = refl
from-count i (suc zero) = refl
from-count i (suc (suc k)) =
    let row : length (pairs_row i (suc i) (suc k)) ≡ suc k = row-count i (suc i) (suc k) in
    let rest : 2 * length (pairs_from (suc i) (suc k)) ≡ suc k * (suc k - 1) = from-count (suc i) (suc k) in
    let both : length (pairs_from i (suc (suc k))) ≡ length (pairs_row i (suc i) (suc k)) + length (pairs_from (suc i) (suc k)) =
    length-append (pairs_row i (suc i) (suc k)) (pairs_from (suc i) (suc k)) in
    let one : suc k - 1 ≡ k = omega arith in
    let two : suc (suc k) - 1 ≡ suc k = omega arith in
    let square : suc k * (suc k - 1) ≡ suc k * k = ap (λ x. suc k * x) one in
    ap (λ x. 2 * x) both ∙ omega (arith, row, rest, square) ∙ ap (λ x. suc (suc k) * x) (sym two)

pub pairs-count : (n : ℕ) → 2 * length (all_pairs n) ≡ n * (n - 1)
pairs-count n = from-count 1 n
