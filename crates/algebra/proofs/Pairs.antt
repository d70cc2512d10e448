-- The places of pairs in lists with an item for each pair.
use Rattle.std.proofs.Common.{◌≡◌, ℕ, ◌+◌, ◌-◌, ◌*◌, ◌/◌, ◌<◌, ◌≤◌, ap, arith}
use Rattle.word_model.specs.Words.{pair_index}

-- with a variables before the first of the pair, b between the two, and e behind the second
apart : (a b e : ℕ) → 2 * (a * (a + 2 * b + 2 * e + 3) / 2 + b) < (a + b + e + 2) * (a + b + e + 1)
apart a b e =
    let half : 2 * (a * (a + 2 * b + 2 * e + 3) / 2) ≤ a * (a + 2 * b + 2 * e + 3) = omega arith in
    omega arith

-- the number of a pair is below the number of pairs
pub pair_index-within : (n i j : ℕ) → 1 ≤ i → i < j → j ≤ n → 2 * pair_index n i j < n * (n - 1)
pair_index-within n i j first pair last =
    let a : ℕ = i - 1 in
    let b : ℕ = j - i - 1 in
    let e : ℕ = n - j in
    let all : n ≡ a + b + e + 2 = omega arith in
    let others : n - 1 ≡ a + b + e + 1 = omega arith in
    let later : 2 * n - i ≡ a + 2 * b + 2 * e + 3 = omega arith in
    let whole : n * (n - 1) ≡ (a + b + e + 2) * (a + b + e + 1) = λ k. all k * others k in
    let row : a * (2 * n - i) / 2 ≡ a * (a + 2 * b + 2 * e + 3) / 2 = ap (λ k. a * k / 2) later in
    omega (arith, apart a b e, whole, row)

-- so its place is within the list
pub pair_index-below : (n i j l : ℕ) → 1 ≤ i → i < j → j ≤ n → 2 * l ≡ n * (n - 1) → pair_index n i j < l
pair_index-below n i j l first pair last h = omega (arith, pair_index-within n i j first pair last, h)
