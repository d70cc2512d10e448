-- The numbers of pairs count them in lexicographic order.
use Rattle.std.proofs.Common.{◌≡◌, ℕ, zero, suc, ◌+◌, ◌-◌, ◌*◌, ◌/◌, ◌<◌, ◌≤◌, ap, arith}
use Rattle.word_model.specs.Words.{pair_index}

-- the first pair has the number 0
pub pair_index-first : (n : ℕ) → pair_index n 1 2 ≡ 0
pair_index-first n = omega arith

-- within a row the next pair has the next number
pub pair_index-next : (n i j : ℕ) → 1 ≤ i → i < j → j < n → pair_index n i (suc j) ≡ suc (pair_index n i j)
pair_index-next n i j low falls high = omega arith

-- a variables before the row, and r behind the first pair of the next
row_ends : (a r : ℕ) → (suc a) * (a + 4 + 2 * r) / 2 ≡ suc (a * (a + 5 + 2 * r) / 2 + (r + 1))
row_ends a r = let e : (suc a) * (a + 4 + 2 * r) ≡ a * (a + 5 + 2 * r) + 2 * (r + 2) = omega arith in omega (arith, e)

-- behind the last pair of a row comes the first of the next
pub pair_index-next_row : (n i : ℕ) → 1 ≤ i → i + 2 ≤ n → pair_index n (i + 1) (i + 2) ≡ suc (pair_index n i n)
pair_index-next_row n i low high =
    let a : ℕ = i - 1 in
    let r : ℕ = n - (i + 2) in
    let this : 2 * n - i ≡ a + 5 + 2 * r = omega arith in
    let next : 2 * n - (i + 1) ≡ a + 4 + 2 * r = omega arith in
    let i_is : (i + 1) - 1 ≡ suc a = omega arith in
    let rest : n - i - 1 ≡ r + 1 = omega arith in
    omega (
      arith,
      ap (λ x. ((i + 1) - 1) * x / 2) next,
      ap (λ x. x * (a + 4 + 2 * r) / 2) i_is,
      ap (λ x. a * x / 2) this,
      row_ends a r,
      rest,
    )

last_row : (a : ℕ) → 2 * suc (a * (a + 3) / 2) ≡ (a + 2) * (a + 1)
last_row zero = omega arith
last_row (suc a) =
    let e : suc a * (suc a + 3) ≡ a * (a + 3) + 2 * (a + 2) = omega arith in
    let f : (suc a + 2) * (suc a + 1) ≡ (a + 2) * (a + 1) + 2 * (a + 2) = omega arith in
    omega (arith, ap (λ x. x / 2) e, f, last_row a)

-- there are as many pairs as the last number says
pub pair_index-last : (n : ℕ) → 2 ≤ n → 2 * suc (pair_index n (n - 1) n) ≡ n * (n - 1)
pair_index-last n some =
    let a : ℕ = n - 2 in
    let n_is : n ≡ a + 2 = omega arith in
    let others : n - 1 ≡ a + 1 = omega arith in
    let before : n - 1 - 1 ≡ a = omega arith in
    let behind : 2 * n - (n - 1) ≡ a + 3 = omega arith in
    let all : n * (n - 1) ≡ (a + 2) * (a + 1) = λ t. n_is t * others t in
    let row : (n - 1 - 1) * (2 * n - (n - 1)) / 2 ≡ a * (a + 3) / 2 = λ t. before t * behind t / 2 in
    omega (arith, all, row, last_row a)
