-- Pairs stand at the places of their numbers.
use Rattle.std.proofs.Common.{◌≡◌, ◌∙◌, ℕ, zero, suc, ◌+◌, ◌-◌, ◌*◌, ◌/◌, ◌<◌, ◌≤◌, List, ◌++◌, Some, ap, arith}
use Rattle.std.specs.Prelude.{slice_get}
use Rattle.word_model.specs.Words.{pair_index}
use Rattle.script_model.specs.Statements.{pairs_row, pairs_from, all_pairs}

-- ---- places in rows

row-at : (i j k q : ℕ) (rest : List (ℕ × ℕ)) → q < k → slice_get (pairs_row i j k ++ rest) q ≡ Some (i, j + q)
row-at i j zero q rest h = absurd (omega arith)
row-at i j (suc k) zero rest h = let e : j ≡ j + 0 = omega arith in ap (λ x. Some (i, x)) e
row-at i j (suc k) (suc q) rest h = let e : suc j + q ≡ j + suc q = omega arith in row-at i (suc j) k q rest (omega arith) ∙ ap (λ x. Some (i, x)) e

row-behind : (i j k q : ℕ) (rest : List (ℕ × ℕ)) → slice_get (pairs_row i j k ++ rest) (k + q) ≡ slice_get rest q
row-behind i j zero q rest = let e : 0 + q ≡ q = omega arith in ap (slice_get rest) e
row-behind i j (suc k) q rest = let e : suc k + q ≡ suc (k + q) = omega arith in ap (slice_get (pairs_row i j (suc k) ++ rest)) e ∙ row-behind i (suc j) k q rest

-- the place of the pair of a + d with the number that e others separate from it, among the pairs of the k numbers from a on
place : ℕ → ℕ → ℕ → ℕ
place zero k e = e
place (suc d) k e = (k - 1) + place d (k - 1) e

place-at : (a d k e : ℕ) → d + e + 2 ≤ k → slice_get (pairs_from a k) (place d k e) ≡ Some (a + d, a + d + e + 1)
unfolding place
place-at a d zero e h = absurd (omega arith)
place-at a zero (suc k) e h =
    let one : a ≡ a + 0 = omega arith in
    let two : suc a + e ≡ a + 0 + e + 1 = omega arith in
    row-at a (suc a) k e (pairs_from (suc a) k) (omega arith) ∙ λ t. Some (one t, two t)
place-at a (suc d) (suc k) e h =
    let less : suc k - 1 ≡ k = omega arith in
    let one : suc a + d ≡ a + suc d = omega arith in
    let two : suc a + d + e + 1 ≡ a + suc d + e + 1 = omega arith in
    ap (λ x. slice_get (pairs_from a (suc k)) (x + place d x e)) less
    ∙ row-behind a (suc a) k (place d k e) (pairs_from (suc a) k) ∙ place-at (suc a) d k e (omega arith) ∙ λ t. Some (one t, two t)

-- ---- numbers

-- the pairs before those of the next number, with a numbers before this one and r behind it
before-next : (a r : ℕ) → suc a * (a + 2 * r) / 2 ≡ a * (a + 1 + 2 * r) / 2 + r
before-next a r = let e : suc a * (a + 2 * r) ≡ a * (a + 1 + 2 * r) + 2 * r = omega arith in omega (arith, ap (λ x. x / 2) e)

-- the number of a pair, with a numbers before those that are counted
number : (a d e r : ℕ) → (a + d) * (a + d + 3 + 2 * (e + r)) / 2 + e ≡ a * (a + 3 + 2 * (d + e + r)) / 2 + place d (d + e + r + 2) e
unfolding place
number a zero e r =
    let first : a + 0 ≡ a = omega arith in
    let rest : a + 0 + 3 + 2 * (e + r) ≡ a + 3 + 2 * (0 + e + r) = omega arith in
    λ t. first t * rest t / 2 + e
number a (suc d) e r =
    let behind : ℕ = d + e + r + 2 in
    let less : suc d + e + r + 2 - 1 ≡ behind = omega arith in
    let first : a + suc d ≡ suc a + d = omega arith in
    let rest : a + suc d + 3 + 2 * (e + r) ≡ suc a + d + 3 + 2 * (e + r) = omega arith in
    let here : suc a + 3 + 2 * (d + e + r) ≡ a + 2 * behind = omega arith in
    let there : a + 1 + 2 * behind ≡ a + 3 + 2 * (suc d + e + r) = omega arith in
    let next : suc a * (suc a + 3 + 2 * (d + e + r)) / 2 ≡ a * (a + 3 + 2 * (suc d + e + r)) / 2 + behind =
    ap (λ x. suc a * x / 2) here ∙ before-next a behind ∙ ap (λ x. a * x / 2 + behind) there in
    (λ t. first t * rest t / 2 + e) ∙ number (suc a) d e r
    ∙ omega (arith, next, ap (λ x. x + place d x e) less)

pub pair-at : (n i j : ℕ) → 1 ≤ i → i < j → j ≤ n → slice_get (all_pairs n) (pair_index n i j) ≡ Some (i, j)
pair-at n i j low pair high =
    let d : ℕ = i - 1 in
    let e : ℕ = j - i - 1 in
    let r : ℕ = n - j in
    let twice : 2 * n - i ≡ 0 + d + 3 + 2 * (e + r) = omega arith in
    let before : i - 1 ≡ 0 + d = omega arith in
    let all : d + e + r + 2 ≡ n = omega arith in
    let none : 0 * (0 + 3 + 2 * (d + e + r)) / 2 ≡ 0 = omega arith in
    let is : pair_index n i j ≡ place d n e =
    (λ t. before t * twice t / 2 + e) ∙ number 0 d e r ∙ omega (arith, none, ap (λ x. place d x e) all) in
    let one : 1 + d ≡ i = omega arith in
    let two : 1 + d + e + 1 ≡ j = omega arith in
    ap (slice_get (all_pairs n)) is ∙ place-at 1 d n e (omega arith) ∙ λ t. Some (one t, two t)
