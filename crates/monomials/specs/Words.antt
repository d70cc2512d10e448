-- Lanes: four numbers of sixteen bits in a word of 64.
use Rattle.std.specs.Prelude.{◌≡◌, ◌<◌, ◌^◌, length, ℕ, zero, suc, ◌+◌, ◌*◌, ◌/◌, ◌%◌, List, [], ◌∷◌, ◌++◌, ◌≤◌, slice_index}
use Rattle.std.proofs.Common.{refl, arith}
use Rattle.std.proofs.lemmas.Nat.{shr_split}

-- the `k` lowest lanes of a word, the lowest first
abbrev pub lanes : ℕ → ℕ → List ℕ
lanes zero w = []
lanes (suc k) w = w % 65536 ∷ lanes k (w / 65536)

-- the word with these lanes
abbrev pub joined : List ℕ → ℕ
joined [] = 0
joined (x ∷ xs) = joined xs * 65536 + x

-- the lanes of words, four each
abbrev pub spread : List ℕ → List ℕ
spread [] = []
spread (w ∷ ws) = lanes 4 w ++ spread ws

-- numbers below 2^15: the top bit of each lane is free
abbrev pub AreSmall : List ℕ → Type 0
AreSmall xs = (k : ℕ) → slice_index xs k ≤ 32767

-- the word back from its lanes
pub joined-lanes : (k w : ℕ) → w < 65536 ^ k → joined (lanes k w) ≡ w
joined-lanes zero w h = omega arith
joined-lanes (suc k) w h =
    let split : w / 65536 * 65536 + w % 65536 ≡ w = shr_split w 16 in
    let less : w / 65536 < 65536 ^ k = omega (arith, split) in
    rw (joined-lanes k (w / 65536) less) split

-- four lanes to each word
pub length-spread : (ws : List ℕ) → length (spread ws) ≡ 4 * length ws
length-spread [] = refl
length-spread (w ∷ ws) = omega (arith, length-spread ws)
