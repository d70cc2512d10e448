-- The monomial of a word, by counting its letters one after another.
use Rattle.std.proofs.Common.{◌≡◌, ◌≢◌, ℕ, zero, suc, ◌+◌, ◌-◌, ◌<◌, ◌≤◌, ◌⊎◌, inl, inr, List, [], ◌∷◌, length, take, set, get_or, refl, sym, ap, ◌∙◌, arith, get_or-set_same, get_or-set_other}
use Rattle.std.proofs.lemmas.Bool.{cases_eq}
use Rattle.std.proofs.lemmas.List.{take_more}
use Rattle.word_model.specs.Words.{Word, count_of, counts_from}
use Rattle.word_model.proofs.Letters.{count_of-append, count_of-same, count_of-other}

-- the counts of the letters of a word, each at the place before its number
abbrev pub IsCount : List ℕ → Word → Type 0
IsCount counts w = (v : ℕ) → v < length counts → get_or counts v 0 ≡ count_of (suc v) w

-- one letter more
pub count_more : (counts : List ℕ) (w : Word) (i x : ℕ) → i < length w → x ≡ get_or w i 0 → 1 ≤ x → x - 1 < length counts
    → ((v : ℕ) → v < length counts → get_or counts v 0 ≡ count_of (suc v) (take i w))
    → (v : ℕ) → v < length counts → get_or (set counts (x - 1) (get_or counts (x - 1) 0 + 1)) v 0 ≡ count_of (suc v) (take (i + 1) w)
count_more counts w i x inside is some few h v less =
    by (cases_eq v (x - 1)) ∙ sym (ap (count_of (suc v)) (take_more w i 0 inside) ∙ count_of-append (suc v) (take i w) (get_or w i 0 ∷ []) ∙ ap (λ y. count_of (suc v) (take i w) + count_of (suc v) (y ∷ [])) (sym is))
  where
    by : (v ≡ x - 1) ⊎ (v ≢ x - 1) → get_or (set counts (x - 1) (get_or counts (x - 1) 0 + 1)) v 0 ≡ count_of (suc v) (take i w) + count_of (suc v) (x ∷ [])
    by (inl same) =
        let number : suc v ≡ x = omega arith in
        let one : count_of (suc v) (x ∷ []) ≡ 1 = ap (λ y. count_of (suc v) (y ∷ [])) (sym number) ∙ count_of-same (suc v) [] in
        ap (λ y. get_or (set counts (x - 1) (get_or counts (x - 1) 0 + 1)) y 0) same
        ∙ get_or-set_same counts (x - 1) (get_or counts (x - 1) 0 + 1) 0 few
        ∙ omega (arith, ap (λ y. get_or counts y 0) same, h v less, one)
    by (inr other) =
        let number : suc v ≢ x = omega arith in
        get_or-set_other counts (x - 1) v (get_or counts (x - 1) 0 + 1) 0 other ∙ h v less ∙ omega (arith, count_of-other (suc v) x [] number)

-- no count is above the number of letters
pub small_more : (counts : List ℕ) (k n : ℕ) → k < length counts → ((v : ℕ) → get_or counts v 0 ≤ n)
    → (v : ℕ) → get_or (set counts k (get_or counts k 0 + 1)) v 0 ≤ n + 1
small_more counts k n few h v = by (cases_eq v k)
  where
    by : (v ≡ k) ⊎ (v ≢ k) → get_or (set counts k (get_or counts k 0 + 1)) v 0 ≤ n + 1
    by (inl same) =
        let is : get_or (set counts k (get_or counts k 0 + 1)) v 0 ≡ get_or counts k 0 + 1 =
        ap (λ y. get_or (set counts k (get_or counts k 0 + 1)) y 0) same ∙ get_or-set_same counts k (get_or counts k 0 + 1) 0 few in
        omega (arith, h k)
    by (inr other) = omega (arith, get_or-set_other counts k v (get_or counts k 0 + 1) 0 other, h v)

-- the first n counts are the exponents of the word's monomial
pub counts_all : (n i : ℕ) (counts : List ℕ) (w : Word) → n ≤ length counts
    → ((v : ℕ) → v < length counts → get_or counts v 0 ≡ count_of (i + v) w) → take n counts ≡ counts_from i n w
counts_all zero i counts w few h = refl
counts_all (suc n) i [] w few h = absurd (omega arith)
counts_all (suc n) i (x ∷ counts) w few h =
    let here : i + 0 ≡ i = omega arith in
    let first : x ≡ count_of i w = h 0 (omega arith) ∙ ap (λ k. count_of k w) here in
    let rest : take n counts ≡ counts_from (suc i) n w =
    counts_all n (suc i) counts w (omega arith)
    (λ v less. let there : i + suc v ≡ suc i + v = omega arith in h (suc v) (omega arith) ∙ ap (λ k. count_of k w) there) in
    λ k. first k ∷ rest k
