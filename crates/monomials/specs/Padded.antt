-- How four words hold up to sixteen exponents.
use Rattle.std.specs.Prelude.{◌≡◌, ℕ, zero, suc, ◌+◌, ◌-◌, ◌≤◌, ◌<◌, ◌^◌, List, [], ◌∷◌, ◌++◌, length, replicate, take, sum, slice_index}
use Rattle.std.proofs.Common.{drop, get_or, refl, sym, ◌∙◌, ap, arith}
use Rattle.std.proofs.Math.Nat.{le-add_right}
use Rattle.std.proofs.lemmas.List.{take-append-drop, length-take-le, length-drop, get_or-drop}
use Rattle.monomials.specs.Words.{lanes, joined, spread, joined-lanes, length-spread}
use Rattle.monomials.specs.declared.expo.Expo.TheInside.{Inside}

-- the exponents in front, zeros behind them, and a degree of at most 32767
pub record IsPadded (e : Inside) : Type 0 where
  pub not_empty : 1 ≤ e.len
  pub fits : e.len ≤ 16
  pub four : length e.words ≡ 4
  pub whole : (k : ℕ) → slice_index e.words k < 2 ^ 64
  pub padding : (k : ℕ) → e.len ≤ k → slice_index (spread e.words) k ≡ 0
  pub total : sum (take e.len (spread e.words)) ≡ e.degree
  pub small : e.degree ≤ 32767

-- the exponents that words hold
abbrev pub exponents : Inside → List ℕ
exponents e = take e.len (spread e.words)

-- lanes in words, four each
abbrev pub gathered : ℕ → List ℕ → List ℕ
gathered zero xs = []
gathered (suc n) xs = joined (take 4 xs) ∷ gathered n (drop 4 xs)

-- the words that hold these exponents
abbrev pub padded : List ℕ → Inside
padded m = record { words = gathered 4 (m ++ replicate (16 - length m) 0); degree = sum m; len = length m }

-- a list whose places are all zero
pub zeros : (xs : List ℕ) → ((k : ℕ) → get_or xs k 0 ≡ 0) → xs ≡ replicate (length xs) 0
zeros [] h = refl
zeros (x ∷ xs) h = λ i. h 0 i ∷ zeros xs (λ k. h (suc k)) i

pub gathered-spread : (n : ℕ) (ws : List ℕ) → length ws ≡ n → ((k : ℕ) → get_or ws k 0 < 2 ^ 64) → gathered n (spread ws) ≡ ws
gathered-spread zero [] e h = refl
gathered-spread zero (w ∷ ws) e h = absurd (omega arith)
gathered-spread (suc n) [] e h = absurd (omega arith)
gathered-spread (suc n) (w ∷ ws) e h =
    let first : joined (lanes 4 w) ≡ w = joined-lanes 4 w (h 0) in
    let rest : gathered n (spread ws) ≡ ws = gathered-spread n ws (omega arith) (λ k. h (suc k)) in
    λ i. first i ∷ rest i

pub sixteen : (e : Inside) → IsPadded e → length (spread e.words) ≡ 16
sixteen e h = omega (arith, length-spread e.words, h.four)

-- how many of the places exponents take
pub length-exponents : (e : Inside) → IsPadded e → length (exponents e) ≡ e.len
length-exponents e h = length-take-le e.len (spread e.words) (omega (arith, sixteen e h, h.fits))

-- the places past the exponents
pub drop-places : (e : Inside) → IsPadded e → drop e.len (spread e.words) ≡ replicate (16 - e.len) 0
drop-places e h =
    zeros (drop e.len (spread e.words)) (λ k. get_or-drop e.len (spread e.words) k 0 ∙ h.padding (e.len + k) (le-add_right e.len k))
    ∙ ap (λ n. replicate n 0) (length-drop e.len (spread e.words) ∙ ap (λ n. n - e.len) (sixteen e h))

-- the exponents give the words back
pub padded-exponents : (e : Inside) → IsPadded e → padded (exponents e) ≡ e
padded-exponents e h =
    let n : length (exponents e) ≡ e.len = length-exponents e h in
    let places : exponents e ++ replicate (16 - length (exponents e)) 0 ≡ spread e.words =
    ap (λ k. exponents e ++ replicate (16 - k) 0) n
    ∙ (ap (λ x. exponents e ++ x) (sym (drop-places e h)) ∙ take-append-drop e.len (spread e.words)) in
    let ws : gathered 4 (exponents e ++ replicate (16 - length (exponents e)) 0) ≡ e.words =
    ap (λ xs. gathered 4 xs) places ∙ gathered-spread 4 e.words h.four h.whole in
    λ i. record { words = ws i; degree = h.total i; len = n i }
