-- Words of monomials: products, and powers of the last and the first variable.
use Rattle.std.proofs.Common.{◌≡◌, ℕ, zero, suc, ◌+◌, ◌-◌, ◌<◌, ◌≤◌, ◌⊎◌, inl, inr, true, [], ◌∷◌, ◌++◌, length, get_or, take, set, replicate, refl, sym, ap, ◌∙◌, arith, append_assoc, append-nil, length-append}
use Rattle.std.proofs.lemmas.List.{replicate-append-replicate, length-replicate, take-replicate}
use Rattle.monomials.specs.Monomials.{Monomial, plus, minus, divides, power}
use Rattle.monomials.proofs.Exponents.{divides_decides, get_or-zeros}
use Rattle.word_model.specs.Words.{word_from, sorted_word}

-- a monomial without exponents has no letter
pub word_from-nothing : (i : ℕ) (m : Monomial) → ((k : ℕ) → get_or m k 0 ≡ 0) → word_from i m ≡ []
word_from-nothing i [] h = refl
word_from-nothing i (x ∷ m) h = let none : x ≡ 0 = h 0 in ap (λ e. replicate e i ++ word_from (suc i) m) none ∙ word_from-nothing (suc i) m (λ k. h (suc k))

-- as many of a letter as two numbers together
apart : (x y i : ℕ) → replicate (x + y) i ≡ replicate x i ++ replicate y i
apart x y i = sym (replicate-append-replicate x y i)

zero_or : (y : ℕ) → (y ≡ 0) ⊎ (0 < y)
zero_or y = grind arith

-- one variable at the latest ends the left monomial and begins the right one
abbrev pub InOrder : Monomial → Monomial → Type 0
InOrder l r = (k q : ℕ) → q < k → (get_or l k 0 ≡ 0) ⊎ (get_or r q 0 ≡ 0)

-- the word of a product of monomials that stand in order
word_from-plus : (i : ℕ) (l r : Monomial) → length l ≡ length r → InOrder l r → word_from i (plus l r) ≡ word_from i l ++ word_from i r
word_from-plus i [] [] e h = refl
word_from-plus i [] (y ∷ r) e h = absurd (omega arith)
word_from-plus i (x ∷ l) [] e h = absurd (omega arith)
word_from-plus i (x ∷ l) (y ∷ r) e h = by (zero_or y) (word_from-plus (suc i) l r (omega arith) (λ k q lt. h (suc k) (suc q) (omega arith)))
  where
    by : (y ≡ 0) ⊎ (0 < y) → word_from (suc i) (plus l r) ≡ word_from (suc i) l ++ word_from (suc i) r
        → replicate (x + y) i ++ word_from (suc i) (plus l r) ≡ (replicate x i ++ word_from (suc i) l) ++ (replicate y i ++ word_from (suc i) r)
    by (inl none) ih =
        let same : x + y ≡ x = omega arith in
        (λ t. replicate (same t) i ++ ih t)
        ∙ sym (append_assoc (replicate x i) (word_from (suc i) l) (word_from (suc i) r))
        ∙ ap (λ e. (replicate x i ++ word_from (suc i) l) ++ (replicate e i ++ word_from (suc i) r)) (sym none)
    by (inr some) ih =
        let ended : (k : ℕ) → get_or l k 0 ≡ 0 = λ k. behind k (h (suc k) 0 (omega arith)) in
        let nothing : word_from (suc i) l ≡ [] = word_from-nothing (suc i) l ended in
        (λ t. apart x y i t ++ (ih ∙ ap (λ w. w ++ word_from (suc i) r) nothing) t)
        ∙ append_assoc (replicate x i) (replicate y i) (word_from (suc i) r)
        ∙ ap (λ w. w ++ (replicate y i ++ word_from (suc i) r)) (sym (append-nil (replicate x i)) ∙ ap (λ w. replicate x i ++ w) (sym nothing))
      where
        behind : (k : ℕ) → (get_or l k 0 ≡ 0) ⊎ (y ≡ 0) → get_or l k 0 ≡ 0
        behind k (inl z) = z
        behind k (inr z) = absurd (omega arith)

pub sorted_word-plus : (l r : Monomial) → length l ≡ length r → InOrder l r → sorted_word (plus l r) ≡ sorted_word l ++ sorted_word r
sorted_word-plus l r e h = word_from-plus 1 l r e h

-- ---- powers

-- k at place u, before z more places
abbrev at : ℕ → ℕ → ℕ → Monomial
at u k z = replicate u 0 ++ (k ∷ replicate z 0)

minus-nothing : (m : Monomial) (z : ℕ) → length m ≡ z → minus m (replicate z 0) ≡ m
minus-nothing [] z e = refl
minus-nothing (x ∷ m) zero e = absurd (omega arith)
minus-nothing (x ∷ m) (suc z) e = let same : x - 0 ≡ x = omega arith in λ t. same t ∷ minus-nothing m z (omega arith) t

parts : (k x i : ℕ) → k ≤ x → replicate x i ≡ replicate (x - k) i ++ replicate k i
parts k x i h = let whole : x ≡ (x - k) + k = omega arith in ap (λ e. replicate e i) whole ∙ apart (x - k) k i

parts_turned : (k x i : ℕ) → k ≤ x → replicate x i ≡ replicate k i ++ replicate (x - k) i
parts_turned k x i h = let whole : x ≡ k + (x - k) = omega arith in ap (λ e. replicate e i) whole ∙ apart k (x - k) i

-- a power of the last variable v is the word's end
word_from-last : (i u z k v : ℕ) (m : Monomial) → v ≡ u + i → length m ≡ u + suc z → k ≤ get_or m u 0 → ((q : ℕ) → suc u ≤ q → get_or m q 0 ≡ 0)
    → word_from i m ≡ word_from i (minus m (at u k z)) ++ replicate k v
word_from-last i u z k v [] is e h last = absurd (omega arith)
word_from-last i zero z k v (x ∷ m) is e h last =
    let this : i ≡ v = omega arith in
    let nothing : word_from (suc i) m ≡ [] = word_from-nothing (suc i) m (λ q. last (suc q) (omega arith)) in
    let rest : word_from (suc i) (minus m (replicate z 0)) ≡ [] = ap (word_from (suc i)) (minus-nothing m z (omega arith)) ∙ nothing in
    (λ t. parts k x i h t ++ nothing t)
    ∙ append-nil (replicate (x - k) i ++ replicate k i)
    ∙ (λ t. (sym (append-nil (replicate (x - k) i)) ∙ ap (λ w. replicate (x - k) i ++ w) (sym rest)) t ++ replicate k (this t))
word_from-last i (suc u) z k v (x ∷ m) is e h last =
    let same : x ≡ x - 0 = omega arith in
    (λ t. replicate (same t) i ++ word_from-last (suc i) u z k v m (omega arith) (omega arith) h (λ q l. last (suc q) (omega arith)) t)
    ∙ sym (append_assoc (replicate (x - 0) i) (word_from (suc i) (minus m (at u k z))) (replicate k v))

-- a power of the first variable v is the word's beginning
word_from-first : (i u z k v : ℕ) (m : Monomial) → v ≡ u + i → length m ≡ u + suc z → k ≤ get_or m u 0 → ((q : ℕ) → q < u → get_or m q 0 ≡ 0)
    → word_from i m ≡ replicate k v ++ word_from i (minus m (at u k z))
word_from-first i u z k v [] is e h first = absurd (omega arith)
word_from-first i zero z k v (x ∷ m) is e h first =
    let this : i ≡ v = omega arith in
    (λ t. parts_turned k x i h t ++ word_from (suc i) (sym (minus-nothing m z (omega arith)) t))
    ∙ append_assoc (replicate k i) (replicate (x - k) i) (word_from (suc i) (minus m (replicate z 0)))
    ∙ ap (λ v. replicate k v ++ (replicate (x - k) i ++ word_from (suc i) (minus m (replicate z 0)))) this
word_from-first i (suc u) z k v (x ∷ m) is e h first =
    let none : x ≡ 0 = first 0 (omega arith) in
    let none' : 0 ≡ x - 0 = omega arith in
    ap (λ e. replicate e i ++ word_from (suc i) m) none
    ∙ word_from-first (suc i) u z k v m (omega arith) (omega arith) h (λ q l. first (suc q) (omega arith))
    ∙ (λ t. replicate k v ++ (replicate (none' t) i ++ word_from (suc i) (minus m (at u k z))))

module _ (n v k : ℕ) (m : Monomial) (low : 1 ≤ v) (high : v ≤ n) (vars : length m ≡ n) (within : k ≤ get_or m (v - 1) 0) where
  pub sorted_word-last : ((q : ℕ) → v ≤ q → get_or m q 0 ≡ 0) → sorted_word m ≡ sorted_word (minus m (power n v k)) ++ replicate k v
  sorted_word-last last = word_from-last 1 (v - 1) (n - v) k v m (omega arith) (omega arith) within (λ q l. last q (omega arith))

  pub sorted_word-first : ((q : ℕ) → q + 1 < v → get_or m q 0 ≡ 0) → sorted_word m ≡ replicate k v ++ sorted_word (minus m (power n v k))
  sorted_word-first first = word_from-first 1 (v - 1) (n - v) k v m (omega arith) (omega arith) within (λ q l. first q (omega arith))

-- the word of a power
word_from-power : (i u z k v : ℕ) → v ≡ u + i → word_from i (at u k z) ≡ replicate k v
word_from-power i zero z k v is =
    let this : i ≡ v = omega arith in
    ap (λ w. replicate k i ++ w) (word_from-nothing (suc i) (replicate z 0) (get_or-zeros z)) ∙ append-nil (replicate k i) ∙ ap (replicate k) this
word_from-power i (suc u) z k v is = word_from-power (suc i) u z k v (omega arith)

pub sorted_word-power : (n v k : ℕ) → 1 ≤ v → sorted_word (power n v k) ≡ replicate k v
sorted_word-power n v k low = word_from-power 1 (v - 1) (n - v) k v (omega arith)

pub length-power : (n v k : ℕ) → 1 ≤ v → v ≤ n → length (power n v k) ≡ n
length-power n v k low high =
    length-append (replicate (v - 1) 0) (k ∷ replicate (n - v) 0) ∙ omega (arith, length-replicate {A = ℕ} (v - 1) 0, length-replicate {A = ℕ} (n - v) 0)

at-le : (u z k : ℕ) (m : Monomial) → k ≤ get_or m u 0 → (q : ℕ) → get_or (at u k z) q 0 ≤ get_or m q 0
at-le zero z k m h zero = h
at-le zero z k m h (suc q) = omega (arith, get_or-zeros z q)
at-le (suc u) z k m h zero = omega arith
at-le (suc u) z k [] h (suc q) = at-le u z k [] h q
at-le (suc u) z k (x ∷ m) h (suc q) = at-le u z k m h q

-- a power of a variable divides a monomial that has it
pub divides-power : (n v k : ℕ) (m : Monomial) → 1 ≤ v → v ≤ n → length m ≡ n → k ≤ get_or m (v - 1) 0 → divides (power n v k) m ≡ true
divides-power n v k m low high vars within =
    (divides_decides (power n v k) m (omega (arith, length-power n v k low high))).1 (at-le (v - 1) (n - v) k m within)

-- the places of a power
pub take-set_at : (n u k w : ℕ) → u < n → n ≤ w → take {A = ℕ} n (set (replicate w 0) u k) ≡ replicate u 0 ++ (k ∷ replicate (n - suc u) 0)
take-set_at zero u k w lt le = absurd (omega arith)
take-set_at (suc n) u k zero lt le = absurd (omega arith)
take-set_at (suc n) zero k (suc w) lt le = let e : suc n - 1 ≡ n = omega arith in rw e (ap (λ z. k ∷ z) (take-replicate n w 0 (omega arith)))
take-set_at (suc n) (suc u) k (suc w) lt le =
    let e : suc n - suc (suc u) ≡ n - suc u = omega arith in rw e (ap (λ z. 0 ∷ z) (take-set_at n u k w (omega arith) (omega arith)))
