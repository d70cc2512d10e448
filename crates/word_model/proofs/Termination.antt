-- The recursion of normal forms ends, by the measure of a word: how many monomials are below its own, and then how many inversions it has.
use Rattle.std.proofs.Common.{◌≡◌, ℕ, zero, suc, ◌+◌, ◌*◌, ◌^◌, ◌<◌, ◌≤◌, ◌⊎◌, ⊎_elim, Bool, true, false, cond, List, [], ◌∷◌, ◌++◌, length, nat_lt, Option, Some, None, refl, sym, ap, ◌∙◌, subst, arith, length-append, le_refl, add_comm, mul-le-mul, mul-le-mul_left, mul-le-mul_right, le_of_lt}
use Rattle.std.proofs.Common.{Ordering, Less}
use Rattle.std.proofs.lemmas.Bool.Decides.{nat_tests}
use Rattle.std.proofs.Math.Nat.{pow-le-pow_left, mul-lt-mul_of_pos_left, mul-lt-mul_of_pos_right}
use Rattle.monomials.specs.Monomials.{Monomial, plus}
use Rattle.monomials.specs.Orders.{order_cmp}
use Rattle.monomials.specs.Polynomials.{Each, poly_add, poly_scale, sum_over}
use Rattle.monomials.proofs.Keys.{Each-append, Each-first, Each-second, Each-weaker}
use Rattle.monomials.proofs.OrderLaws.{order_cmp-plus}
use Rattle.word_model.specs.Words.{Algebra, Word, IsWord, monomial_of, sorted_word, Descent, leftmost_descent, d_of, rewritten, rewriting_step, normal_form_within, normal_form, enough, word_value, IsSmall, RewritesDown}
use Rattle.word_model.proofs.Letters.{Each-map, counts_from-append, counts_from-swap, length-counts_from, counts_at_most, monomial_of-sorted_word, length-word_from, IsWord-sorted_word}
use Rattle.word_model.proofs.Descents.{word_of, found_descent}
use Rattle.word_model.proofs.Ranks.{IsIn-monomials_up_to, rank, rank_falls, rank_at_most}

-- ---- inversions

-- how many letters of w are below x
abbrev pub lower_count : ℕ → Word → ℕ
lower_count x [] = 0
lower_count x (y ∷ w) = cond (nat_lt y x) 1 0 + lower_count x w

-- how many pairs of letters of a word stand in descending order
abbrev pub inversions : Word → ℕ
inversions [] = 0
inversions (x ∷ w) = lower_count x w + inversions w

lower_count-le : (x : ℕ) (w : Word) → lower_count x w ≤ length w
lower_count-le x [] = omega arith
lower_count-le x (y ∷ w) =
    elim (nat_lt y x) as (λ b. cond b 1 0 + lower_count x w ≤ suc (length w)) [ true ↦ omega (arith, lower_count-le x w) | false ↦ omega (arith, lower_count-le x w) ]

pub inversions-le : (w : Word) → inversions w ≤ length w * length w
inversions-le [] = omega arith
inversions-le (x ∷ w) = omega (arith, lower_count-le x w, inversions-le w)

lower_count-swap : (x : ℕ) (u : Word) (a b : ℕ) (w : Word) → lower_count x (u ++ a ∷ b ∷ w) ≡ lower_count x (u ++ b ∷ a ∷ w)
lower_count-swap x [] a b w = omega arith
lower_count-swap x (y ∷ u) a b w = ap (λ k. cond (nat_lt y x) 1 0 + k) (lower_count-swap x u a b w)

-- to swap the letters of a descent takes one inversion away
pub inversions-swap : (u : Word) (high low : ℕ) (w : Word) → low < high → inversions (u ++ high ∷ low ∷ w) ≡ suc (inversions (u ++ low ∷ high ∷ w))
inversions-swap [] high low w h =
    let t : nat_lt low high ≡ true = grind (arith, nat_tests) in
    let f : nat_lt high low ≡ false = grind (arith, nat_tests) in
    omega (arith, ap {B = ℕ} (λ (v : Bool). cond v 1 0) t, ap {B = ℕ} (λ (v : Bool). cond v 1 0) f)
inversions-swap (x ∷ u) high low w h = omega (arith, lower_count-swap x u high low w, inversions-swap u high low w h)

-- ---- the measure

-- the measure of a word among the words of length up to l
unfoldable pub measure : Algebra → ℕ → Word → ℕ
measure A l w = rank A.order.rows A.order.vars l (monomial_of A.order.vars w) * suc (l * l) + inversions w

pub measure_below_enough : (A : Algebra) (w : Word) → measure A (length w) w < enough A.order.vars (length w)
unfolding measure
measure_below_enough A w =
    let l : ℕ = length w in
    let a : rank A.order.rows A.order.vars l (monomial_of A.order.vars w) * suc (l * l) ≤ (l + 1) ^ A.order.vars * suc (l * l) =
    mul-le-mul_right (suc (l * l)) (rank_at_most A.order.rows A.order.vars l (monomial_of A.order.vars w)) in
    omega (arith, a, inversions-le w)

-- a smaller monomial makes the measure smaller, whatever the inversions are
pub measure_falls : (A : Algebra) (l : ℕ) (v w : Word) → length v ≤ l
    → order_cmp A.order.rows (monomial_of A.order.vars v) (monomial_of A.order.vars w) ≡ Less → measure A l v < measure A l w
unfolding measure
measure_falls A l v w h e =
    let r : rank A.order.rows A.order.vars l (monomial_of A.order.vars v) < rank A.order.rows A.order.vars l (monomial_of A.order.vars w) =
    rank_falls A.order.rows A.order.vars l (monomial_of A.order.vars v) (monomial_of A.order.vars w) e
    (IsIn-monomials_up_to A.order.vars l (monomial_of A.order.vars v) (length-counts_from 1 A.order.vars v) (counts_at_most l 1 A.order.vars v h)) in
    let s : suc (rank A.order.rows A.order.vars l (monomial_of A.order.vars v)) * suc (l * l) ≤ rank A.order.rows A.order.vars l (monomial_of A.order.vars w) * suc (l * l) =
    mul-le-mul_right (suc (l * l)) r in
    let q : length v * length v ≤ l * l = mul-le-mul h h in
    omega (arith, s, q, inversions-le v)

-- v is a word that is no longer than l and has a smaller measure than w
abbrev pub IsLess : Algebra → ℕ → Word → Word → Type 0
IsLess A l w v = IsWord A.order.vars v × (length v ≤ l) × (measure A l v < measure A l w)

-- ---- rewriting makes words smaller

-- the product of monomials does not depend on their order
pub plus-comm : (a b : Monomial) → plus a b ≡ plus b a
plus-comm [] [] = refl
plus-comm [] (y ∷ b) = refl
plus-comm (x ∷ a) [] = refl
plus-comm (x ∷ a) (y ∷ b) = λ i. add_comm x y i ∷ plus-comm a b i

-- the order of two words' monomials stays the same where the words stand in a longer word
pub order_cmp-inside : (A : Algebra) (u m k v : Word)
    → order_cmp A.order.rows (monomial_of A.order.vars (u ++ (m ++ v))) (monomial_of A.order.vars (u ++ (k ++ v)))
    ≡ order_cmp A.order.rows (monomial_of A.order.vars m) (monomial_of A.order.vars k)
order_cmp-inside A u m k v =
    (λ i. order_cmp A.order.rows (flip (m ++ v) i) (flip (k ++ v) i))
    ∙ order_cmp-plus A.order.rows (mono (m ++ v)) (mono (k ++ v)) (mono u) (same (m ++ v) u) (same (k ++ v) u)
    ∙ (λ i. order_cmp A.order.rows (counts_from-append 1 A.order.vars m v i) (counts_from-append 1 A.order.vars k v i))
    ∙ order_cmp-plus A.order.rows (mono m) (mono k) (mono v) (same m v) (same k v)
  where
    mono : Word → Monomial
    mono w = monomial_of A.order.vars w

    same : (x y : Word) → length (monomial_of A.order.vars x) ≡ length (monomial_of A.order.vars y)
    same x y = length-counts_from 1 A.order.vars x ∙ sym (length-counts_from 1 A.order.vars y)

    flip : (x : Word) → monomial_of A.order.vars (u ++ x) ≡ plus (monomial_of A.order.vars x) (monomial_of A.order.vars u)
    flip x = counts_from-append 1 A.order.vars u x ∙ plus-comm (monomial_of A.order.vars u) (monomial_of A.order.vars x)

-- sums over alike values are alike
pub sum_alike : {J K : Type 0} (cmp : K → K → Ordering) (p : ℕ) (value value' : J → List (ℕ × K)) (f : List (ℕ × J))
    → Each (λ t. value t.1 ≡ value' t.1) f → sum_over cmp p value f ≡ sum_over cmp p value' f
sum_alike cmp p value value' [] e = refl
sum_alike cmp p value value' (t ∷ f) e = λ i. poly_add cmp p (poly_scale p t.0 (e.0 i)) (sum_alike cmp p value value' f e.1 i)

module _ (A : Algebra) where
  -- the letters behind the part of a word before a descent
  behind : (s : Descent) → IsWord A.order.vars (word_of s) → IsWord A.order.vars (s.high ∷ s.low ∷ s.after)
  behind s word = Each-second _ s.before (s.high ∷ s.low ∷ s.after) word

  -- the word with the two letters swapped
  pub swapped_less : (l : ℕ) (s : Descent) → IsWord A.order.vars (word_of s) → s.low < s.high → length (word_of s) ≤ l
      → IsLess A l (word_of s) (s.before ++ s.low ∷ s.high ∷ s.after)
  unfolding measure
  swapped_less l s word falls short =
      let back : IsWord A.order.vars (s.high ∷ s.low ∷ s.after) = behind s word in
      let e : rank A.order.rows A.order.vars l (monomial_of A.order.vars (s.before ++ s.low ∷ s.high ∷ s.after)) ≡ rank A.order.rows A.order.vars l (monomial_of A.order.vars (word_of s)) =
      ap (rank A.order.rows A.order.vars l) (counts_from-swap 1 A.order.vars s.before s.low s.high s.after) in (
        Each-append _ s.before (s.low ∷ s.high ∷ s.after) (Each-first _ s.before (s.high ∷ s.low ∷ s.after) word) (back.1.0, (back.0, back.1.1)),
        omega (arith, length-append s.before (s.low ∷ s.high ∷ s.after), length-append s.before (s.high ∷ s.low ∷ s.after)),
        omega (arith, ap (λ k. k * suc (l * l)) e, inversions-swap s.before s.high s.low s.after falls),
      )

  -- the word with the sorted word of a term of the relation in place of the two letters
  pub replaced_less : (l : ℕ) (s : Descent) → IsWord A.order.vars (word_of s) → s.low < s.high → length (word_of s) ≤ l
      → (t : ℕ × Monomial) → IsSmall A s.low s.high t → IsLess A l (word_of s) (s.before ++ (sorted_word t.1 ++ s.after))
  replaced_less l s word falls short t small =
      let len : length (s.before ++ (sorted_word t.1 ++ s.after)) ≤ l =
      omega (arith, length-append s.before (sorted_word t.1 ++ s.after), length-append (sorted_word t.1) s.after, length-word_from 1 t.1, small.1, length-append s.before (s.high ∷ s.low ∷ s.after)) in
      let less : order_cmp A.order.rows (monomial_of A.order.vars (s.before ++ (sorted_word t.1 ++ s.after))) (monomial_of A.order.vars (word_of s)) ≡ Less =
      ap (order_cmp A.order.rows (monomial_of A.order.vars (s.before ++ (sorted_word t.1 ++ s.after)))) (sym (counts_from-swap 1 A.order.vars s.before s.low s.high s.after))
      ∙ order_cmp-inside A s.before (sorted_word t.1) (s.low ∷ s.high ∷ []) s.after
      ∙ ap (λ x. order_cmp A.order.rows x (monomial_of A.order.vars (s.low ∷ s.high ∷ []))) (monomial_of-sorted_word A.order.vars t.1 small.0)
      ∙ small.2 in (
        Each-append _ s.before (sorted_word t.1 ++ s.after) (Each-first _ s.before (s.high ∷ s.low ∷ s.after) word)
            (Each-append _ (sorted_word t.1) s.after (IsWord-sorted_word A.order.vars t.1 small.0) (behind s word).1.1),
        len,
        measure_falls A l (s.before ++ (sorted_word t.1 ++ s.after)) (word_of s) len less,
      )

  module _ (downward : RewritesDown A) where
    rewritten_from : (l : ℕ) (s : Descent) → IsWord A.order.vars (word_of s) → s.low < s.high → length (word_of s) ≤ l
        → Each (λ t. IsLess A l (word_of s) t.1) (rewritten A s)
    rewritten_from l s word falls short =
        let back : IsWord A.order.vars (s.high ∷ s.low ∷ s.after) = behind s word in (
          swapped_less l s word falls short,
          Each-map (λ t. IsLess A l (word_of s) t.1) (λ t. (t.0, s.before ++ (sorted_word t.1 ++ s.after))) (d_of A s.low s.high)
              (Each-weaker _ _ (λ t small. replaced_less l s word falls short t small) (d_of A s.low s.high) (downward.small s.low s.high back.1.0.0 falls back.0.1)),
        )

    -- each word that a word is rewritten to is less
    pub rewritten_less : (l : ℕ) (w : Word) (s : Descent) → leftmost_descent w ≡ Some s → IsWord A.order.vars w → length w ≤ l → Each (λ t. IsLess A l w t.1) (rewritten A s)
    rewritten_less l w s is word short =
        let found : (w ≡ word_of s) × (s.low < s.high) = found_descent w s is in
        subst (λ w. Each (λ t. IsLess A l w t.1) (rewritten A s)) (sym found.0)
        (rewritten_from l s (subst (IsWord A.order.vars) found.0 word) found.1 (subst (λ w. length w ≤ l) found.0 short))

    -- any two numbers of steps above the measure give the same
    pub within_steady : (k k' l : ℕ) (w : Word) → IsWord A.order.vars w → length w ≤ l → measure A l w < k → measure A l w < k' → normal_form_within A k w ≡ normal_form_within A k' w
    unfolding normal_form_within
    within_steady zero k' l w word short a b = absurd (omega arith)
    within_steady (suc k) zero l w word short a b = absurd (omega arith)
    within_steady (suc k) (suc k') l w word short a b =
        by (leftmost_descent w) refl (λ v less. within_steady k k' l v less.0 less.1 (omega (arith, less.2)) (omega (arith, less.2)))
      where
        by : (r : Option Descent) → leftmost_descent w ≡ r → ((v : Word) → IsLess A l w v → normal_form_within A k v ≡ normal_form_within A k' v)
            → rewriting_step A (normal_form_within A k) w r ≡ rewriting_step A (normal_form_within A k') w r
        by None e ih = refl
        by (Some s) e ih =
            sum_alike (order_cmp A.order.rows) A.p (normal_form_within A k) (normal_form_within A k') (rewritten A s)
            (Each-weaker _ _ (λ t less. ih t.1 less) (rewritten A s) (rewritten_less l w s e word short))

-- ---- the recursion

-- one less than `enough`
abbrev pub fuel : ℕ → ℕ → ℕ
fuel n l = (l + 1) ^ n * suc (l * l) + l * l

enough_is : (n l : ℕ) → enough n l ≡ suc (fuel n l)
enough_is n l = omega arith

enough_grows : (n k l : ℕ) → k < l → enough n k < enough n l
enough_grows n k l h =
    let a : (k + 1) ^ n ≤ (l + 1) ^ n = pow-le-pow_left (omega arith) n in
    let b : k * k ≤ k * l = mul-le-mul_left k (le_of_lt h) in
    let c : k * l < l * l = mul-lt-mul_of_pos_right h (omega arith) in
    let d : suc ((k + 1) ^ n) * suc (k * k) ≤ suc ((l + 1) ^ n) * suc (k * k) = mul-le-mul_right (suc (k * k)) (omega arith) in
    let e : suc ((l + 1) ^ n) * suc (k * k) < suc ((l + 1) ^ n) * suc (l * l) = mul-lt-mul_of_pos_left (omega arith) (omega arith) in
    omega arith

shorter_or_as_long : (k l : ℕ) → k ≤ l → (k < l) ⊎ (l ≡ k)
shorter_or_as_long k l h = grind arith

-- a normal form is one step of rewriting, and then the normal forms of shorter recursions
one_step : (A : Algebra) (w : Word) (r : Option Descent) → leftmost_descent w ≡ r → normal_form A w ≡ rewriting_step A (normal_form_within A (fuel A.order.vars (length w))) w r
unfolding normal_form normal_form_within
one_step A w r e =
    ap (λ k. normal_form_within A k w) (enough_is A.order.vars (length w))
    ∙ ap (rewriting_step A (normal_form_within A (fuel A.order.vars (length w))) w) e

-- the normal form of a word without descents is its monomial
pub normal_form-sorted : (A : Algebra) (w : Word) → leftmost_descent w ≡ None → normal_form A w ≡ (1, monomial_of A.order.vars w) ∷ []
normal_form-sorted A w e = one_step A w None e

-- the normal form of a word with a descent is that of the words that it is rewritten to
pub normal_form-descent : (A : Algebra) → RewritesDown A → (w : Word) (s : Descent) → IsWord A.order.vars w → leftmost_descent w ≡ Some s
    → normal_form A w ≡ word_value A (rewritten A s)
unfolding normal_form word_value
normal_form-descent A downward w s word e =
    one_step A w (Some s) e
    ∙ sum_alike (order_cmp A.order.rows) A.p (normal_form_within A (fuel A.order.vars (length w))) (normal_form A) (rewritten A s)
    (Each-weaker _ _ (λ t less. same t.1 less) (rewritten A s) (rewritten_less A downward (length w) w s e word (le_refl (length w))))
  where
    same : (v : Word) → IsLess A (length w) w v → normal_form_within A (fuel A.order.vars (length w)) v ≡ normal_form A v
    same v less =
        ⊎_elim
        (λ shorter.
        let here : measure A (length v) v < fuel A.order.vars (length w) =
        omega (arith, measure_below_enough A v, enough_grows A.order.vars (length v) (length w) shorter, enough_is A.order.vars (length w)) in
        within_steady A downward (fuel A.order.vars (length w)) (enough A.order.vars (length v)) (length v) v less.0 (le_refl (length v)) here (measure_below_enough A v))
        (λ as_long.
        let here : measure A (length w) v < fuel A.order.vars (length w) = omega (arith, less.2, measure_below_enough A w, enough_is A.order.vars (length w)) in
        let there : measure A (length w) v < enough A.order.vars (length v) =
        subst (λ k. measure A (length w) v < enough A.order.vars k) as_long (omega (arith, less.2, measure_below_enough A w)) in
        within_steady A downward (fuel A.order.vars (length w)) (enough A.order.vars (length v)) (length w) v less.0 less.1 here there)
        (shorter_or_as_long (length v) (length w) less.1)
