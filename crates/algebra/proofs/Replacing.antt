-- Rewriting a sum of words, word by word.
use Rattle.std.proofs.Common.{◌≡◌, ℕ, zero, suc, ◌+◌, ◌*◌, ◌%◌, ◌^◌, ◌<◌, ◌≤◌, ◌⊎◌, inl, inr, List, [], ◌∷◌, ◌++◌, length, slice_get, unwrap_or, Some, None, refl, sym, ap, ◌∙◌, subst, arith, pow-suc, mod-lt, mul-le-mul_left, mul-le-mul_right, length-append}
use Rattle.std.proofs.Math.Nat.{pow-le-pow_right, one-le-pow}
use Rattle.monomials.specs.Monomials.{Monomial, degree}
use Rattle.monomials.specs.Orders.{order_cmp}
use Rattle.monomials.specs.Polynomials.{Polynomial, Each, HasNumbers, HasVars, from_terms}
use Rattle.monomials.proofs.Modulo.{Same, same_refl, same_add, same_mul, same_mul_right, same_rest}
use Rattle.monomials.proofs.Weights.{weigh, weigh-append, weigh-times, weigh-from_terms}
use Rattle.monomials.proofs.Operations.{IsPolynomial-from_terms}
use Rattle.monomials.proofs.Keys.{Each-append, Each-first, Each-second, Each-weaker}
use Rattle.monomials.proofs.OrderLaws.{order_cmp_tied}
use Rattle.word_model.specs.Words.{Algebra, Word, WordSum, IsWord, monomial_of, sorted_word, Descent, leftmost_descent, rewritten, c_of, d_of, pair_index, word_value, RewritesDown}
use Rattle.word_model.proofs.Letters.{Each-map, degree-monomial_of, length-counts_from}
use Rattle.word_model.proofs.Descents.{word_of, found_descent}
use Rattle.word_model.proofs.Termination.{measure, IsLess, normal_form-sorted}
use Rattle.word_model.proofs.NormalForms.{word_weight, word_weight-descent, weigh-word_value, word_value_is_polynomial, same_weights}
use Rattle.word_model.proofs.Rules.{weigh-rewritten}
use Rattle.word_model.proofs.Induction.{less_swapped, less_replaced}
use Rattle.algebra.specs.Inside.Places.{with_swapped}
use Rattle.algebra.specs.Inside.WordSums.{reduced, between, replacement, IsPending}
use Rattle.algebra.proofs.Sums.{length-reduced, length-times_words, weigh-reduced}

-- the word with a monomial in the place of the two letters
abbrev pub with_monomial : Descent → Monomial → Word
with_monomial s m = s.before ++ (sorted_word m ++ s.after)

module _ (A : Algebra) where
  -- what the words of a replacement have, each with its number
  pub replacement_each : (P : ℕ × Word → Type 0) (k : ℕ) (s : Descent)
      → P ((k * c_of A s.low s.high) % A.p, with_swapped s)
      → Each (λ t. P ((k * t.0) % A.p, with_monomial s t.1)) (d_of A s.low s.high)
      → Each P (replacement A k s)
  replacement_each P k s swapped replaced =
      Each-append P (reduced A.p (between k s.before (d_of A s.low s.high) s.after)) _
      (Each-map P (λ t. (t.0 % A.p, t.1)) (between k s.before (d_of A s.low s.high) s.after)
      (Each-map (λ t. P (t.0 % A.p, t.1)) (λ t. (k * t.0, with_monomial s t.1)) (d_of A s.low s.high) replaced))
      (swapped, tt)

  -- the replacement of k times a word weighs k times what the word is rewritten to
  weigh-replacement : (ψ : Word → ℕ) (k : ℕ) (s : Descent) → Same A.p (weigh ψ (replacement A k s)) (k * weigh ψ (rewritten A s))
  weigh-replacement ψ k s =
      let d : Polynomial = d_of A s.low s.high in
      let c : ℕ = c_of A s.low s.high in
      let terms : ℕ = weigh (λ m. ψ (with_monomial s m)) d in
      let all : k * terms + ((k * c) * ψ (with_swapped s) + 0) ≡ k * (c * ψ (with_swapped s) + terms) = omega arith in
      same_refl A.p _ _ (weigh-append ψ (reduced A.p (between k s.before d s.after)) (((k * c) % A.p, with_swapped s) ∷ []))
      ∙ same_add A.p _ _ _ _
      (weigh-reduced A.p ψ (between k s.before d s.after) ∙ same_refl A.p _ _ (weigh-times ψ k (with_monomial s) d))
      (same_add A.p _ _ 0 0 (same_mul_right A.p (ψ (with_swapped s)) _ _ (same_rest A.p (k * c))) refl)
      ∙ same_refl A.p _ _ (all ∙ ap (λ x. k * x) (sym (weigh-rewritten A ψ s.before s.high s.low s.after)))

  -- ---- the measure of a sum

  -- how many terms the polynomials of the relations have
  abbrev pub term_count : List Polynomial → ℕ
  term_count [] = 0
  term_count (f ∷ fs) = length f + term_count fs

  term_count-le : (fs : List Polynomial) (i : ℕ) → length (unwrap_or (slice_get fs i) []) ≤ term_count fs
  term_count-le [] i = omega arith
  term_count-le (f ∷ fs) zero = omega arith
  term_count-le (f ∷ fs) (suc i) = omega (arith, term_count-le fs i)

  -- more than the words of any replacement
  abbrev pub base : ℕ
  base = suc (suc (term_count A.d))

  -- each word counts for a power of the base, so that a word outweighs its replacement
  abbrev pub sum_measure : WordSum → ℕ
  sum_measure [] = 0
  sum_measure (t ∷ f) = base ^ measure A 4095 t.1 + sum_measure f

  sum_measure-append : (f g : WordSum) → sum_measure (f ++ g) ≡ sum_measure f + sum_measure g
  sum_measure-append [] g = omega arith
  sum_measure-append (t ∷ f) g = omega (arith, sum_measure-append f g)

  -- a number of words that are less than a word
  sum_measure-less : (n : ℕ) (f : WordSum) → Each (λ t. measure A 4095 t.1 < n) f → base * sum_measure f ≤ length f * base ^ n
  sum_measure-less n [] h = omega arith
  sum_measure-less n (t ∷ f) h =
      let more : base ^ suc (measure A 4095 t.1) ≤ base ^ n = pow-le-pow_right (omega arith) h.0 in
      omega (arith, pow-suc base (measure A 4095 t.1), more, sum_measure-less n f h.1)

  outweighs : (b l s x : ℕ) → b * s ≤ l * x → l < b → 1 ≤ x → s < x
  outweighs b l s x h few some = by (lt_or_le s x)
    where
      lt_or_le : (s x : ℕ) → (s < x) ⊎ (x ≤ s)
      lt_or_le s x = grind arith

      by : (s < x) ⊎ (x ≤ s) → s < x
      by (inl lt) = lt
      by (inr le) =
          let more : b * x ≤ b * s = mul-le-mul_left b le in
          let most : suc l * x ≤ b * x = mul-le-mul_right x few in
          absurd (omega arith)

  length-replacement : (k : ℕ) (s : Descent) → length (replacement A k s) < base
  length-replacement k s =
      omega (arith, length-append (reduced A.p (between k s.before (d_of A s.low s.high) s.after)) (((k * c_of A s.low s.high) % A.p, with_swapped s) ∷ []), length-reduced A.p (between k s.before (d_of A s.low s.high) s.after), length-times_words k (with_monomial s) (d_of A s.low s.high), term_count-le A.d (pair_index A.order.vars s.low s.high))

  -- to take a word out makes the sum's measure smaller
  pub taken_falls : (rest : WordSum) (t : ℕ × Word) → sum_measure rest < sum_measure (rest ++ t ∷ [])
  taken_falls rest t =
      let some : 1 ≤ base ^ measure A 4095 t.1 = one-le-pow (measure A 4095 t.1) base (omega arith) in
      omega (arith, sum_measure-append rest (t ∷ []))

  -- ---- the loop

  -- What the loop keeps: the words that are still to be rewritten and the terms of sorted words make up the sum that it began with.
  pub record IsRewriting (start left : WordSum) (sorted : Polynomial) : Type 0 where
    pub pending : IsPending A.p A.order.vars left
    pub weights : (φ : Monomial → ℕ) → Same A.p (weigh (word_weight A φ) left + weigh φ sorted) (weigh (word_weight A φ) start)
    pub numbers : HasNumbers A.p sorted
    pub vars : HasVars A.order.vars sorted
    pub small : Each (λ t. degree t.1 ≤ 4095) sorted

  -- at the beginning no word is sorted
  pub begin : (f : WordSum) → IsPending A.p A.order.vars f → IsRewriting f f []
  begin f h = record { pending = h; weights = λ φ. same_refl A.p _ _ (omega arith); numbers = tt; vars = tt; small = tt }

  -- the last word is sorted
  pub go_sorted : (start rest : WordSum) (k : ℕ) (w : Word) (sorted : Polynomial) → IsRewriting start (rest ++ (k, w) ∷ []) sorted
      → leftmost_descent w ≡ None → IsRewriting start rest (sorted ++ (k, monomial_of A.order.vars w) ∷ [])
  go_sorted start rest k w sorted h none = record {
    pending = record {
      numbers = Each-first _ rest ((k, w) ∷ []) h.pending.numbers;
      words = Each-first _ rest ((k, w) ∷ []) h.pending.words;
      short = Each-first _ rest ((k, w) ∷ []) h.pending.short;
    };
    weights = λ φ.
        (let one : word_weight A φ w ≡ 1 * φ (monomial_of A.order.vars w) + 0 = ap (weigh φ) (normal_form-sorted A w none) in
        let times : k * word_weight A φ w ≡ k * φ (monomial_of A.order.vars w) = ap (λ x. k * x) one ∙ omega arith in
        same_refl A.p _ _ (omega (arith, weigh-append (word_weight A φ) rest ((k, w) ∷ []), weigh-append φ sorted ((k, monomial_of A.order.vars w) ∷ []))) ∙ h.weights φ);
    numbers = Each-append _ sorted _ h.numbers ((Each-second _ rest ((k, w) ∷ []) h.pending.numbers).0, tt);
    vars = Each-append _ sorted _ h.vars (length-counts_from 1 A.order.vars w, tt);
    small = Each-append _ sorted _ h.small (omega (arith, degree-monomial_of A.order.vars w (Each-second _ rest ((k, w) ∷ []) h.pending.words).0, (Each-second _ rest ((k, w) ∷ []) h.pending.short).0), tt);
  }

  module _ (downward : RewritesDown A) where
    -- the words of a replacement are less than the word
    step_less : (w : Word) (s : Descent) → IsWord A.order.vars w → length w ≤ 4095 → leftmost_descent w ≡ Some s
        → IsLess A 4095 w (with_swapped s) × Each (λ t. IsLess A 4095 w (with_monomial s t.1)) (d_of A s.low s.high)
    step_less w s word short is =
        let found : (w ≡ word_of s) × (s.low < s.high) = found_descent w s is in
        let there : IsWord A.order.vars (word_of s) = subst (IsWord A.order.vars) found.0 word in
        let len : length (word_of s) ≤ 4095 = subst (λ w. length w ≤ 4095) found.0 short in
        subst (λ w. IsLess A 4095 w (with_swapped s) × Each (λ t. IsLess A 4095 w (with_monomial s t.1)) (d_of A s.low s.high)) (sym found.0)
        (less_swapped A 4095 s.before s.high s.low s.after there len found.1, less_replaced A downward 4095 s.before s.high s.low s.after there len found.1)

    -- so each has what follows from that
    replaced_by : (P : ℕ × Word → Type 0) (k : ℕ) (w : Word) (s : Descent) → IsWord A.order.vars w → length w ≤ 4095 → leftmost_descent w ≡ Some s
        → ((e : ℕ) (v : Word) → IsLess A 4095 w v → P (e % A.p, v)) → Each P (replacement A k s)
    replaced_by P k w s word short is h =
        let less : IsLess A 4095 w (with_swapped s) × Each (λ t. IsLess A 4095 w (with_monomial s t.1)) (d_of A s.low s.high) = step_less w s word short is in
        replacement_each P k s (h _ _ less.0) (Each-weaker _ _ (λ t l. h (k * t.0) _ l) (d_of A s.low s.high) less.1)

    -- a word's replacement makes the sum's measure smaller
    pub step_falls : (rest : WordSum) (k : ℕ) (w : Word) (s : Descent) → IsWord A.order.vars w → length w ≤ 4095 → leftmost_descent w ≡ Some s
        → sum_measure (rest ++ replacement A k s) < sum_measure (rest ++ (k, w) ∷ [])
    step_falls rest k w s word short is =
        let n : ℕ = measure A 4095 w in
        let some : 1 ≤ base ^ n = one-le-pow n base (omega arith) in
        let falls : sum_measure (replacement A k s) < base ^ n =
        outweighs base (length (replacement A k s)) (sum_measure (replacement A k s)) (base ^ n)
        (sum_measure-less n (replacement A k s) (replaced_by (λ t. measure A 4095 t.1 < n) k w s word short is (λ e v less. less.2)))
        (length-replacement k s) some in
        omega (arith, sum_measure-append rest (replacement A k s), sum_measure-append rest ((k, w) ∷ []))

    -- the last word is replaced
    pub go_on : 0 < A.p → (start rest : WordSum) (k : ℕ) (w : Word) (sorted : Polynomial) (s : Descent) → IsRewriting start (rest ++ (k, w) ∷ []) sorted
        → leftmost_descent w ≡ Some s → IsRewriting start (rest ++ replacement A k s) sorted
    go_on pos start rest k w sorted s h is =
        let word : IsWord A.order.vars w = (Each-second _ rest ((k, w) ∷ []) h.pending.words).0 in
        let short : length w ≤ 4095 = (Each-second _ rest ((k, w) ∷ []) h.pending.short).0 in
        record {
          pending = record {
            numbers = Each-append _ rest (replacement A k s) (Each-first _ rest ((k, w) ∷ []) h.pending.numbers)
                (replaced_by (λ t. t.0 < A.p) k w s word short is (λ e v less. mod-lt e pos));
            words = Each-append _ rest (replacement A k s) (Each-first _ rest ((k, w) ∷ []) h.pending.words)
                (replaced_by (λ t. IsWord A.order.vars t.1) k w s word short is (λ e v less. less.0));
            short = Each-append _ rest (replacement A k s) (Each-first _ rest ((k, w) ∷ []) h.pending.short)
                (replaced_by (λ t. length t.1 ≤ 4095) k w s word short is (λ e v less. less.1));
          };
          weights = λ φ.
              (same_refl A.p _ _ (ap (λ x. x + weigh φ sorted) (weigh-append (word_weight A φ) rest (replacement A k s)))
              ∙ same_add A.p _ _ (weigh φ sorted) (weigh φ sorted) (same_add A.p (weigh (word_weight A φ) rest) _ _ _ refl
              (weigh-replacement (word_weight A φ) k s ∙ same_mul A.p k _ _ (sym (word_weight-descent A φ downward w s word is)))) refl
              ∙ same_refl A.p _ _ (omega (arith, weigh-append (word_weight A φ) rest ((k, w) ∷ [])))
              ∙ h.weights φ);
          numbers = h.numbers;
          vars = h.vars;
          small = h.small;
        }

  -- all words are sorted: the terms add up to the value of the sum
  pub finish : 1 < A.p → (start : WordSum) (sorted : Polynomial) → IsRewriting start [] sorted → from_terms (order_cmp A.order.rows) A.p sorted ≡ word_value A start
  finish above_one start sorted h =
      same_weights A (from_terms (order_cmp A.order.rows) A.p sorted) (word_value A start)
      (IsPolynomial-from_terms A.p A.order (omega arith) sorted h.vars) (word_value_is_polynomial A above_one start)
      (λ φ.
      let none : weigh φ sorted ≡ weigh (word_weight A φ) [] + weigh φ sorted = omega arith in
      weigh-from_terms (order_cmp A.order.rows) (order_cmp_tied A.order.rows) A.p φ sorted ∙ same_refl A.p _ _ none ∙ h.weights φ ∙ sym (weigh-word_value A φ start))
