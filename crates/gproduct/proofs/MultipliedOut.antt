-- A sum of products is multiplied out, swap by swap.
use Rattle.std.proofs.Common.{◌≡◌, ℕ, zero, suc, ◌+◌, ◌-◌, ◌*◌, ◌%◌, ◌^◌, ◌<◌, ◌≤◌, ◌⊎◌, inl, inr, List, [], ◌∷◌, ◌++◌, map, length, replicate, get_or, refl, sym, ap, ◌∙◌, subst, subst₂, arith, pow-suc, mod-lt, mul-le-mul_left, mul-le-mul_right, length-append, append_assoc}
use Rattle.std.proofs.Math.Nat.{pow-le-pow_right, one-le-pow}
use Rattle.std.proofs.lemmas.List.{map-append, length-replicate}
use Rattle.monomials.specs.Monomials.{Monomial, minus, power}
use Rattle.monomials.specs.Orders.{order_cmp}
use Rattle.monomials.specs.Polynomials.{Polynomial, Each, from_terms}
use Rattle.monomials.proofs.Modulo.{Same, same_refl, same_add, same_mul, same_mul_right, same_rest}
use Rattle.monomials.proofs.Weights.{weigh, weigh-append, weigh-from_terms}
use Rattle.monomials.proofs.Operations.{IsPolynomial-from_terms}
use Rattle.monomials.proofs.Keys.{Each-append, Each-first, Each-second, Each-weaker}
use Rattle.monomials.proofs.OrderLaws.{order_cmp_tied}
use Rattle.word_model.specs.Words.{Algebra, Word, WordSum, IsWord, sorted_word, normal_form, word_value}
use Rattle.word_model.specs.Conditions.{IsGAlgebra}
use Rattle.word_model.proofs.Letters.{Each-map, Each-both, length-word_from}
use Rattle.word_model.proofs.Divisions.{length-minus}
use Rattle.word_model.proofs.Termination.{IsLess, measure}
use Rattle.word_model.proofs.NormalForms.{word_weight, word_weight-sorted, weigh-word_value, word_value_is_polynomial, normal_form_is_polynomial, same_weights}
use Rattle.word_model.proofs.Confluence.{word_weight-inside}
use Rattle.gproduct.specs.declared.front.Crossing.{Crossing}
use Rattle.gproduct.specs.Inside.Factors.{stacked_word, HaveVars, ProductSum, words_of, IsReady, AreTerms, IsCrossing, between, IsExchange}
use Rattle.gproduct.proofs.SortedWords.{sorted_word-last, sorted_word-first, length-power}
use Rattle.gproduct.proofs.Stacks.{stacked_word-append, IsWord-stacked_word}
use Rattle.gproduct.proofs.Swaps.{powers_fall, part_less}

-- ---- how many terms a swap may have

-- the sum of f below n
unfoldable pub total : (ℕ → ℕ) → ℕ → ℕ
total f zero = 0
total f (suc n) = f n + total f n

last_or_before : (k n : ℕ) → k < suc n → (k ≡ n) ⊎ (k < n)
last_or_before k n h = grind arith

total-le : (f : ℕ → ℕ) (n k : ℕ) → k < n → f k ≤ total f n
unfolding total
total-le f zero k h = absurd (omega arith)
total-le f (suc n) k h = by (last_or_before k n h) (total-le f n k)
  where
    by : (k ≡ n) ⊎ (k < n) → (k < n → f k ≤ total f n) → f k ≤ f n + total f n
    by (inl e) ih = omega (arith, ap f e)
    by (inr lt) ih = omega (arith, ih lt)

module _ (A : Algebra) (l : ℕ) where
  -- how many terms the product x_j^a x_i^b has
  abbrev term_count : ℕ → ℕ → ℕ → ℕ → ℕ
  term_count i j a b = length (normal_form A (replicate a j ++ replicate b i))

  -- more than all of them with exponents up to l
  unfoldable pub base : ℕ
  base = suc (total (λ i. total (λ j. total (λ a. total (λ b. term_count i j a b) (suc l)) (suc l)) (suc A.order.vars)) (suc A.order.vars))

  term_count-less : (i j a b : ℕ) → i ≤ A.order.vars → j ≤ A.order.vars → a ≤ l → b ≤ l → term_count i j a b < base
  unfolding base
  term_count-less i j a b hi hj ha hb =
      omega (
        arith,
        total-le (λ b. term_count i j a b) (suc l) b (omega arith),
        total-le (λ a. total (λ b. term_count i j a b) (suc l)) (suc l) a (omega arith),
        total-le (λ j. total (λ a. total (λ b. term_count i j a b) (suc l)) (suc l)) (suc A.order.vars) j (omega arith),
        total-le (λ i. total (λ j. total (λ a. total (λ b. term_count i j a b) (suc l)) (suc l)) (suc A.order.vars)) (suc A.order.vars) i (omega arith),
      )

  base_some : 1 ≤ base
  unfolding base
  base_some = omega arith

  -- ---- the measure of a sum

  -- each word counts for a power of the base, so that a word outweighs what its swap leaves
  abbrev pub sum_measure : WordSum → ℕ
  sum_measure [] = 0
  sum_measure (t ∷ f) = base ^ measure A l t.1 + sum_measure f

  sum_measure-append : (f g : WordSum) → sum_measure (f ++ g) ≡ sum_measure f + sum_measure g
  sum_measure-append [] g = omega arith
  sum_measure-append (t ∷ f) g = omega (arith, sum_measure-append f g)

  -- a number of words that are less than a word
  sum_measure-less : (n : ℕ) (f : WordSum) → Each (λ t. measure A l t.1 < n) f → base * sum_measure f ≤ length f * base ^ n
  sum_measure-less n [] h = omega arith
  sum_measure-less n (t ∷ f) h =
      let more : base ^ suc (measure A l t.1) ≤ base ^ n = pow-le-pow_right base_some h.0 in
      omega (arith, pow-suc base (measure A l t.1), more, sum_measure-less n f h.1)

  outweighs : (b l s x : ℕ) → b * s ≤ l * x → l < b → 1 ≤ x → s < x
  outweighs b l s x h few some = by (lt_or_le s x)
    where
      lt_or_le : (s x : ℕ) → (s < x) ⊎ (x ≤ s)
      lt_or_le s x = grind arith

      by : (s < x) ⊎ (x ≤ s) → s < x
      by (inl lt) = lt
      by (inr le) =
          let more : b * x ≤ b * s = mul-le-mul_left b le in
          let most : suc l * x ≤ b * x = mul-le-mul_right x few in
          absurd (omega arith)

  -- to take a word out makes the sum's measure smaller
  pub taken_falls : (rest : WordSum) (t : ℕ × Word) → sum_measure rest < sum_measure (rest ++ t ∷ [])
  taken_falls rest t =
      let some : 1 ≤ base ^ measure A l t.1 = one-le-pow (measure A l t.1) base base_some in
      omega (arith, sum_measure-append rest (t ∷ []))

  -- so does putting lesser words in its place, if they are not too many
  put_falls : (rest put : WordSum) (t : ℕ × Word) → Each (λ u. measure A l u.1 < measure A l t.1) put → length put < base
      → sum_measure (rest ++ put) < sum_measure (rest ++ t ∷ [])
  put_falls rest put t less few =
      let n : ℕ = measure A l t.1 in
      let some : 1 ≤ base ^ n = one-le-pow n base base_some in
      let falls : sum_measure put < base ^ n = outweighs base (length put) (sum_measure put) (base ^ n) (sum_measure-less n put less) few some in
      omega (arith, sum_measure-append rest put, sum_measure-append rest (t ∷ []))

-- ---- swaps

module _ (A : Algebra) (x : Crossing) (h : IsCrossing A.order.vars x) (tail : List Monomial) (tail_vars : HaveVars A.order.vars tail)
    (a b : ℕ) (ha : a ≤ get_or x.left (x.high - 1) 0) (hb : b ≤ get_or x.right (x.low - 1) 0) where
  -- what stands before and behind the two powers
  abbrev front : Word
  front = sorted_word (minus x.left (power A.order.vars x.high a))

  abbrev back : Word
  back = sorted_word (minus x.right (power A.order.vars x.low b)) ++ stacked_word tail

  abbrev powers : Word
  powers = replicate a x.high ++ replicate b x.low

  -- the product that is swapped
  before_swap : (fs : List Monomial) → stacked_word fs ≡ sorted_word x.left ++ (sorted_word x.right ++ stacked_word tail) → stacked_word fs ≡ front ++ (powers ++ back)
  before_swap fs is =
      let left : sorted_word x.left ≡ front ++ replicate a x.high = sorted_word-last A.order.vars x.high a x.left (omega (arith, h.first, h.falls)) h.last h.left_vars ha h.left_last in
      let right : sorted_word x.right ≡ replicate b x.low ++ sorted_word (minus x.right (power A.order.vars x.low b)) =
      sorted_word-first A.order.vars x.low b x.right h.first (omega (arith, h.falls, h.last)) h.right_vars hb h.right_first in
      is
      ∙ (λ i. left i ++ (right i ++ stacked_word tail))
      ∙ append_assoc front (replicate a x.high) _
      ∙ ap (λ w. front ++ w)
      (ap (λ w. replicate a x.high ++ w) (append_assoc (replicate b x.low) (sorted_word (minus x.right (power A.order.vars x.low b))) (stacked_word tail))
      ∙ sym (append_assoc (replicate a x.high) (replicate b x.low) back))

  -- what comes of it
  after_swap : (m : Monomial) → stacked_word (between A.order.vars x a b tail m) ≡ front ++ (sorted_word m ++ back)
  after_swap m =
      let right : Monomial = minus x.right (power A.order.vars x.low b) in
      let left : Monomial = minus x.left (power A.order.vars x.high a) in
      stacked_word-append tail (right ∷ m ∷ left ∷ [])
      ∙ append_assoc (sorted_word left ++ sorted_word m) (sorted_word right) (stacked_word tail)
      ∙ append_assoc (sorted_word left) (sorted_word m) back

  vars_after_swap : (m : Monomial) → length m ≡ A.order.vars → HaveVars A.order.vars (between A.order.vars x a b tail m)
  vars_after_swap m vars =
      let n : ℕ = A.order.vars in
      let right : length (minus x.right (power n x.low b)) ≡ n =
      length-minus x.right (power n x.low b) (h.right_vars ∙ sym (length-power n x.low b h.first (omega (arith, h.falls, h.last)))) ∙ h.right_vars in
      let left : length (minus x.left (power n x.high a)) ≡ n =
      length-minus x.left (power n x.high a) (h.left_vars ∙ sym (length-power n x.high a (omega (arith, h.first, h.falls)) h.last)) ∙ h.left_vars in
      Each-append (λ m. length m ≡ n) tail _ tail_vars (right, (vars, (left, tt)))

  -- the products that come of k times the product
  abbrev swapped : ℕ → ProductSum
  swapped k = map (λ t. ((k * t.0) % A.p, between A.order.vars x a b tail t.1)) (normal_form A powers)

  weigh-swapped : (ψ : Word → ℕ) (k : ℕ) (f : Polynomial)
      → Same A.p (weigh ψ (words_of (map (λ t. ((k * t.0) % A.p, between A.order.vars x a b tail t.1)) f))) (k * weigh (λ m. ψ (front ++ (sorted_word m ++ back))) f)
  weigh-swapped ψ k [] = same_refl A.p _ _ (omega arith)
  weigh-swapped ψ k (t ∷ f) =
      let at : ℕ = ψ (front ++ (sorted_word t.1 ++ back)) in
      let rest : ℕ = weigh (λ m. ψ (front ++ (sorted_word m ++ back))) f in
      let all : (k * t.0) * at + k * rest ≡ k * (t.0 * at + rest) = omega arith in
      same_add A.p _ ((k * t.0) * at) _ (k * rest)
      (same_refl A.p _ _ (ap (λ w. ((k * t.0) % A.p) * ψ w) (after_swap t.1)) ∙ same_mul_right A.p at _ _ (same_rest A.p (k * t.0)))
      (weigh-swapped ψ k f)
      ∙ same_refl A.p _ _ all

  length-swapped : (k : ℕ) (f : Polynomial) → length (words_of (map (λ t. ((k * t.0) % A.p, between A.order.vars x a b tail t.1)) f)) ≡ length f
  length-swapped k [] = refl
  length-swapped k (t ∷ f) = ap suc (length-swapped k f)

  module _ (accepted : IsGAlgebra A) (some_a : 1 ≤ a) (some_b : 1 ≤ b) (fs : List Monomial) (vars : HaveVars A.order.vars fs)
      (short : length (stacked_word fs) ≤ 4095) (is : stacked_word fs ≡ sorted_word x.left ++ (sorted_word x.right ++ stacked_word tail)) where
    whole_word : IsWord A.order.vars (front ++ (powers ++ back))
    whole_word = subst (IsWord A.order.vars) (before_swap fs is) (IsWord-stacked_word A.order.vars fs vars)

    whole_short : length (front ++ (powers ++ back)) ≤ 4095
    whole_short = subst (λ w. length w ≤ 4095) (before_swap fs is) short

    -- a swap does not change the weight
    swap_weighs : (φ : Monomial → ℕ) (k : ℕ) → Same A.p (weigh (word_weight A φ) (words_of (swapped k))) (k * word_weight A φ (stacked_word fs))
    swap_weighs φ k =
        weigh-swapped (word_weight A φ) k (normal_form A powers)
        ∙ same_mul A.p k _ _
        (sym (word_weight-inside A accepted.downward accepted.confluent accepted.field.more φ front powers back whole_word)
        ∙ same_refl A.p _ _ (ap (word_weight A φ) (sym (before_swap fs is))))

    -- the words that come of it are less
    lesser : Each (λ t. IsLess A 4095 (stacked_word fs) (stacked_word (between A.order.vars x a b tail t.1))) (normal_form A powers)
    lesser =
        Each-weaker _ _ (λ t less. subst₂ (IsLess A 4095) (sym (before_swap fs is)) (sym (after_swap t.1)) less) (normal_form A powers)
        (part_less A accepted.downward 4095 front back powers (powers_fall a b x.high x.low some_a some_b h.falls) whole_word whole_short)

    -- what follows from that for each
    each_swapped : (P : ℕ × List Monomial → Type 0) (k : ℕ)
        → ((e : ℕ) (m : Monomial) → length m ≡ A.order.vars → IsLess A 4095 (stacked_word fs) (stacked_word (between A.order.vars x a b tail m)) → P (e % A.p, between A.order.vars x a b tail m))
        → Each P (swapped k)
    each_swapped P k f =
        Each-map P (λ t. ((k * t.0) % A.p, between A.order.vars x a b tail t.1)) (normal_form A powers)
        (Each-both _ _ _ (λ t vars less. f (k * t.0) t.1 vars less) (normal_form A powers) (normal_form_is_polynomial A accepted.field.more powers).vars lesser)

    -- a swap makes the measure smaller
    swap_falls : (rest : WordSum) (k : ℕ) → sum_measure A 4095 (rest ++ words_of (swapped k)) < sum_measure A 4095 (rest ++ (k, stacked_word fs) ∷ [])
    swap_falls rest k =
        let size : length powers ≤ 4095 = omega (arith, whole_short, length-append front (powers ++ back), length-append powers back) in
        let sizes : a + b ≤ 4095 = omega (arith, length-append (replicate a x.high) (replicate b x.low), length-replicate {A = ℕ} a x.high, length-replicate {A = ℕ} b x.low) in
        put_falls A 4095 rest (words_of (swapped k)) (k, stacked_word fs)
        (Each-map (λ u. measure A 4095 u.1 < measure A 4095 (stacked_word fs)) (λ t. (t.0, stacked_word t.1)) (swapped k)
        (each_swapped (λ t. measure A 4095 (stacked_word t.1) < measure A 4095 (stacked_word fs)) k (λ e m vars less. less.2)))
        (subst (λ n. n < base A 4095) (sym (length-swapped k (normal_form A powers)))
        (term_count-less A 4095 x.low x.high a b (omega (arith, h.falls, h.last)) h.last (omega arith) (omega arith)))

-- ---- the loop

module _ (A : Algebra) where
  -- What the loop keeps: the products that are left and the terms of those that are done make up the sum that it began with.
  pub record IsMultiplying (start left : ProductSum) (done : Polynomial) : Type 0 where
    pub ready : IsReady A.p A.order.vars left
    pub terms : AreTerms A.p A.order.vars done
    pub weights : (φ : Monomial → ℕ) → Same A.p (weigh (word_weight A φ) (words_of left) + weigh φ done) (weigh (word_weight A φ) (words_of start))

  -- at the beginning nothing is done
  pub begin : (f : ProductSum) → IsReady A.p A.order.vars f → IsMultiplying f f []
  begin f h = record { ready = h; terms = record { numbers = tt; vars = tt; small = tt }; weights = λ φ. same_refl A.p _ _ (omega arith) }

  words_of-append : (f g : ProductSum) → words_of (f ++ g) ≡ words_of f ++ words_of g
  words_of-append f g = map-append (λ t. (t.0, stacked_word t.1)) f g

  weigh-words : (φ : Monomial → ℕ) (f g : ProductSum) → weigh (word_weight A φ) (words_of (f ++ g)) ≡ weigh (word_weight A φ) (words_of f) + weigh (word_weight A φ) (words_of g)
  weigh-words φ f g = ap (weigh (word_weight A φ)) (words_of-append f g) ∙ weigh-append (word_weight A φ) (words_of f) (words_of g)

  -- what the last product has
  pub last_number : (rest : ProductSum) (k : ℕ) (fs : List Monomial) → IsReady A.p A.order.vars (rest ++ (k, fs) ∷ []) → k < A.p
  last_number rest k fs h = (Each-second _ rest ((k, fs) ∷ []) h.numbers).0

  pub last_vars : (rest : ProductSum) (k : ℕ) (fs : List Monomial) → IsReady A.p A.order.vars (rest ++ (k, fs) ∷ []) → HaveVars A.order.vars fs
  last_vars rest k fs h = (Each-second _ rest ((k, fs) ∷ []) h.vars).0

  pub last_short : (rest : ProductSum) (k : ℕ) (fs : List Monomial) → IsReady A.p A.order.vars (rest ++ (k, fs) ∷ []) → length (stacked_word fs) ≤ 4095
  last_short rest k fs h = (Each-second _ rest ((k, fs) ∷ []) h.short).0

  rest_ready : (rest : ProductSum) (t : ℕ × List Monomial) → IsReady A.p A.order.vars (rest ++ t ∷ []) → IsReady A.p A.order.vars rest
  rest_ready rest t h = record {
    numbers = Each-first _ rest (t ∷ []) h.numbers;
    vars = Each-first _ rest (t ∷ []) h.vars;
    short = Each-first _ rest (t ∷ []) h.short;
  }

  -- the last product is a sorted monomial
  pub go_sorted : (start rest : ProductSum) (k : ℕ) (fs : List Monomial) (m : Monomial) (done : Polynomial) → IsMultiplying start (rest ++ (k, fs) ∷ []) done
      → length m ≡ A.order.vars → sorted_word m ≡ stacked_word fs → IsMultiplying start rest (done ++ (k, m) ∷ [])
  go_sorted start rest k fs m done h vars is = record {
    ready = rest_ready rest (k, fs) h.ready;
    terms = record {
      numbers = Each-append _ done ((k, m) ∷ []) h.terms.numbers (last_number rest k fs h.ready, tt);
      vars = Each-append _ done ((k, m) ∷ []) h.terms.vars (vars, tt);
      small = Each-append _ done ((k, m) ∷ []) h.terms.small (omega (arith, last_short rest k fs h.ready, ap length is, length-word_from 1 m), tt);
    };
    weights = λ φ.
        (let one : word_weight A φ (stacked_word fs) ≡ φ m = ap (word_weight A φ) (sym is) ∙ word_weight-sorted A φ m vars in
        let times : k * word_weight A φ (stacked_word fs) ≡ k * φ m = ap (λ x. k * x) one in
        same_refl A.p _ _ (omega (arith, weigh-words φ rest ((k, fs) ∷ []), weigh-append φ done ((k, m) ∷ []))) ∙ h.weights φ);
  }

  pub sorted_falls : (rest : ProductSum) (k : ℕ) (fs : List Monomial) → sum_measure A 4095 (words_of rest) < sum_measure A 4095 (words_of (rest ++ (k, fs) ∷ []))
  sorted_falls rest k fs =
      subst (λ f. sum_measure A 4095 (words_of rest) < sum_measure A 4095 f) (sym (words_of-append rest ((k, fs) ∷ []))) (taken_falls A 4095 (words_of rest) (k, stacked_word fs))

  module _ (accepted : IsGAlgebra A) (start rest : ProductSum) (k : ℕ) (fs : List Monomial) (done : Polynomial) (h : IsMultiplying start (rest ++ (k, fs) ∷ []) done)
      (x : Crossing) (crossing : IsCrossing A.order.vars x) (tail : List Monomial) (tail_vars : HaveVars A.order.vars tail)
      (is : stacked_word fs ≡ sorted_word x.left ++ (sorted_word x.right ++ stacked_word tail)) (added : ProductSum) (swap : IsExchange A k x tail added) where
    vars : HaveVars A.order.vars fs
    vars = last_vars rest k fs h.ready

    short : length (stacked_word fs) ≤ 4095
    short = last_short rest k fs h.ready

    -- what each of the products has that come of the swap
    each_added : (P : ℕ × List Monomial → Type 0)
        → ((e : ℕ) (gs : List Monomial) → HaveVars A.order.vars gs → IsLess A 4095 (stacked_word fs) (stacked_word gs) → P (e % A.p, gs)) → Each P added
    each_added P f =
        subst (Each P) (sym swap.terms)
        (each_swapped A x crossing tail tail_vars swap.a swap.b swap.a_within swap.b_within accepted swap.a_some swap.b_some fs vars short is P k
        (λ e m vars less. f e _ (vars_after_swap A x crossing tail tail_vars swap.a swap.b swap.a_within swap.b_within m vars) less))

    -- powers in the last product are swapped
    pub go_on : IsMultiplying start (rest ++ added) done
    go_on = record {
      ready = record {
        numbers = Each-append _ rest added (rest_ready rest (k, fs) h.ready).numbers (each_added (λ t. t.0 < A.p) (λ e gs vars less. mod-lt e (omega (arith, accepted.field.more))));
        vars = Each-append _ rest added (rest_ready rest (k, fs) h.ready).vars (each_added (λ t. HaveVars A.order.vars t.1) (λ e gs vars less. vars));
        short = Each-append _ rest added (rest_ready rest (k, fs) h.ready).short (each_added (λ t. length (stacked_word t.1) ≤ 4095) (λ e gs vars less. less.1));
      };
      terms = h.terms;
      weights = λ φ.
          (same_refl A.p _ _ (ap (λ x. x + weigh φ done) (weigh-words φ rest added))
          ∙ same_add A.p _ _ (weigh φ done) (weigh φ done)
          (same_add A.p (weigh (word_weight A φ) (words_of rest)) _ _ (k * word_weight A φ (stacked_word fs)) refl
          (same_refl A.p _ _ (ap (λ f. weigh (word_weight A φ) (words_of f)) swap.terms)
          ∙ swap_weighs A x crossing tail tail_vars swap.a swap.b swap.a_within swap.b_within accepted swap.a_some swap.b_some fs vars short is φ k)) refl
          ∙ same_refl A.p _ _ (omega (arith, weigh-words φ rest ((k, fs) ∷ [])))
          ∙ h.weights φ);
    }

    pub swapped_falls : sum_measure A 4095 (words_of (rest ++ added)) < sum_measure A 4095 (words_of (rest ++ (k, fs) ∷ []))
    swapped_falls =
        let less : sum_measure A 4095 (words_of rest ++ words_of added) < sum_measure A 4095 (words_of rest ++ (k, stacked_word fs) ∷ []) =
        subst (λ f. sum_measure A 4095 (words_of rest ++ words_of f) < sum_measure A 4095 (words_of rest ++ (k, stacked_word fs) ∷ [])) (sym swap.terms)
        (swap_falls A x crossing tail tail_vars swap.a swap.b swap.a_within swap.b_within accepted swap.a_some swap.b_some fs vars short is (words_of rest) k) in
        subst₂ (λ f g. sum_measure A 4095 f < sum_measure A 4095 g) (sym (words_of-append rest added)) (sym (words_of-append rest ((k, fs) ∷ []))) less

  -- nothing is left: the terms add up to the value of the sum
  pub finish : 1 < A.p → (start : ProductSum) (done : Polynomial) → IsMultiplying start [] done
      → from_terms (order_cmp A.order.rows) A.p done ≡ word_value A (words_of start)
  finish above_one start done h =
      same_weights A (from_terms (order_cmp A.order.rows) A.p done) (word_value A (words_of start))
      (IsPolynomial-from_terms A.p A.order (omega arith) done h.terms.vars) (word_value_is_polynomial A above_one (words_of start))
      (λ φ.
      let none : weigh φ done ≡ weigh (word_weight A φ) [] + weigh φ done = omega arith in
      weigh-from_terms (order_cmp A.order.rows) (order_cmp_tied A.order.rows) A.p φ done ∙ same_refl A.p _ _ none ∙ h.weights φ ∙ sym (weigh-word_value A φ (words_of start)))
