-- Products with a term, variable by variable, and their words.
use Rattle.std.proofs.Common.{◌≡◌, ℕ, zero, suc, ◌+◌, ◌-◌, ◌*◌, ◌<◌, ◌≤◌, [], ◌∷◌, ◌++◌, map, length, take, drop, get_or, replicate, refl, sym, ap, ◌∙◌, subst, arith, append_assoc, append-nil, length-append}
use Rattle.std.proofs.lemmas.List.{take_more, take_all, take-append-drop, length-replicate, length-take-le}
use Rattle.monomials.specs.Monomials.{Monomial, degree, power}
use Rattle.monomials.specs.Polynomials.{Polynomial, HasNumbers, HasVars, IsPolynomial, poly_scale, poly_degree}
use Rattle.monomials.proofs.Modulo.{Same, same_refl}
use Rattle.monomials.proofs.Weights.{weigh, weigh_alike_on, weigh-poly_scale}
use Rattle.monomials.proofs.Operations.{IsPolynomial-poly_scale}
use Rattle.monomials.proofs.Keys.{Each-append, Each-first, Each-weaker, EachKey-poly_scale}
use Rattle.word_model.specs.Words.{Algebra, Word, IsWord, word_from, sorted_word, word_value}
use Rattle.word_model.specs.Conditions.{IsGAlgebra}
use Rattle.word_model.specs.Products.{product}
use Rattle.word_model.proofs.Letters.{Each-map, IsWord-sorted_word, length-word_from}
use Rattle.word_model.proofs.NormalForms.{word_weight, word_weight-sorted, row_weight, weigh-word_value, weigh-product, word_value_is_polynomial, product_is_polynomial, same_weights}
use Rattle.word_model.proofs.Degrees.{HasDegrees-poly_degree, poly_degree-le, poly_degree-product}
use Rattle.word_model.proofs.Associativity.{last_part}
use Rattle.gproduct.specs.Inside.Factors.{ProductSum, words_of, IsReady}
use Rattle.gproduct.proofs.SortedWords.{length-power, sorted_word-power}

-- m before each term of f
abbrev pub before_each : Monomial → Polynomial → ProductSum
before_each m f = map (λ t. (t.0, t.1 ∷ m ∷ [])) f

-- m behind each term of f
abbrev pub behind_each : Monomial → Polynomial → ProductSum
behind_each m f = map (λ t. (t.0, m ∷ t.1 ∷ [])) f

weigh-before : (ψ : Word → ℕ) (m : Monomial) (f : Polynomial) → weigh ψ (words_of (before_each m f)) ≡ weigh (λ b. ψ (sorted_word m ++ sorted_word b)) f
weigh-before ψ m [] = refl
weigh-before ψ m (t ∷ f) = ap (λ x. t.0 * ψ (sorted_word m ++ sorted_word t.1) + x) (weigh-before ψ m f)

weigh-behind : (ψ : Word → ℕ) (m : Monomial) (f : Polynomial) → weigh ψ (words_of (behind_each m f)) ≡ weigh (λ a. 1 * ψ (sorted_word a ++ sorted_word m) + 0) f
weigh-behind ψ m [] = refl
weigh-behind ψ m (t ∷ f) =
    let once : ψ (sorted_word t.1 ++ sorted_word m) ≡ 1 * ψ (sorted_word t.1 ++ sorted_word m) + 0 = omega arith in
    λ i. t.0 * once i + weigh-behind ψ m f i

module _ (A : Algebra) (above_one : 1 < A.p) where
  -- their values are products
  pub before_value : (m : Monomial) (f : Polynomial) → word_value A (words_of (before_each m f)) ≡ product A ((1, m) ∷ []) f
  before_value m f =
      same_weights A _ _ (word_value_is_polynomial A above_one (words_of (before_each m f))) (product_is_polynomial A above_one ((1, m) ∷ []) f)
      (λ φ.
      let once : row_weight A φ f m ≡ 1 * row_weight A φ f m + 0 = omega arith in
      weigh-word_value A φ (words_of (before_each m f))
      ∙ same_refl A.p _ _ (weigh-before (word_weight A φ) m f ∙ once)
      ∙ sym (weigh-product A φ ((1, m) ∷ []) f))

  pub behind_value : (m : Monomial) (f : Polynomial) → word_value A (words_of (behind_each m f)) ≡ product A f ((1, m) ∷ [])
  behind_value m f =
      same_weights A _ _ (word_value_is_polynomial A above_one (words_of (behind_each m f))) (product_is_polynomial A above_one f ((1, m) ∷ []))
      (λ φ.
      weigh-word_value A φ (words_of (behind_each m f))
      ∙ same_refl A.p _ _ (weigh-behind (word_weight A φ) m f)
      ∙ sym (weigh-product A φ f ((1, m) ∷ [])))

module _ (p n : ℕ) (m : Monomial) (vars : length m ≡ n) where
  short_pair : (a b : Monomial) → degree a + degree b ≤ 4095 → length (([] ++ sorted_word a) ++ sorted_word b) ≤ 4095
  short_pair a b h = omega (arith, length-append (sorted_word a) (sorted_word b), length-word_from 1 a, length-word_from 1 b)

  -- they may be multiplied out
  pub before_ready : (f : Polynomial) → HasNumbers p f → HasVars n f → degree m + poly_degree f ≤ 4095 → IsReady p n (before_each m f)
  before_ready f numbers fvars small = record {
    numbers = Each-map (λ t. t.0 < p) (λ t. (t.0, t.1 ∷ m ∷ [])) f numbers;
    vars = Each-map _ (λ t. (t.0, t.1 ∷ m ∷ [])) f (Each-weaker _ _ (λ t len. (len, (vars, tt))) f fvars);
    short = Each-map _ (λ t. (t.0, t.1 ∷ m ∷ [])) f
        (Each-weaker _ _ (λ t deg. short_pair m t.1 (omega (arith, deg))) f (HasDegrees-poly_degree f (4095 - degree m) (omega arith)));
  }

  pub behind_ready : (f : Polynomial) → HasNumbers p f → HasVars n f → poly_degree f + degree m ≤ 4095 → IsReady p n (behind_each m f)
  behind_ready f numbers fvars small = record {
    numbers = Each-map (λ t. t.0 < p) (λ t. (t.0, m ∷ t.1 ∷ [])) f numbers;
    vars = Each-map _ (λ t. (t.0, m ∷ t.1 ∷ [])) f (Each-weaker _ _ (λ t len. (vars, (len, tt))) f fvars);
    short = Each-map _ (λ t. (t.0, m ∷ t.1 ∷ [])) f
        (Each-weaker _ _ (λ t deg. short_pair t.1 m (omega (arith, deg))) f (HasDegrees-poly_degree f (4095 - degree m) (omega arith)));
  }

-- ---- stages

-- the word of two lists of exponents
word_from-append : (i : ℕ) (xs ys : Monomial) → word_from i (xs ++ ys) ≡ word_from i xs ++ word_from (length xs + i) ys
word_from-append i [] ys = let same : i ≡ 0 + i = omega arith in ap (λ j. word_from j ys) same
word_from-append i (x ∷ xs) ys =
    let next : length xs + suc i ≡ suc (length xs) + i = omega arith in
    ap (λ w. replicate x i ++ w) (word_from-append (suc i) xs ys ∙ ap (λ j. word_from (suc i) xs ++ word_from j ys) next)
    ∙ sym (append_assoc (replicate x i) (word_from (suc i) xs) _)

-- the word of the first v variables of m ends with the power of x_v
pub word-take : (m : Monomial) (v : ℕ) → 1 ≤ v → v ≤ length m
    → sorted_word (take v m) ≡ sorted_word (take (v - 1) m) ++ replicate (get_or m (v - 1) 0) v
word-take m v low high =
    let u : ℕ = v - 1 in
    let next : u + 1 ≡ v = omega arith in
    let len : length (take u m) ≡ u = length-take-le u m (omega arith) in
    let this : length (take u m) + 1 ≡ v = omega arith in
    ap (λ n. sorted_word (take n m)) (sym next)
    ∙ ap sorted_word (take_more m u 0 (omega arith))
    ∙ word_from-append 1 (take u m) (get_or m u 0 ∷ [])
    ∙ ap (λ w. sorted_word (take u m) ++ w) (append-nil (replicate (get_or m u 0) (length (take u m) + 1)) ∙ ap (replicate (get_or m u 0)) this)

-- g is k times the product of the variables of m behind the first v with f
pub record IsStage (A : Algebra) (k : ℕ) (m : Monomial) (f : Polynomial) (v : ℕ) (g : Polynomial) : Type 0 where
  pub sorted : IsPolynomial A.p A.order g
  pub within : degree (take v m) + poly_degree g ≤ 4095
  pub weights : (φ : Monomial → ℕ) → Same A.p (weigh (λ a. word_weight A φ (sorted_word (take v m) ++ sorted_word a)) g) (k * row_weight A φ f m)

module _ (A : Algebra) (accepted : IsGAlgebra A) (k : ℕ) (m : Monomial) (f : Polynomial) (vars : length m ≡ A.order.vars) where
  pub first_stage : IsPolynomial A.p A.order f → degree m + poly_degree f ≤ 4095 → IsStage A k m f A.order.vars (poly_scale A.p k f)
  first_stage sorted within =
      let all : take A.order.vars m ≡ m = take_all A.order.vars m (omega arith) in
      record {
        sorted = IsPolynomial-poly_scale A.p A.order (omega (arith, accepted.field.more)) k f sorted;
        within = omega (
          arith,
          ap degree all,
          poly_degree-le (poly_scale A.p k f) (poly_degree f) (EachKey-poly_scale A.p (λ m. degree m ≤ poly_degree f) k f (HasDegrees-poly_degree f (poly_degree f) (omega arith))),
        );
        weights = λ φ.
            (same_refl A.p _ _ (ap (λ m. weigh (λ a. word_weight A φ (sorted_word m ++ sorted_word a)) (poly_scale A.p k f)) all)
            ∙ weigh-poly_scale A.p (λ a. word_weight A φ (sorted_word m ++ sorted_word a)) k f);
      }

  module _ (v : ℕ) (low : 1 ≤ v) (high : v ≤ A.order.vars) (e : ℕ) (is : e ≡ get_or m (v - 1) 0) where
    -- the first variables of m, without x_v and with it
    abbrev front : Word
    front = sorted_word (take (v - 1) m)

    with_power : sorted_word (take v m) ≡ front ++ replicate e v
    with_power = word-take m v low (omega arith) ∙ ap (λ e. front ++ replicate e v) (sym is)

    -- the degrees fit for one stage more
    pub stage_degree : (g : Polynomial) → IsStage A k m f v g → degree (take (v - 1) m) + (e + poly_degree g) ≤ 4095
    stage_degree g h =
        omega (arith, h.within, ap length with_power, length-append front (replicate e v), length-replicate {A = ℕ} e v, length-word_from 1 (take v m), length-word_from 1 (take (v - 1) m))

    word_around : (b : Monomial) → front ++ (sorted_word (power A.order.vars v e) ++ sorted_word b) ≡ sorted_word (take v m) ++ sorted_word b
    word_around b =
        ap (λ w. front ++ (w ++ sorted_word b)) (sorted_word-power A.order.vars v e low)
        ∙ sym (append_assoc front (replicate e v) (sorted_word b))
        ∙ ap (λ w. w ++ sorted_word b) (sym with_power)

    is_word : (b : Monomial) → length b ≡ A.order.vars → IsWord A.order.vars (front ++ (sorted_word (power A.order.vars v e) ++ sorted_word b))
    is_word b bvars =
        let n : ℕ = A.order.vars in
        let split : sorted_word m ≡ sorted_word (take v m) ++ word_from (length (take v m) + 1) (drop v m) =
        ap sorted_word (sym (take-append-drop v m)) ∙ word_from-append 1 (take v m) (drop v m) in
        subst (IsWord n) (sym (word_around b))
        (Each-append _ (sorted_word (take v m)) (sorted_word b)
        (Each-first _ (sorted_word (take v m)) _ (subst (IsWord n) split (IsWord-sorted_word n m vars))) (IsWord-sorted_word n b bvars))

    -- one stage: the power of x_v on the left
    pub next_stage : (g h : Polynomial) → IsStage A k m f v g → h ≡ product A ((1, power A.order.vars v e) ∷ []) g → IsStage A k m f (v - 1) h
    next_stage g h s eq =
        let n : ℕ = A.order.vars in
        let P : Polynomial = (1, power n v e) ∷ [] in
        let size : degree (power n v e) ≡ e =
        sym (length-word_from 1 (power n v e)) ∙ ap length (sorted_word-power n v e low) ∙ length-replicate {A = ℕ} e v in
        let degrees : poly_degree (product A P g) ≤ poly_degree P + poly_degree g =
        poly_degree-product A accepted.downward P g (length-power n v e low high, tt) s.sorted.vars in
        let made : IsStage A k m f (v - 1) (product A P g) = record {
          sorted = product_is_polynomial A accepted.field.more P g;
          within = omega (arith, stage_degree g s, degrees, size);
          weights = λ φ.
              (let χ : Monomial → ℕ = λ a. word_weight A φ (front ++ sorted_word a) in
              let once : 1 * row_weight A χ g (power n v e) + 0 ≡ row_weight A χ g (power n v e) = omega arith in
              weigh-product A χ P g
              ∙ same_refl A.p _ _ once
              ∙ weigh_alike_on A.p _ (λ a. word_weight A φ (sorted_word (take v m) ++ sorted_word a)) g
              (Each-weaker _ _ (λ t bvars.
              sym (last_part A accepted.downward accepted.confluent accepted.field.more φ front (sorted_word (power n v e) ++ sorted_word t.1) (is_word t.1 bvars))
              ∙ same_refl A.p _ _ (ap (word_weight A φ) (word_around t.1))) g s.sorted.vars)
              ∙ s.weights φ);
        } in
        subst (IsStage A k m f (v - 1)) (sym eq) made

  -- at the end it is the product with the term
  pub last_stage : (g : Polynomial) → IsStage A k m f 0 g → g ≡ product A ((k, m) ∷ []) f
  last_stage g s =
      same_weights A _ _ s.sorted (product_is_polynomial A accepted.field.more ((k, m) ∷ []) f)
      (λ φ.
      let once : k * row_weight A φ f m ≡ k * row_weight A φ f m + 0 = omega arith in
      weigh_alike_on A.p φ (λ a. word_weight A φ (sorted_word a)) g
      (Each-weaker _ _ (λ t avars. same_refl A.p _ _ (sym (word_weight-sorted A φ t.1 avars))) g s.sorted.vars)
      ∙ s.weights φ
      ∙ same_refl A.p _ _ once
      ∙ sym (weigh-product A φ ((k, m) ∷ []) f))

-- the power with exponent 0 is 1
pub no_power : (A : Algebra) → 1 < A.p → (v : ℕ) (f : Polynomial) → 1 ≤ v → IsPolynomial A.p A.order f
    → f ≡ product A ((1, power A.order.vars v 0) ∷ []) f
no_power A above_one v f low h =
    let P : Monomial = power A.order.vars v 0 in
    same_weights A _ _ h (product_is_polynomial A above_one ((1, P) ∷ []) f)
    (λ φ.
    let once : row_weight A φ f P ≡ 1 * row_weight A φ f P + 0 = omega arith in
    weigh_alike_on A.p φ (λ a. word_weight A φ (sorted_word P ++ sorted_word a)) f
    (Each-weaker _ _ (λ t avars.
    same_refl A.p _ _ (sym (ap (λ w. word_weight A φ (w ++ sorted_word t.1)) (sorted_word-power A.order.vars v 0 low) ∙ word_weight-sorted A φ t.1 avars))) f h.vars)
    ∙ same_refl A.p _ _ once
    ∙ sym (weigh-product A φ ((1, P) ∷ []) f))

-- ---- a power in parts

joined_powers : (v e k : ℕ) → replicate e v ++ replicate k v ≡ replicate (k + e) v
joined_powers v zero k = let same : k ≡ k + 0 = omega arith in ap (λ n. replicate n v) same
joined_powers v (suc e) k =
    let next : suc (k + e) ≡ k + suc e = omega arith in
    ap (λ w. v ∷ w) (joined_powers v e k) ∙ ap (λ n. replicate n v) next

module _ (A : Algebra) (accepted : IsGAlgebra A) (v : ℕ) (low : 1 ≤ v) (high : v ≤ A.order.vars) where
  -- the word of the power x_v^e
  abbrev word_of : ℕ → Word
  word_of e = sorted_word (power A.order.vars v e)

  -- the product with a power adds its exponent to the degree, at most
  pub power_degree : (e : ℕ) (f : Polynomial) → HasVars A.order.vars f → poly_degree (product A ((1, power A.order.vars v e) ∷ []) f) ≤ e + poly_degree f
  power_degree e f vars =
      let P : Polynomial = (1, power A.order.vars v e) ∷ [] in
      let size : degree (power A.order.vars v e) ≡ e =
      sym (length-word_from 1 (power A.order.vars v e)) ∙ ap length (sorted_word-power A.order.vars v e low) ∙ length-replicate {A = ℕ} e v in
      omega (arith, size, poly_degree-product A accepted.downward P f (length-power A.order.vars v e low high, tt) vars)

  module _ (e k : ℕ) where
    around : (b : Monomial) → word_of e ++ (word_of k ++ sorted_word b) ≡ word_of (k + e) ++ sorted_word b
    around b =
        let n : ℕ = A.order.vars in
        sym (append_assoc (word_of e) (word_of k) (sorted_word b))
        ∙ (λ i. (sorted_word-power n v e low i ++ sorted_word-power n v k low i) ++ sorted_word b)
        ∙ ap (λ w. w ++ sorted_word b) (joined_powers v e k ∙ sym (sorted_word-power n v (k + e) low))

    around_is_word : (b : Monomial) → length b ≡ A.order.vars → IsWord A.order.vars (word_of e ++ (word_of k ++ sorted_word b))
    around_is_word b bvars =
        let n : ℕ = A.order.vars in
        subst (IsWord n) (sym (around b))
        (Each-append _ (word_of (k + e)) (sorted_word b) (IsWord-sorted_word n (power n v (k + e)) (length-power n v (k + e) low high)) (IsWord-sorted_word n b bvars))

    -- a power after a power
    pub power_more : (f : Polynomial) → HasVars A.order.vars f
        → product A ((1, power A.order.vars v e) ∷ []) (product A ((1, power A.order.vars v k) ∷ []) f) ≡ product A ((1, power A.order.vars v (k + e)) ∷ []) f
    power_more f vars =
        let n : ℕ = A.order.vars in
        let above_one : 1 < A.p = accepted.field.more in
        let E : Polynomial = (1, power n v e) ∷ [] in
        let K : Polynomial = (1, power n v k) ∷ [] in
        let both : Polynomial = (1, power n v (k + e)) ∷ [] in
        let once : (x : ℕ) → 1 * x + 0 ≡ x = λ x. omega arith in
        same_weights A _ _ (product_is_polynomial A above_one E (product A K f)) (product_is_polynomial A above_one both f)
        (λ φ.
        let χ : Monomial → ℕ = λ a. word_weight A φ (word_of e ++ sorted_word a) in
        weigh-product A φ E (product A K f)
        ∙ same_refl A.p _ _ (once (row_weight A φ (product A K f) (power n v e)))
        ∙ weigh-product A χ K f
        ∙ same_refl A.p _ _ (once (row_weight A χ f (power n v k)))
        ∙ weigh_alike_on A.p (λ b. word_weight A χ (word_of k ++ sorted_word b)) (λ b. word_weight A φ (word_of (k + e) ++ sorted_word b)) f
        (Each-weaker _ _ (λ t bvars.
        sym (last_part A accepted.downward accepted.confluent above_one φ (word_of e) (word_of k ++ sorted_word t.1) (around_is_word t.1 bvars))
        ∙ same_refl A.p _ _ (ap (word_weight A φ) (around t.1))) f vars)
        ∙ same_refl A.p _ _ (sym (once (row_weight A φ f (power n v (k + e)))))
        ∙ sym (weigh-product A φ both f))
