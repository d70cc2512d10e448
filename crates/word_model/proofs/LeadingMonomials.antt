-- The leading monomial of a product is the product of the leading monomials.
use Rattle.std.proofs.Common.{◌≡◌, ◌≢◌, ℕ, ◌*◌, ◌%◌, ◌<◌, ◌≤◌, [], ◌∷◌, ◌++◌, length, None, Some, refl, sym, ap, ◌∙◌, subst, arith, le_refl}
use Rattle.std.proofs.Common.{Ordering, Less, Equal, Greater}
use Rattle.monomials.specs.Monomials.{Monomial, plus}
use Rattle.monomials.specs.Orders.{order_cmp}
use Rattle.monomials.specs.Polynomials.{Polynomial, Each, IsAbove, IsCanonical, IsPolynomial}
use Rattle.monomials.proofs.Modulo.{Same, same_refl, same_mul, same_mul_right, same_lin, same_equal}
use Rattle.monomials.proofs.Weights.{weigh, weigh_alike_on, weigh-zero}
use Rattle.monomials.proofs.OrderLaws.{order_cmp_total, order_cmp_tied, order_cmp-plus}
use Rattle.monomials.proofs.Canonical.{only_at, only_at-same, only_at-below, absent, ties_itself, turn, turn_back, lead_alone}
use Rattle.monomials.proofs.Keys.{Each-append, Each-weaker}
use Rattle.monomials.proofs.Operations.{above_each}
use Rattle.word_model.specs.Words.{Algebra, Word, IsWord, monomial_of, sorted_word, leftmost_descent, c_of, d_of, IsSmall, RewritesDown}
use Rattle.monomials.specs.Leading.{leading_monomial}
use Rattle.word_model.specs.Products.{product}
use Rattle.word_model.specs.Conditions.{NonZero, IsField, HasNonzeroNumbers}
use Rattle.word_model.proofs.Letters.{Each-both, counts_from-append, counts_from-swap, monomial_of-sorted_word, IsWord-sorted_word}
use Rattle.word_model.proofs.Descents.{descent}
use Rattle.word_model.proofs.Termination.{plus-comm, order_cmp-inside, normal_form-sorted}
use Rattle.word_model.proofs.NormalForms.{word_weight, row_weight, weigh-product, product_is_polynomial}
use Rattle.word_model.proofs.Induction.{pair_bounds, word_induction}
use Rattle.word_model.proofs.Rules.{by_descent}

-- a product of numbers that are not zero is not zero
pub NonZero-product : (p a b : ℕ) → IsField p → NonZero p a → NonZero p b → NonZero p (a * b)
NonZero-product p a b field na nb e =
    let u : (c : ℕ) × ((c * a) % p ≡ 1 % p) = field.unit a na in
    nb (same_refl p b (1 * b) (omega arith)
    ∙ same_mul_right p b 1 (u.0 * a) (sym u.1)
    ∙ same_refl p ((u.0 * a) * b) (u.0 * (a * b)) (omega arith)
    ∙ same_mul p u.0 (a * b) 0 e
    ∙ same_refl p (u.0 * 0) 0 (omega arith))

-- a positive number below p is not zero
pub NonZero-below : (p a : ℕ) → 0 < a → a < p → NonZero p a
NonZero-below p a h k e = let z : a ≡ 0 = same_equal p a 0 k (omega arith) e in absurd (omega arith)

-- a weight that is zero at each key
weigh-vanishing : (p : ℕ) (ψ : Monomial → ℕ) (f : Polynomial) → Each (λ t. Same p (ψ t.1) 0) f → Same p (weigh ψ f) 0
weigh-vanishing p ψ f h = weigh_alike_on p ψ (λ m. 0) f h ∙ same_refl p _ _ (weigh-zero f)

module _ (A : Algebra) where
  -- the algebra's order
  abbrev pub order : Monomial → Monomial → Ordering
  order = order_cmp A.order.rows

  -- φ is zero at each monomial below m
  abbrev pub VanishesBelow : (Monomial → ℕ) → Monomial → Type 0
  VanishesBelow φ m = (x : Monomial) → order x m ≡ Less → φ x ≡ 0

  -- What F weighs has the leading monomial m: it is a nonzero number times the weight of m, wherever all below m weighs nothing.
  abbrev pub Leads : Monomial → ((Monomial → ℕ) → ℕ) → Type 0
  Leads m F = (k : ℕ) × NonZero A.p k × ((φ : Monomial → ℕ) → VanishesBelow φ m → Same A.p (F φ) (k * φ m))

  -- what vanishes below m vanishes below each monomial below m
  vanishes_lower : (φ : Monomial → ℕ) (x m : Monomial) → order x m ≡ Less → VanishesBelow φ m → VanishesBelow φ x
  vanishes_lower φ x m less van y h = van y ((order_cmp_total A.order.rows).trans y x m h less)

  -- what leads with a monomial below m is zero where all below m weighs nothing
  lower_is_zero : (x m : Monomial) (F : (Monomial → ℕ) → ℕ) → Leads x F → order x m ≡ Less → (φ : Monomial → ℕ) → VanishesBelow φ m → Same A.p (F φ) 0
  lower_is_zero x m F leads less φ van =
      let e : leads.0 * φ x ≡ 0 = ap (λ z. leads.0 * z) (van x less) ∙ omega arith in
      leads.2 φ (vanishes_lower φ x m less van) ∙ same_refl A.p _ _ e

  -- the weight that is 1 at a monomial that is not below m vanishes below m
  only_at-vanishes : (k m : Monomial) → (order k m ≡ Less → ⊥) → VanishesBelow (only_at order k) m
  only_at-vanishes k m high x less =
      elim (order k x) as (λ r. order k x ≡ r → only_at order k x ≡ 0) [
        | Greater ↦ λ is. only_at-below order (order_cmp_total A.order.rows) (order_cmp_tied A.order.rows) A.p k x is
        | Equal ↦ λ is. absurd (high (ap (λ y. order y m) (order_cmp_tied A.order.rows k x is) ∙ less))
        | Less ↦ λ is. absurd (high ((order_cmp_total A.order.rows).trans k x m is less))
      ] refl

  leads_number : (m : Monomial) (f : Polynomial) → Leads m (λ φ. weigh φ f) → NonZero A.p (weigh (only_at order m) f)
  leads_number m f leads z =
      let itself : order m m ≡ Equal = ties_itself order (order_cmp_total A.order.rows) (order_cmp_tied A.order.rows) A.p m in
      let one : only_at order m m ≡ 1 = only_at-same order (order_cmp_total A.order.rows) (order_cmp_tied A.order.rows) A.p m in
      leads.1 (same_refl A.p leads.0 (leads.0 * only_at order m m) (omega (arith, ap (λ x. leads.0 * x) one))
      ∙ sym (leads.2 (only_at order m) (only_at-vanishes m m (λ less. let no : Equal ≡ Less = sym itself ∙ less in cc)))
      ∙ z)

  -- a polynomial whose weight leads with m is not zero, and m is its leading monomial
  pub leads_is : (m : Monomial) (f : Polynomial) → IsCanonical order A.p f → Leads m (λ φ. weigh φ f) → (f ≢ []) × (leading_monomial f ≡ m)
  leads_is m [] h leads = absurd (leads_number m [] leads refl)
  leads_is m (t ∷ f) h leads = ((λ e. cc), by (order t.1 m) refl)
    where
      by : (r : Ordering) → order t.1 m ≡ r → t.1 ≡ m
      by Equal is = order_cmp_tied A.order.rows t.1 m is
      by Less is =
          let above : order m t.1 ≡ Greater = turn order (order_cmp_total A.order.rows) (order_cmp_tied A.order.rows) A.p t.1 m is in
          absurd (leads_number m (t ∷ f) leads
          (same_refl A.p _ _ (absent order (order_cmp_total A.order.rows) (order_cmp_tied A.order.rows) A.p m (t ∷ f) h above)))
      by Greater is =
          let nothing : only_at order t.1 m ≡ 0 = only_at-below order (order_cmp_total A.order.rows) (order_cmp_tied A.order.rows) A.p t.1 m is in
          absurd (NonZero-below A.p t.0 h.0 h.1
          (same_refl A.p _ _ (sym (lead_alone order (order_cmp_total A.order.rows) (order_cmp_tied A.order.rows) A.p t f h))
          ∙ leads.2 (only_at order t.1) (only_at-vanishes t.1 m (λ less. let no : Greater ≡ Less = sym is ∙ less in cc))
          ∙ same_refl A.p (leads.0 * only_at order t.1 m) 0 (omega (arith, ap (λ x. leads.0 * x) nothing))))

  -- all monomials of a polynomial behind its first are below it
  pub rest_below : (t : ℕ × Monomial) (f : Polynomial) → IsCanonical order A.p f → IsAbove order t.1 f → Each (λ u. order u.1 t.1 ≡ Less) f
  rest_below t f h above =
      Each-weaker _ _ (λ u is. turn_back order (order_cmp_total A.order.rows) (order_cmp_tied A.order.rows) A.p t.1 u.1 is) f
      (above_each A.p A.order t.1 f h above)

  -- a word's normal form leads with the word's monomial
  abbrev pub WordLeads : Word → Type 0
  WordLeads w = Leads (monomial_of A.order.vars w) (λ φ. word_weight A φ w)

  replaced_below : (u : Word) (j i : ℕ) (v : Word) (t : ℕ × Monomial) → IsSmall A i j t
      → order (monomial_of A.order.vars (u ++ (sorted_word t.1 ++ v))) (monomial_of A.order.vars (u ++ j ∷ i ∷ v)) ≡ Less
  replaced_below u j i v t small =
      ap (order (monomial_of A.order.vars (u ++ (sorted_word t.1 ++ v)))) (counts_from-swap 1 A.order.vars u j i v)
      ∙ order_cmp-inside A u (sorted_word t.1) (i ∷ j ∷ []) v
      ∙ ap (λ x. order x (monomial_of A.order.vars (i ∷ j ∷ []))) (monomial_of-sorted_word A.order.vars t.1 small.0)
      ∙ small.2

module _ (A : Algebra) (field : IsField A.p) (downward : RewritesDown A) (nonzero_numbers : HasNonzeroNumbers A) where
  sorted_leads : (w : Word) → leftmost_descent w ≡ None → WordLeads A w
  sorted_leads w e = (
    1,
    NonZero-below A.p 1 (omega arith) field.more,
    (λ φ van. same_refl A.p _ _ (ap (weigh φ) (normal_form-sorted A w e) ∙ omega arith)),
  )

  descent_leads : (u : Word) (j i : ℕ) (v : Word) → IsWord A.order.vars (u ++ j ∷ i ∷ v) → i < j → leftmost_descent (u ++ j ∷ i ∷ v) ≡ Some (descent u j i v)
      → WordLeads A (u ++ i ∷ j ∷ v) → Each (λ t. WordLeads A (u ++ (sorted_word t.1 ++ v))) (d_of A i j) → WordLeads A (u ++ j ∷ i ∷ v)
  descent_leads u j i v word falls e swapped replaced =
      let bounds : (1 ≤ i) × (j ≤ A.order.vars) = pair_bounds A.order.vars u j i v word in
      let m : Monomial = monomial_of A.order.vars (u ++ j ∷ i ∷ v) in
      let same : monomial_of A.order.vars (u ++ i ∷ j ∷ v) ≡ m = counts_from-swap 1 A.order.vars u i j v in (
        c_of A i j * swapped.0,
        NonZero-product A.p (c_of A i j) swapped.0 field (nonzero_numbers.nonzero i j bounds.0 falls bounds.1) swapped.1,
        (λ φ van.
            by_descent A downward φ u j i v word e
            ∙ same_lin A.p (c_of A i j) _ _ _ _
            (swapped.2 φ (λ x less. van x (ap (order A x) (sym same) ∙ less)))
            (weigh-vanishing A.p (λ x. word_weight A φ (u ++ (sorted_word x ++ v))) (d_of A i j)
            (Each-both _ _ _ (λ t leads small. lower_is_zero A _ m _ leads (replaced_below A u j i v t small) φ van)
            (d_of A i j) replaced (downward.small i j bounds.0 falls bounds.1)))
            ∙ same_refl A.p _ (c_of A i j * swapped.0 * φ m) (omega (arith, ap (λ x. c_of A i j * (swapped.0 * φ x)) same))),
      )

  -- each normal form leads with its word's monomial
  pub word_leads : (w : Word) → IsWord A.order.vars w → WordLeads A w
  word_leads w word =
      word_induction A downward (length w) (WordLeads A)
      (λ w word short e. sorted_leads w e)
      (λ u j i v word short falls e swapped replaced. descent_leads u j i v word falls e swapped replaced)
      w word (le_refl (length w))

  -- the normal form of two sorted words, one after the other, leads with the product of their monomials
  pub pair_leads : (a b : Monomial) → length a ≡ A.order.vars → length b ≡ A.order.vars
      → Leads A (plus a b) (λ φ. word_weight A φ (sorted_word a ++ sorted_word b))
  pair_leads a b ha hb =
      let w : Word = sorted_word a ++ sorted_word b in
      let is : monomial_of A.order.vars w ≡ plus a b =
      counts_from-append 1 A.order.vars (sorted_word a) (sorted_word b)
      ∙ (λ t. plus (monomial_of-sorted_word A.order.vars a ha t) (monomial_of-sorted_word A.order.vars b hb t)) in
      subst (λ m. Leads A m (λ φ. word_weight A φ w)) is
      (word_leads w (Each-append _ (sorted_word a) (sorted_word b) (IsWord-sorted_word A.order.vars a ha) (IsWord-sorted_word A.order.vars b hb)))

  -- multiplying by a monomial keeps the order, on either side
  lower_left : (a b c : Monomial) → length a ≡ A.order.vars → length b ≡ A.order.vars → length c ≡ A.order.vars
      → order A a b ≡ Less → order A (plus a c) (plus b c) ≡ Less
  lower_left a b c ha hb hc less = order_cmp-plus A.order.rows a b c (ha ∙ sym hc) (hb ∙ sym hc) ∙ less

  lower_right : (a b c : Monomial) → length a ≡ A.order.vars → length b ≡ A.order.vars → length c ≡ A.order.vars
      → order A b c ≡ Less → order A (plus a b) (plus a c) ≡ Less
  lower_right a b c ha hb hc less = (λ k. order A (plus-comm a b k) (plus-comm a c k)) ∙ lower_left b c a hb hc ha less

  -- the products of a monomial with the terms of a polynomial lead with that of the first term
  pub row_leads : (a : Monomial) (g : Polynomial) → length a ≡ A.order.vars → g ≢ [] → IsPolynomial A.p A.order g
      → Leads A (plus a (leading_monomial g)) (λ φ. row_weight A φ g a)
  row_leads a [] ha some hg = absurd (some refl)
  row_leads a (u ∷ g) ha some hg =
      let first : Leads A (plus a u.1) (λ φ. word_weight A φ (sorted_word a ++ sorted_word u.1)) = pair_leads a u.1 ha hg.vars.0 in (
        u.0 * first.0,
        NonZero-product A.p u.0 first.0 field (NonZero-below A.p u.0 hg.canonical.0 hg.canonical.1) first.1,
        (λ φ van.
            same_lin A.p u.0 _ _ _ _ (first.2 φ van)
            (weigh-vanishing A.p (λ b. word_weight A φ (sorted_word a ++ sorted_word b)) g
            (Each-both _ _ _ (λ t less len. lower_is_zero A _ (plus a u.1) _ (pair_leads a t.1 ha len) (lower_right a t.1 u.1 ha len hg.vars.0 less) φ van)
            g (rest_below A u g hg.canonical.3 hg.canonical.2) hg.vars.1))
            ∙ same_refl A.p _ (u.0 * first.0 * φ (plus a u.1)) (omega arith)),
      )

  -- a product of nonzero polynomials leads with the product of their leading monomials
  pub product_leads : (f g : Polynomial) → f ≢ [] → g ≢ [] → IsPolynomial A.p A.order f → IsPolynomial A.p A.order g
      → Leads A (plus (leading_monomial f) (leading_monomial g)) (λ φ. weigh φ (product A f g))
  product_leads [] g fs gs hf hg = absurd (fs refl)
  product_leads (t ∷ f) g fs gs hf hg =
      let first : Leads A (plus t.1 (leading_monomial g)) (λ φ. row_weight A φ g t.1) = row_leads t.1 g hf.vars.0 gs hg in
      let m : Monomial = plus t.1 (leading_monomial g) in (
        t.0 * first.0,
        NonZero-product A.p t.0 first.0 field (NonZero-below A.p t.0 hf.canonical.0 hf.canonical.1) first.1,
        (λ φ van.
            weigh-product A φ (t ∷ f) g
            ∙ same_lin A.p t.0 _ _ _ _ (first.2 φ van)
            (weigh-vanishing A.p (row_weight A φ g) f
            (Each-both _ _ _ (λ u less len. lower_is_zero A _ m _ (row_leads u.1 g len gs hg) (lower_left u.1 t.1 (leading_monomial g) len hf.vars.0 (length-leading_monomial g gs hg) less) φ van)
            f (rest_below A t f hf.canonical.3 hf.canonical.2) hf.vars.1))
            ∙ same_refl A.p _ (t.0 * first.0 * φ m) (omega arith)),
      )
    where
      length-leading_monomial : (g : Polynomial) → g ≢ [] → IsPolynomial A.p A.order g → length (leading_monomial g) ≡ A.order.vars
      length-leading_monomial [] gs hg = absurd (gs refl)
      length-leading_monomial (u ∷ g) gs hg = hg.vars.0

  -- a product of nonzero polynomials is not zero, and its leading monomial is the product of theirs
  pub leading_monomial-product : (f g : Polynomial) → f ≢ [] → g ≢ [] → IsPolynomial A.p A.order f → IsPolynomial A.p A.order g
      → (product A f g ≢ []) × (leading_monomial (product A f g) ≡ plus (leading_monomial f) (leading_monomial g))
  leading_monomial-product f g fs gs hf hg =
      leads_is A (plus (leading_monomial f) (leading_monomial g)) (product A f g)
      (product_is_polynomial A field.more f g).canonical (product_leads f g fs gs hf hg)
