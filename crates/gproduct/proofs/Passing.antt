-- A word in which no letter crosses one that it does not commute with is its monomial.
use Rattle.std.proofs.Common.{◌≡◌, ℕ, zero, suc, ◌+◌, ◌-◌, ◌*◌, ◌<◌, ◌≤◌, ◌⊎◌, inl, inr, List, [], ◌∷◌, ◌++◌, length, replicate, map, get_or, None, Some, refl, ap, ◌∙◌, subst, arith, le_refl}
use Rattle.std.specs.List.{Contains}
use Rattle.monomials.specs.Monomials.{Monomial, plus}
use Rattle.monomials.specs.Polynomials.{Each}
use Rattle.monomials.proofs.Modulo.{Same, same_refl}
use Rattle.monomials.proofs.Weights.{weigh}
use Rattle.monomials.proofs.Keys.{Each-append, Each-weaker}
use Rattle.word_model.specs.Words.{Algebra, Word, IsWord, monomial_of, word_from, sorted_word, leftmost_descent, c_of, d_of, RewritesDown}
use Rattle.word_model.proofs.Letters.{counts_from-append, counts_from-swap, monomial_of-sorted_word, IsWord-sorted_word}
use Rattle.word_model.proofs.Descents.{descent, rising, leftmost_descent-sorted_word}
use Rattle.word_model.proofs.Induction.{word_induction}
use Rattle.word_model.proofs.Termination.{normal_form-sorted}
use Rattle.word_model.proofs.NormalForms.{word_weight, word_weight-descent}
use Rattle.gproduct.specs.declared.pairs.Pair.{Pair}
use Rattle.gproduct.specs.Inside.Passing.{IsCommuting, Passes, HasNoncommuting, IsFree}

module _ (A : Algebra) where
  -- x_j commutes with x_i, or stands in order before it
  abbrev PassesLetter : ℕ → ℕ → Type 0
  PassesLetter j i = i < j → IsCommuting A i j

  -- each letter of a word passes those behind it
  abbrev AllPass : Word → Type 0
  AllPass [] = Unit {0}
  AllPass (j ∷ w) = Each (PassesLetter j) w × AllPass w

  AllPass-append : (u w : Word) → AllPass u → AllPass w → Each (λ j. Each (PassesLetter j) w) u → AllPass (u ++ w)
  AllPass-append [] w hu hw both = hw
  AllPass-append (j ∷ u) w hu hw both = (Each-append _ u w hu.0 both.0, AllPass-append u w hu.1 hw both.1)

  -- the two letters of a pair commute
  of_pair : (u : Word) (j i : ℕ) (v : Word) → AllPass (u ++ j ∷ i ∷ v) → PassesLetter j i
  of_pair [] j i v h = h.0.0
  of_pair (x ∷ u) j i v h = of_pair u j i v h.1

  Each-swapped : (P : ℕ → Type 0) (u : Word) (j i : ℕ) (v : Word) → Each P (u ++ j ∷ i ∷ v) → Each P (u ++ i ∷ j ∷ v)
  Each-swapped P [] j i v h = (h.1.0, (h.0, h.1.1))
  Each-swapped P (x ∷ u) j i v h = (h.0, Each-swapped P u j i v h.1)

  -- and when they are swapped, all still pass
  AllPass-swapped : (u : Word) (j i : ℕ) (v : Word) → i < j → AllPass (u ++ j ∷ i ∷ v) → AllPass (u ++ i ∷ j ∷ v)
  AllPass-swapped [] j i v falls h = (((λ above. absurd (omega arith)), h.1.0), (h.0.1, h.1.1))
  AllPass-swapped (x ∷ u) j i v falls h = (Each-swapped (PassesLetter x) u j i v h.0, AllPass-swapped u j i v falls h.1)

  -- in a sorted word no letter crosses another
  AllPass-sorted : (w : Word) → leftmost_descent w ≡ None → AllPass w
  AllPass-sorted [] e = tt
  AllPass-sorted (x ∷ w) e =
      let rises : Each (λ y. x ≤ y) w × (leftmost_descent w ≡ None) = rising x w e in
      (Each-weaker _ _ (λ y le less. absurd (omega arith)) w rises.0, AllPass-sorted w rises.1)

  -- ---- the weight

  module _ (downward : RewritesDown A) (φ : Monomial → ℕ) where
    -- the word weighs as much as its monomial
    abbrev IsPassed : Word → Type 0
    IsPassed w = AllPass w → Same A.p (word_weight A φ w) (φ (monomial_of A.order.vars w))

    sorted_passed : (w : Word) → leftmost_descent w ≡ None → IsPassed w
    sorted_passed w e pass = same_refl A.p _ _ (ap (weigh φ) (normal_form-sorted A w e) ∙ omega arith)

    -- where the pair commutes nothing but the swapped word comes of it
    one_left : (c : ℕ) (d : List (ℕ × Monomial)) (s : Word) (rest : ℕ × Monomial → ℕ × Word) → c ≡ 1 → d ≡ []
        → weigh (word_weight A φ) ((c, s) ∷ map rest d) ≡ word_weight A φ s
    one_left c d s rest c_is d_is = (λ n. c_is n * word_weight A φ s + weigh (word_weight A φ) (map rest (d_is n))) ∙ omega arith

    descent_passed : (u : Word) (j i : ℕ) (v : Word) → IsWord A.order.vars (u ++ j ∷ i ∷ v) → i < j
        → leftmost_descent (u ++ j ∷ i ∷ v) ≡ Some (descent u j i v) → IsPassed (u ++ i ∷ j ∷ v) → IsPassed (u ++ j ∷ i ∷ v)
    descent_passed u j i v word falls e swapped pass =
        let commuting : IsCommuting A i j = of_pair u j i v pass falls in
        word_weight-descent A φ downward (u ++ j ∷ i ∷ v) (descent u j i v) word e
        ∙ same_refl A.p _ _ (one_left (c_of A i j) (d_of A i j) (u ++ i ∷ j ∷ v) (λ t. (t.0, u ++ (sorted_word t.1 ++ v))) commuting.number commuting.polynomial)
        ∙ swapped (AllPass-swapped u j i v falls pass)
        ∙ same_refl A.p _ _ (ap φ (counts_from-swap 1 A.order.vars u i j v))

    all_passed : (w : Word) → IsWord A.order.vars w → IsPassed w
    all_passed w word =
        word_induction A downward (length w) IsPassed
        (λ w own len e. sorted_passed w e)
        (λ u j i v own len falls e swapped replaced. descent_passed u j i v own falls e swapped)
        w word (le_refl _)

  -- ---- two monomials

  -- a letter of a sorted word has an exponent
  letters_of : (i : ℕ) (m : Monomial) → Each (λ v. (i ≤ v) × (0 < get_or m (v - i) 0)) (word_from i m)
  letters_of i [] = tt
  letters_of i (e ∷ m) =
      Each-append _ (replicate e i) (word_from (suc i) m) (powers e e (omega arith))
      (Each-weaker _ _ (λ v h. behind v h) (word_from (suc i) m) (letters_of (suc i) m))
    where
      powers : (k all : ℕ) → k ≤ all → Each (λ v. (i ≤ v) × (0 < get_or (all ∷ m) (v - i) 0)) (replicate k i)
      powers zero all le = tt
      powers (suc k) all le =
          let none : i - i ≡ 0 = omega arith in
          ((le_refl i, rw none (omega arith)), powers k all (omega arith))

      behind : (v : ℕ) → (suc i ≤ v) × (0 < get_or m (v - suc i) 0) → (i ≤ v) × (0 < get_or (e ∷ m) (v - i) 0)
      behind v h =
          let next : v - i ≡ suc (v - suc i) = omega (arith, h.0) in
          (omega (arith, h.0), rw next h.1)

  -- the letters of m pass those of k
  pairs_pass : (m k : Monomial) → length m ≡ A.order.vars → Passes A m k → Each (λ j. Each (PassesLetter j) (sorted_word k)) (sorted_word m)
  pairs_pass m k vars pass =
      Each-weaker _ _ (λ j high. Each-weaker _ _ (λ i low below. pass i j low.0 below high.1 high.0.1 low.1) (sorted_word k) (letters_of 1 k))
      (sorted_word m) (both (sorted_word m) (letters_of 1 m) (subst (λ n. IsWord n (sorted_word m)) vars (IsWord-sorted_word (length m) m refl)))
    where
      both : (w : Word) → Each (λ v. (1 ≤ v) × (0 < get_or m (v - 1) 0)) w → IsWord A.order.vars w → Each (λ v. ((1 ≤ v) × (0 < get_or m (v - 1) 0)) × (v ≤ A.order.vars)) w
      both [] h word = tt
      both (v ∷ w) h word = ((h.0, word.0.1), both w h.1 word.1)

  -- where they do, the product of the two weighs as their sum
  pub passed_weight : RewritesDown A → (φ : Monomial → ℕ) (m k : Monomial) → length m ≡ A.order.vars → length k ≡ A.order.vars → Passes A m k
      → Same A.p (word_weight A φ (sorted_word m ++ sorted_word k)) (φ (plus m k))
  passed_weight downward φ m k m_vars k_vars pass =
      let n : ℕ = A.order.vars in
      let word : IsWord n (sorted_word m ++ sorted_word k) = Each-append _ (sorted_word m) (sorted_word k) (IsWord-sorted_word n m m_vars) (IsWord-sorted_word n k k_vars) in
      all_passed downward φ (sorted_word m ++ sorted_word k) word
      (AllPass-append (sorted_word m) (sorted_word k) (AllPass-sorted (sorted_word m) (leftmost_descent-sorted_word m))
      (AllPass-sorted (sorted_word k) (leftmost_descent-sorted_word k)) (pairs_pass m k m_vars pass))
      ∙ same_refl A.p _ _
      (ap φ (counts_from-append 1 n (sorted_word m) (sorted_word k) ∙ (λ t. plus (monomial_of-sorted_word n m m_vars t) (monomial_of-sorted_word n k k_vars t))))

-- ---- pairs in a list

-- what holds of all items holds of one that is there
pub at_contained : {X : Type 0} (P : X → Type 0) (xs : List X) (x : X) → Each P xs → Contains xs x → P x
at_contained P [] x h there = absurd (omega (arith, there.1))
at_contained P (y ∷ xs) x h there = by there.0 there.1 there.2 (λ k less is. at_contained P xs x h.1 (k, less, is))
  where
    by : (k : ℕ) → k < suc (length xs) → get_or (y ∷ xs) k x ≡ x → ((k : ℕ) → k < length xs → get_or xs k x ≡ x → P x) → P x
    by zero less is behind = subst P is h.0
    by (suc k) less is behind = behind k (omega arith) is

-- one monomial passes another where no pair that doesn't commute is in them
pub passes_free : (A : Algebra) (pairs : List Pair) (m k : Monomial) → HasNoncommuting A pairs → Each (IsFree m k) pairs → Passes A m k
passes_free A pairs m k h free i j low falls high has_j has_i = by (h.all i j low falls high)
  where
    by : IsCommuting A i j ⊎ Contains pairs (record { i = i; j = j }) → IsCommuting A i j
    by (inl commuting) = commuting
    by (inr there) = absurd (at_contained (IsFree m k) pairs (record { i = i; j = j }) free there has_j has_i)
