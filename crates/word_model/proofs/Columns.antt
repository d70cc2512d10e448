-- A sum of multiples of rows is a left combination of them, entry by entry, with one row of polynomials for all.
use Rattle.std.proofs.Common.{◌≡◌, ℕ, zero, suc, ◌+◌, ◌-◌, ◌*◌, ◌<◌, ◌≤◌, Bool, true, false, cond, nat_eq, nat_le, List, [], ◌∷◌, ◌++◌, length, slice_index_or, refl, sym, ap, ◌∙◌, arith}
use Rattle.std.proofs.lemmas.Bool.Decides.{nat_tests}
use Rattle.monomials.specs.Monomials.{Monomial}
use Rattle.monomials.specs.Polynomials.{Polynomial, Each, IsPolynomial}
use Rattle.monomials.proofs.Modulo.{same_refl}
use Rattle.monomials.proofs.Weights.{weigh, weigh_alike_on}
use Rattle.monomials.proofs.Keys.{Each-weaker}
use Rattle.word_model.specs.Words.{Algebra, sorted_word, normal_form}
use Rattle.word_model.specs.Conditions.{IsGAlgebra}
use Rattle.word_model.specs.Reduction.{element}
use Rattle.word_model.specs.Cofactors.{Row, row_value, row_at}
use Rattle.word_model.specs.Syzygies.{column, IsRowCombination}
use Rattle.word_model.proofs.NormalForms.{same_weights}
use Rattle.word_model.proofs.LeastNumbers.{Each-element}
use Rattle.word_model.proofs.MultipleWeights.{behind, Multiple, multiple_weight}
use Rattle.word_model.proofs.Spans.{IsMultiple}
use Rattle.word_model.proofs.Combinations.{collected, collected-same, length-collected, collected-are, row_value-is, weigh-collected_all}
use Rattle.word_model.proofs.RowTests.{Tests, see, behind_all}
use Rattle.word_model.proofs.RowFrames.{row_mul, IsRowMultiple, IsRowSum}

-- ---- columns

pub length-column : (Z : List Row) (s : ℕ) → length (column Z s) ≡ length Z
length-column [] s = refl
length-column (row ∷ Z) s = ap suc (length-column Z s)

column-at : (Z : List Row) (s k : ℕ) → k < length Z → slice_index_or (column Z s) k [] ≡ element (slice_index_or Z k []) s
column-at [] s k below = absurd (omega arith)
column-at (row ∷ Z) s zero below = refl
column-at (row ∷ Z) s (suc k) below = column-at Z s k (omega arith)

-- ---- tests that see one entry

-- the weight φ at place s alone
abbrev only : ℕ → (Monomial → ℕ) → Tests
only s φ k m = cond (nat_eq k s) (φ m) 0

only-same : (s : ℕ) (φ : Monomial → ℕ) → only s φ s ≡ φ
only-same s φ = let t : nat_eq s s ≡ true = grind (arith, nat_tests) in λ i m. cond (t i) (φ m) 0

-- Φ sees nothing but place s
abbrev SeesOnly : Tests → ℕ → Type 0
SeesOnly Φ s = (k : ℕ) (f : Polynomial) → nat_eq k s ≡ false → weigh (Φ k) f ≡ 0

weigh-none : (w : Monomial → ℕ) → ((m : Monomial) → w m ≡ 0) → (f : Polynomial) → weigh w f ≡ 0
weigh-none w h [] = refl
weigh-none w h (t ∷ f) = omega (arith, ap (λ x. t.0 * x) (h t.1), weigh-none w h f)

only-other : (s : ℕ) (φ : Monomial → ℕ) → SeesOnly (only s φ) s
only-other s φ k f e = weigh-none (only s φ k) (λ m. ap (λ b. cond b (φ m) 0) e) f

behind_only-other : (A : Algebra) (u : Monomial) (s : ℕ) (φ : Monomial → ℕ) → SeesOnly (behind_all A u (only s φ)) s
behind_only-other A u s φ k f e = weigh-none (behind_all A u (only s φ) k) (λ m. only-other s φ k (normal_form A (sorted_word u ++ sorted_word m)) e) f

-- what such tests see of a row whose first place is that of number k
see-only : (Φ : Tests) (s : ℕ) → SeesOnly Φ s → (k : ℕ) (r : Row) → see Φ k r ≡ cond (nat_le k s) (weigh (Φ s) (slice_index_or r (s - k) [])) 0
see-only Φ s none k [] = by (nat_le k s)
  where
    by : (b : Bool) → ◌≡◌ {A = ℕ} 0 (cond b 0 0)
    by true = refl
    by false = refl
see-only Φ s none k (q ∷ r) = by (nat_eq k s) refl (nat_le k s) refl (nat_le (suc k) s) refl (see-only Φ s none (suc k) r)
  where
    by : (b : Bool) → nat_eq k s ≡ b → (c : Bool) → nat_le k s ≡ c → (d : Bool) → nat_le (suc k) s ≡ d → see Φ (suc k) r ≡ cond d (weigh (Φ s) (slice_index_or r (s - suc k) [])) 0
        → weigh (Φ k) q + see Φ (suc k) r ≡ cond c (weigh (Φ s) (slice_index_or (q ∷ r) (s - k) [])) 0
    by true b true c true d ih = absurd (grind (arith, nat_tests, b, d))
    by true b true c false d ih =
        let e : k ≡ s = grind (arith, nat_tests, b) in
        let z : s - k ≡ 0 = omega (arith, e) in
        omega (arith, ih, ap (λ n. weigh (Φ s) (slice_index_or (q ∷ r) n [])) z, ap (λ n. weigh (Φ n) q) e)
    by true b false c d dd ih = absurd (grind (arith, nat_tests, b, c))
    by false b true c true d ih =
        let l : suc k ≤ s = grind (arith, nat_tests, d) in
        let z : s - k ≡ suc (s - suc k) = omega (arith, l) in
        omega (arith, ih, none k q b, ap (λ n. weigh (Φ s) (slice_index_or (q ∷ r) n [])) z)
    by false b true c false d ih = absurd (grind (arith, nat_tests, b, c, d))
    by false b false c true d ih = absurd (grind (arith, nat_tests, c, d))
    by false b false c false d ih = omega (arith, ih, none k q b)

-- of a whole row they see the entry of number s
reads : (Φ : Tests) (s : ℕ) → 1 ≤ s → SeesOnly Φ s → (r : Row) → see Φ 1 r ≡ weigh (Φ s) (element r s)
reads Φ s low none r = let t : nat_le 1 s ≡ true = grind (arith, nat_tests, low) in see-only Φ s none 1 r ∙ ap (λ b. cond b (weigh (Φ s) (element r s)) 0) t

-- ---- combinations

module _ (A : Algebra) (ok : IsGAlgebra A) (Z : List Row) where
  -- a multiple of a row, seen at place s
  at_place : (s : ℕ) → 1 ≤ s → (φ : Monomial → ℕ) (k : Multiple) → IsRowMultiple A Z k → row_mul A Z (only s φ) k ≡ multiple_weight A (column Z s) φ k
  at_place s low φ k h =
      reads (behind_all A k.0 (only s φ)) s low (behind_only-other A k.0 s φ) (row_at Z k.1)
      ∙ ap (λ w. weigh (behind A k.0 w) (element (row_at Z k.1) s)) (only-same s φ)
      ∙ ap (weigh (behind A k.0 φ)) (sym (column-at Z s (k.1 - 1) (below (length Z) k.1 h.1 h.2)))
    where
      below : (n i : ℕ) → 1 ≤ i → i ≤ n → i - 1 < n
      below n i a b = omega arith

  named : (s : ℕ) (k : Multiple) → IsRowMultiple A Z k → IsMultiple A (column Z s) k
  named s k h = (h.0, (h.1, omega (arith, h.2, length-column Z s)))

  pub row_sum-combination : (q : Row) → Each (IsPolynomial A.p A.order) q → IsRowSum A Z (λ Φ. see Φ 1 q) → IsRowCombination A Z q
  row_sum-combination q q_is sum = (
    collected A ok 1 sum.terms (column Z 0),
    length-collected A ok 1 sum.terms (column Z 0) ∙ length-column Z 0,
    collected-are A ok 1 sum.terms (column Z 0) (Each-weaker _ _ (λ e h. h.0) sum.terms sum.each),
    (λ s low high.
        ap (λ x. row_value A x (column Z s)) (collected-same A ok 1 sum.terms (column Z 0) (column Z s) (length-column Z 0 ∙ sym (length-column Z s)))
        ∙ same_weights A (row_value A (collected A ok 1 sum.terms (column Z s)) (column Z s)) (element q s) (row_value-is A ok (collected A ok 1 sum.terms (column Z s)) (column Z s))
        (Each-element (IsPolynomial A.p A.order) q s q_is low high)
        (λ φ.
        weigh-collected_all A ok φ (column Z s) sum.terms (Each-weaker _ _ (λ e h. named s e.1 h) sum.terms sum.each)
        ∙ sym (weigh_alike_on A.p (row_mul A Z (only s φ)) (multiple_weight A (column Z s) φ) sum.terms
        (Each-weaker _ _ (λ e h. same_refl A.p _ _ (at_place s low φ e.1 h)) sum.terms sum.each))
        ∙ sym (sum.value (only s φ))
        ∙ same_refl A.p _ _ (reads (only s φ) s low (only-other s φ) q ∙ ap (λ w. weigh w (element q s)) (only-same s φ)))),
  )
