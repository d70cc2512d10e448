-- The relations of polynomial rings.
use Rattle.std.proofs.Common.{◌≡◌, ℕ, zero, suc, ◌+◌, ◌-◌, ◌*◌, ◌/◌, ◌<◌, ◌≤◌, [], ◌∷◌, ◌++◌, ◌==◌, nat_lt, get_or, slice_get, unwrap_or, replicate, None, Some, Option, if◌then◌else◌, refl, ap, ◌∙◌, arith}
use Rattle.monomials.specs.Polynomials.{Polynomial, Each, poly_degree}
use Rattle.word_model.specs.Words.{Algebra, pair_index, c_of, d_of, sorted_word, word_value}
use Rattle.word_model.specs.Conditions.{Fault, is_below, times_words, overlap, rest_fault, relations_fault}
use Rattle.word_model.specs.Conditions.Fault.{Coefficient, Profile}
use Rattle.word_model.proofs.Faults.{NoPairFault, NoTripleFault, relations_fault-none}
use Rattle.algebra.proofs.Pairs.{pair_index-below}

-- n (n - 1) is even
pub pairs_twice : (n : ℕ) → 2 * (n * (n - 1) / 2) ≡ n * (n - 1)
pairs_twice zero = refl
pairs_twice (suc m) =
    let less : suc m - 1 ≡ m = omega arith in
    let h : (q : ℕ) × (suc m * m ≡ 2 * q) = half m in
    let is : suc m * (suc m - 1) ≡ 2 * h.0 = ap (λ k. suc m * k) less ∙ h.1 in
    omega (arith, is)
  where
    half : (m : ℕ) → (q : ℕ) × (suc m * m ≡ 2 * q)
    half zero = (0, omega arith)
    half (suc m) = let h : (q : ℕ) × (suc m * m ≡ 2 * q) = half m in (h.0 + suc m, omega (arith, h.1))

-- what holds of an item holds of each of its copies
pub Each-replicate : {X : Type 0} (P : X → Type 0) (k : ℕ) (x : X) → P x → Each P (replicate k x)
Each-replicate P zero x h = tt
Each-replicate P (suc k) x h = (h, Each-replicate P k x h)

number_at : (k i : ℕ) → i < k → get_or (replicate {A = ℕ} k 1) i 0 ≡ 1
number_at zero i h = absurd (omega arith)
number_at (suc k) zero h = refl
number_at (suc k) (suc i) h = number_at k i (omega arith)

polynomial_at : (k i : ℕ) → unwrap_or (slice_get (replicate {A = Polynomial} k []) i) [] ≡ []
polynomial_at zero i = refl
polynomial_at (suc k) zero = refl
polynomial_at (suc k) (suc i) = polynomial_at k i

module _ (A : Algebra) (k : ℕ) (twice : 2 * k ≡ A.order.vars * (A.order.vars - 1)) (c_is : A.c ≡ replicate k 1) (d_is : A.d ≡ replicate k []) where
  d_of-zero : (i j : ℕ) → d_of A i j ≡ []
  d_of-zero i j = ap (λ d. unwrap_or (slice_get d (pair_index A.order.vars i j)) []) d_is ∙ polynomial_at k (pair_index A.order.vars i j)

  c_of-one : (i j : ℕ) → 1 ≤ i → i < j → j ≤ A.order.vars → c_of A i j ≡ 1
  c_of-one i j a b c = ap (λ l. get_or l (pair_index A.order.vars i j) 0) c_is ∙ number_at k (pair_index A.order.vars i j) (pair_index-below A.order.vars i j k a b c twice)

  no_pair : NoPairFault A
  no_pair i j a b c =
      let test : ℕ → Polynomial → Option Fault =
      λ (e : ℕ) (d : Polynomial). if e == 0 then Some (Coefficient i j) else (if nat_lt 2 (poly_degree d) then Some (Profile i j) else (if is_below A i j d then None else Some (Fault.Ordering i j))) in
      λ t. test (c_of-one i j a b c t) (d_of-zero i j t)

  no_triple : NoTripleFault A
  unfolding word_value
  no_triple i j l a b c d = ap (λ w. rest_fault i j l (word_value A w)) nothing
    where
      nothing : overlap A i j l ≡ []
      nothing t =
          times_words (c_of A i l * c_of A j l) (λ m. sorted_word m ++ l ∷ []) (d_of-zero i j t)
          ++ (times_words (A.p - 1) (λ m. l ∷ sorted_word m) (d_of-zero i j t)
          ++ (times_words (c_of A j l) (λ m. j ∷ sorted_word m) (d_of-zero i l t)
          ++ (times_words ((A.p - 1) * c_of A i j) (λ m. sorted_word m ++ j ∷ []) (d_of-zero i l t)
          ++ (times_words 1 (λ m. sorted_word m ++ i ∷ []) (d_of-zero j l t)
          ++ times_words ((A.p - 1) * (c_of A i j * c_of A i l)) (λ m. i ∷ sorted_word m) (d_of-zero j l t)))))

  -- the relations of a polynomial ring have no fault
  pub commuting_passed : relations_fault A ≡ None
  commuting_passed = relations_fault-none A no_pair no_triple
