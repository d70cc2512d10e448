-- Sums over the numbers below n, and what the terms of a sum weigh.
use Rattle.std.proofs.Common.{◌≡◌, ℕ, zero, suc, ◌+◌, ◌*◌, ◌%◌, ◌≤◌, [], ◌++◌, refl, sym, ap, ◌∙◌, arith}
use Rattle.monomials.specs.Polynomials.{cons_nonzero}
use Rattle.monomials.proofs.Modulo.{Same, same_refl, same_add, same_mul_right, same_rest}
use Rattle.monomials.proofs.Weights.{weigh, weigh-append, weigh-cons_nonzero}
use Rattle.closed_forms.specs.Forms.{Powers, Terms, sum_of_terms}

-- f 0 + f 1 + .. + f (n - 1)
abbrev pub sum_below : ℕ → (ℕ → ℕ) → ℕ
sum_below zero f = 0
sum_below (suc n) f = f 0 + sum_below n (λ k. f (suc k))

-- the last number of a sum apart
pub sum_below-last : (n : ℕ) (f : ℕ → ℕ) → sum_below (suc n) f ≡ sum_below n f + f n
sum_below-last zero f = omega arith
sum_below-last (suc n) f = omega (arith, sum_below-last n (λ k. f (suc k)))

-- sums of equal numbers
pub sum_below_equal : (n : ℕ) (f g : ℕ → ℕ) → ((k : ℕ) → f k ≡ g k) → sum_below n f ≡ sum_below n g
sum_below_equal zero f g e = refl
sum_below_equal (suc n) f g e = λ i. e 0 i + sum_below_equal n (λ k. f (suc k)) (λ k. g (suc k)) (λ k. e (suc k)) i

-- a sum of zeros
pub sum_below_none : (n : ℕ) (f : ℕ → ℕ) → ((k : ℕ) → f k ≡ 0) → sum_below n f ≡ 0
sum_below_none zero f e = refl
sum_below_none (suc n) f e = omega (arith, e 0, sum_below_none n (λ k. f (suc k)) (λ k. e (suc k)))

-- a sum whose later numbers are zero
pub sum_below-cut : (n m : ℕ) (f : ℕ → ℕ) → n ≤ m → ((k : ℕ) → n ≤ k → f k ≡ 0) → sum_below m f ≡ sum_below n f
sum_below-cut zero m f h e = sum_below_none m f (λ k. e k (omega arith))
sum_below-cut (suc n) zero f h e = absurd (omega arith)
sum_below-cut (suc n) (suc m) f h e = ap (λ x. f 0 + x) (sum_below-cut n m (λ k. f (suc k)) (omega arith) (λ k l. e (suc k) (omega arith)))

-- a multiple of one sum and a multiple of another, number by number
pub sum_below-lin : (c d n : ℕ) (f g : ℕ → ℕ) → sum_below n (λ k. c * f k + d * g k) ≡ c * sum_below n f + d * sum_below n g
sum_below-lin c d zero f g = omega arith
sum_below-lin c d (suc n) f g = omega (arith, sum_below-lin c d n (λ k. f (suc k)) (λ k. g (suc k)))

-- the weight of a sum of terms is the sum of number times weight
pub weigh-sum_of_terms : (p : ℕ) (φ : Powers → ℕ) (c : ℕ → ℕ) (at : ℕ → Powers) (n : ℕ)
    → Same p (weigh φ (sum_of_terms p c at n)) (sum_below n (λ k. c k * φ (at k)))
weigh-sum_of_terms p φ c at zero = refl
weigh-sum_of_terms p φ c at (suc n) =
    let last : weigh φ (cons_nonzero (c n % p) (at n) []) ≡ (c n % p) * φ (at n) = omega (arith, weigh-cons_nonzero φ (c n % p) (at n) []) in
    same_refl p _ _ (weigh-append φ (sum_of_terms p c at n) (cons_nonzero (c n % p) (at n) []) ∙ ap (λ x. weigh φ (sum_of_terms p c at n) + x) last)
    ∙ same_add p _ _ _ _ (weigh-sum_of_terms p φ c at n) (same_mul_right p (φ (at n)) _ _ (same_rest p (c n)))
    ∙ same_refl p _ _ (sym (sum_below-last n (λ k. c k * φ (at k))))

-- one term more
pub sum_of_terms_more : (p : ℕ) (c : ℕ → ℕ) (at : ℕ → Powers) (n x : ℕ) (m : Powers) (f g : Terms) → f ≡ sum_of_terms p c at n → x ≡ c n % p → m ≡ at n
    → g ≡ f ++ cons_nonzero x m [] → g ≡ sum_of_terms p c at (n + 1)
sum_of_terms_more p c at n x m f g whole number place more =
    let e : n + 1 ≡ suc n = omega arith in
    rw e (more ∙ (λ i. whole i ++ cons_nonzero (number i) (place i) []))

-- sums of the same numbers
pub sum_of_terms_alike : (p : ℕ) (c d : ℕ → ℕ) (at : ℕ → Powers) (n : ℕ) → ((k : ℕ) → Same p (c k) (d k)) → sum_of_terms p c at n ≡ sum_of_terms p d at n
sum_of_terms_alike p c d at zero e = refl
sum_of_terms_alike p c d at (suc n) e = λ i. sum_of_terms_alike p c d at n e i ++ cons_nonzero (e n i) (at n) []
