-- The terms of closed forms: their order, and their numbers.
use Rattle.std.proofs.Common.{ℕ, zero, suc, ◌-◌, ◌*◌, ◌%◌, ◌^◌, ◌<◌, inl, inr, min, [], ◌∷◌, ◌++◌, refl, arith, mod-lt}
use Rattle.monomials.specs.Polynomials.{Each, cons_nonzero}
use Rattle.monomials.proofs.Insertion.{cons_nonzero_cases}
use Rattle.monomials.proofs.Keys.{Each-append}
use Rattle.closed_forms.specs.declared.PairKind.{PairKind}
use Rattle.closed_forms.specs.declared.PairKind.TheVariants.{Commuting, Quasi, Weyl, QWeyl, LeftLinear, RightLinear}
use Rattle.closed_forms.specs.Forms.{Powers, Terms, IsBefore, IsFalling, IsNumber, sum_of_terms, weyl_number, binomial_number, closed_form}

module _ (p : ℕ) (pos : 0 < p) where
  one_number : (c : ℕ) (m : Powers) → Each (IsNumber p) (cons_nonzero (c % p) m [])
  one_number c m = cons_nonzero_cases (Each (IsNumber p)) (c % p) m [] tt (λ more. ((more, mod-lt c pos), tt))

  -- the numbers of a sum of terms are not zero
  sum_numbers : (c : ℕ → ℕ) (at : ℕ → Powers) (n : ℕ) → Each (IsNumber p) (sum_of_terms p c at n)
  sum_numbers c at zero = tt
  sum_numbers c at (suc n) = Each-append (IsNumber p) (sum_of_terms p c at n) (cons_nonzero (c n % p) (at n) []) (sum_numbers c at n) (one_number (c n) (at n))

  pub closed_form_numbers : 1 < p → (kind : PairKind) (a b : ℕ) → Each (IsNumber p) (closed_form p kind a b)
  closed_form_numbers above_one Commuting a b = ((omega arith, above_one), tt)
  closed_form_numbers above_one (Quasi q) a b = one_number (q ^ (a * b)) (b, a)
  closed_form_numbers above_one (Weyl delta) a b = sum_numbers (weyl_number 1 delta a b) (λ k. (b - k, a - k)) (suc (min a b))
  closed_form_numbers above_one (QWeyl q delta) a b = sum_numbers (weyl_number q delta a b) (λ k. (b - k, a - k)) (suc (min a b))
  closed_form_numbers above_one (LeftLinear alpha) a b = sum_numbers (binomial_number (b * alpha) a) (λ k. (b, a - k)) (suc a)
  closed_form_numbers above_one (RightLinear beta) a b = sum_numbers (binomial_number (a * beta) b) (λ k. (b - k, a)) (suc b)

-- ---- order

module _ (p : ℕ) where
  -- what comes before m
  abbrev BeforeAll : Powers → Terms → Type 0
  BeforeAll m f = Each (λ t. IsBefore t.1 m) f

  falling_more : (f : Terms) (x : ℕ) (m : Powers) → IsFalling f → BeforeAll m f → IsFalling (f ++ cons_nonzero x m [])
  falling_more [] x m falls before = cons_nonzero_cases IsFalling x m [] tt (λ more. (tt, tt))
  falling_more (t ∷ f) x m falls before = (
    Each-append (λ u. IsBefore t.1 u.1) f (cons_nonzero x m []) falls.0 (cons_nonzero_cases (Each (λ u. IsBefore t.1 u.1)) x m [] tt (λ more. (before.0, tt))),
    falling_more f x m falls.1 before.1,
  )

  sum_before : (c : ℕ → ℕ) (at : ℕ → Powers) (n : ℕ) (m : Powers) → ((k : ℕ) → k < n → IsBefore (at k) m) → BeforeAll m (sum_of_terms p c at n)
  sum_before c at zero m h = tt
  sum_before c at (suc n) m h =
      Each-append (λ t. IsBefore t.1 m) (sum_of_terms p c at n) (cons_nonzero (c n % p) (at n) [])
      (sum_before c at n m (λ k l. h k (omega arith)))
      (cons_nonzero_cases (BeforeAll m) (c n % p) (at n) [] tt (λ more. (h n (omega arith), tt)))

  -- a sum whose places fall
  sum_falls : (c : ℕ → ℕ) (at : ℕ → Powers) (n : ℕ) → ((k l : ℕ) → k < l → l < n → IsBefore (at k) (at l)) → IsFalling (sum_of_terms p c at n)
  sum_falls c at zero h = tt
  sum_falls c at (suc n) h =
      falling_more (sum_of_terms p c at n) (c n % p) (at n)
      (sum_falls c at n (λ k l kl ln. h k l kl (omega arith)))
      (sum_before c at n (at n) (λ k kn. h k n kn (omega arith)))

  weyl_falls : (c : ℕ → ℕ) (a b : ℕ) → IsFalling (sum_of_terms p c (λ k. (b - k, a - k)) (suc (min a b)))
  weyl_falls c a b = sum_falls c (λ k. (b - k, a - k)) (suc (min a b)) (λ k l kl ln. inl (omega arith))

  pub closed_form_falls : (kind : PairKind) (a b : ℕ) → IsFalling (closed_form p kind a b)
  closed_form_falls Commuting a b = (tt, tt)
  closed_form_falls (Quasi q) a b = cons_nonzero_cases IsFalling (q ^ (a * b) % p) (b, a) [] tt (λ more. (tt, tt))
  closed_form_falls (Weyl delta) a b = weyl_falls (weyl_number 1 delta a b) a b
  closed_form_falls (QWeyl q delta) a b = weyl_falls (weyl_number q delta a b) a b
  closed_form_falls (LeftLinear alpha) a b = sum_falls (binomial_number (b * alpha) a) (λ k. (b, a - k)) (suc a) (λ k l kl ln. inr (refl, omega arith))
  closed_form_falls (RightLinear beta) a b = sum_falls (binomial_number (a * beta) b) (λ k. (b - k, a)) (suc b) (λ k l kl ln. inl (omega arith))
