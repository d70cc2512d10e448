-- The terms of closed forms: their exponents, and what they are in an algebra.
use Rattle.std.proofs.Common.{◌≡◌, ℕ, zero, suc, ◌+◌, ◌-◌, ◌*◌, ◌%◌, ◌^◌, ◌<◌, ◌≤◌, min, List, [], ◌∷◌, ◌++◌, map, replicate, refl, ap, arith, mod-eq_of_lt}
use Rattle.monomials.specs.Monomials.{degree}
use Rattle.monomials.specs.Polynomials.{Each, HasNumbers, HasVars, cons_nonzero}
use Rattle.monomials.proofs.Insertion.{cons_nonzero_cases}
use Rattle.monomials.proofs.Keys.{Each-append, Each-weaker}
use Rattle.word_model.specs.Words.{Algebra, monomial_of}
use Rattle.word_model.proofs.Letters.{Each-map, length-counts_from}
use Rattle.closed_forms.specs.declared.PairKind.{PairKind}
use Rattle.closed_forms.specs.declared.PairKind.TheVariants.{Commuting, Quasi, Weyl, QWeyl, LeftLinear, RightLinear}
use Rattle.closed_forms.specs.declared.Term2.{Term2}
use Rattle.closed_forms.specs.Forms.{pairs_of as powers_of, Powers, Terms, IsNumber, sum_of_terms, weyl_number, binomial_number, closed_form, in_algebra}
use Rattle.gproduct.proofs.TwoPowers.{degree-powers}

-- ---- exponents

-- the exponents are at most b and a
abbrev pub IsUpTo : ℕ → ℕ → ℕ × Powers → Type 0
IsUpTo a b t = (t.1.0 ≤ b) × (t.1.1 ≤ a)

module _ (p a b : ℕ) where
  one_up_to : (c x y : ℕ) → x ≤ b → y ≤ a → Each (IsUpTo a b) (cons_nonzero c (x, y) [])
  one_up_to c x y hx hy = cons_nonzero_cases (Each (IsUpTo a b)) c (x, y) [] tt (λ more. ((hx, hy), tt))

  sum_up_to : (c x y : ℕ → ℕ) (n : ℕ) → ((k : ℕ) → x k ≤ b) → ((k : ℕ) → y k ≤ a) → Each (IsUpTo a b) (sum_of_terms p c (λ k. (x k, y k)) n)
  sum_up_to c x y zero hx hy = tt
  sum_up_to c x y (suc n) hx hy =
      Each-append (IsUpTo a b) (sum_of_terms p c (λ k. (x k, y k)) n) (cons_nonzero (c n % p) (x n, y n) []) (sum_up_to c x y n hx hy)
      (one_up_to (c n % p) (x n) (y n) (hx n) (hy n))

  -- no exponent of a closed form is above that of the product
  pub closed_form_up_to : (kind : PairKind) → Each (IsUpTo a b) (closed_form p kind a b)
  closed_form_up_to Commuting = ((omega arith, omega arith), tt)
  closed_form_up_to (Quasi q) = one_up_to (q ^ (a * b) % p) b a (omega arith) (omega arith)
  closed_form_up_to (Weyl delta) = sum_up_to (weyl_number 1 delta a b) (λ k. b - k) (λ k. a - k) (suc (min a b)) (λ k. omega arith) (λ k. omega arith)
  closed_form_up_to (QWeyl q delta) = sum_up_to (weyl_number q delta a b) (λ k. b - k) (λ k. a - k) (suc (min a b)) (λ k. omega arith) (λ k. omega arith)
  closed_form_up_to (LeftLinear alpha) = sum_up_to (binomial_number (b * alpha) a) (λ k. b) (λ k. a - k) (suc a) (λ k. omega arith) (λ k. omega arith)
  closed_form_up_to (RightLinear beta) = sum_up_to (binomial_number (a * beta) b) (λ k. b - k) (λ k. a) (suc b) (λ k. omega arith) (λ k. omega arith)

-- ---- in an algebra

module _ (n i j : ℕ) where
  -- a term in x_i and x_j, in n variables
  abbrev pub in_variables : ℕ × Powers → ℕ × List ℕ
  in_variables t = (t.0, monomial_of n (replicate t.1.0 i ++ replicate t.1.1 j))

  pub numbers_in : (p : ℕ) (f : Terms) → Each (IsNumber p) f → HasNumbers p (map in_variables f)
  numbers_in p f h = Each-map _ in_variables f (Each-weaker _ _ (λ t number. number.1) f h)

  pub vars_in : (f : Terms) → HasVars n (map in_variables f)
  vars_in [] = tt
  vars_in (t ∷ f) = (length-counts_from 1 n (replicate t.1.0 i ++ replicate t.1.1 j), vars_in f)

  pub small_in : 1 ≤ i → i < j → j ≤ n → (a b : ℕ) → a + b ≤ 4095 → (f : Terms) → Each (IsUpTo a b) f → Each (λ t. degree t.1 ≤ 4095) (map in_variables f)
  small_in low ij high a b reach f h =
      Each-map _ in_variables f
      (Each-weaker _ _ (λ t up_to. omega (arith, degree-powers i j t.1.0 t.1.1 low ij n high, up_to.0, up_to.1)) f h)

-- terms of the program whose exponents are up to b and a
pub small_powers : (a b : ℕ) → a + b ≤ 4095 → (ts : List Term2) → Each (IsUpTo a b) (powers_of ts) → Each (λ t. t.x + t.y ≤ 4095) ts
small_powers a b reach [] h = tt
small_powers a b reach (t ∷ ts) h = (omega (arith, h.0.0, h.0.1), small_powers a b reach ts h.1)

-- one term, in an algebra
pub in_algebra-one : (A : Algebra) (i j x y c : ℕ) → c < A.p
    → in_algebra A i j (cons_nonzero c (x, y) []) ≡ cons_nonzero c (monomial_of A.order.vars (replicate x i ++ replicate y j)) []
in_algebra-one A i j x y zero less = refl
in_algebra-one A i j x y (suc c) less = ap (λ r. cons_nonzero r (monomial_of A.order.vars (replicate x i ++ replicate y j)) []) (mod-eq_of_lt less)
