-- The least number that meets a test, and the first element whose leading monomial divides a monomial.
use Rattle.std.proofs.Common.{◌≡◌, ◌≢◌, ℕ, zero, suc, ◌+◌, ◌-◌, ◌<◌, ◌≤◌, ◌⊎◌, inl, inr, Bool, true, false, List, [], ◌∷◌, length, Some, None, if◌then◌else◌, slice_index_or, refl, sym, ap, ◌∙◌, subst, arith, le_refl}
use Rattle.monomials.specs.Monomials.{Monomial, divides}
use Rattle.monomials.specs.Polynomials.{Polynomial, Each}
use Rattle.monomials.specs.Leading.{leading_monomial}
use Rattle.word_model.specs.Reduction.{element, least_number, lead_divides, first_divisor}

-- a number from i on is i or a later one
pub here_or_later : (i x : ℕ) → i ≤ x → (i ≡ x) ⊎ (suc i ≤ x)
here_or_later i x h = grind arith

module _ (test : ℕ → Bool) where
  -- j is the least of the k numbers from i on that meets the test
  pub record IsLeast (i k j : ℕ) : Type 0 where
    pub low : i ≤ j
    pub high : j < i + k
    pub meets : test j ≡ true
    pub before : (x : ℕ) → i ≤ x → x < j → test x ≡ false

  -- a number that is found is the least
  pub least_number-found : (i k j : ℕ) → least_number test i k ≡ Some j → IsLeast i k j
  least_number-found i zero j e = cc
  least_number-found i (suc k) j e = by (test i) refl e (least_number-found (suc i) k j)
    where
      by : (b : Bool) → test i ≡ b → (if b then Some i else least_number test (suc i) k) ≡ Some j
          → (least_number test (suc i) k ≡ Some j → IsLeast (suc i) k j) → IsLeast i (suc k) j
      by true t e ih =
          let same : i ≡ j = cc in
          subst (IsLeast i (suc k)) same (record { low = le_refl i; high = omega arith; meets = t; before = λ x low high. absurd (omega arith) })
      by false t e ih =
          let later : IsLeast (suc i) k j = ih e in
          record {
            low = omega (arith, later.low);
            high = omega (arith, later.high);
            meets = later.meets;
            before = λ x low high. earlier later x high (here_or_later i x low);
          }
        where
          earlier : IsLeast (suc i) k j → (x : ℕ) → x < j → (i ≡ x) ⊎ (suc i ≤ x) → test x ≡ false
          earlier later x high (inl here) = ap test (sym here) ∙ t
          earlier later x high (inr low) = later.before x low high

  -- where none is found, none meets the test
  pub least_number-none : (i k : ℕ) → least_number test i k ≡ None → (x : ℕ) → i ≤ x → x < i + k → test x ≡ false
  least_number-none i zero e x low high = absurd (omega arith)
  least_number-none i (suc k) e x low high = by (test i) refl e (least_number-none (suc i) k) (here_or_later i x low)
    where
      by : (b : Bool) → test i ≡ b → (if b then Some i else least_number test (suc i) k) ≡ None
          → (least_number test (suc i) k ≡ None → (x : ℕ) → suc i ≤ x → x < suc i + k → test x ≡ false) → (i ≡ x) ⊎ (suc i ≤ x) → test x ≡ false
      by true t e ih place = cc
      by false t e ih (inl here) = ap test (sym here) ∙ t
      by false t e ih (inr later) = ih e x later (omega arith)

  -- the least is found
  pub least_number-is : (i k j : ℕ) → IsLeast i k j → least_number test i k ≡ Some j
  least_number-is i zero j is = absurd (omega (arith, is.low, is.high))
  least_number-is i (suc k) j is = by (test i) refl (here_or_later i j is.low) (least_number-is (suc i) k j)
    where
      by : (b : Bool) → test i ≡ b → (i ≡ j) ⊎ (suc i ≤ j) → (IsLeast (suc i) k j → least_number test (suc i) k ≡ Some j)
          → (if b then Some i else least_number test (suc i) k) ≡ Some j
      by true t (inl here) ih = ap Some here
      by true t (inr later) ih = absurd (let no : true ≡ false = sym t ∙ is.before i (le_refl i) later in cc)
      by false t (inl here) ih = absurd (let no : false ≡ true = sym t ∙ ap test here ∙ is.meets in cc)
      by false t (inr later) ih =
          ih (record { low = later; high = omega (arith, is.high); meets = is.meets; before = λ x low high. is.before x (omega arith) high })

  -- where none meets the test, none is found
  pub least_number-absent : (i k : ℕ) → ((x : ℕ) → i ≤ x → x < i + k → test x ≡ false) → least_number test i k ≡ None
  least_number-absent i zero none = refl
  least_number-absent i (suc k) none = by (test i) (none i (le_refl i) (omega arith)) (least_number-absent (suc i) k (λ x low high. none x (omega arith) (omega arith)))
    where
      by : (b : Bool) → b ≡ false → least_number test (suc i) k ≡ None → (if b then Some i else least_number test (suc i) k) ≡ None
      by true t ih = cc
      by false t ih = ih

-- ---- elements, by their numbers

-- what holds of each polynomial of a list holds of that at a place
Each-slice_index_or : (P : Polynomial → Type 0) (G : List Polynomial) (k : ℕ) → Each P G → k < length G → P (slice_index_or G k [])
Each-slice_index_or P [] k h below = absurd (omega arith)
Each-slice_index_or P (g ∷ G) zero h below = h.0
Each-slice_index_or P (g ∷ G) (suc k) h below = Each-slice_index_or P G k h.1 (omega arith)

-- what holds of each element holds of that of number i
pub Each-element : (P : Polynomial → Type 0) (G : List Polynomial) (i : ℕ) → Each P G → 1 ≤ i → i ≤ length G → P (element G i)
Each-element P G i h low high = Each-slice_index_or P G (i - 1) h (omega arith)

-- a polynomial whose leading monomial divides something is not zero
pub lead_divides-nonzero : (g : Polynomial) (m : Monomial) → lead_divides g m ≡ true → g ≢ []
lead_divides-nonzero [] m e = cc
lead_divides-nonzero (t ∷ g) m e = λ no. cc

-- and its leading monomial divides it
pub lead_divides-divides : (g : Polynomial) (m : Monomial) → lead_divides g m ≡ true → divides (leading_monomial g) m ≡ true
lead_divides-divides [] m e = cc
lead_divides-divides (t ∷ g) m e = e

-- the element of number i is the first whose leading monomial divides m
pub record IsFirstDivisor (G : List Polynomial) (m : Monomial) (i : ℕ) : Type 0 where
  pub low : 1 ≤ i
  pub high : i ≤ length G
  pub nonzero : element G i ≢ []
  pub divides_it : divides (leading_monomial (element G i)) m ≡ true
  pub before : (x : ℕ) → 1 ≤ x → x < i → lead_divides (element G x) m ≡ false

-- a divisor that is found is the first
pub first_divisor-found : (G : List Polynomial) (m : Monomial) (i : ℕ) → first_divisor G m ≡ Some i → IsFirstDivisor G m i
first_divisor-found G m i e =
    let is : IsLeast (λ i. lead_divides (element G i) m) 1 (length G) i = least_number-found (λ i. lead_divides (element G i) m) 1 (length G) i e in
    record {
      low = is.low;
      high = omega (arith, is.high);
      nonzero = lead_divides-nonzero (element G i) m is.meets;
      divides_it = lead_divides-divides (element G i) m is.meets;
      before = is.before;
    }

-- where none is found, no element's leading monomial divides m
pub first_divisor-none : (G : List Polynomial) (m : Monomial) → first_divisor G m ≡ None → (x : ℕ) → 1 ≤ x → x ≤ length G → lead_divides (element G x) m ≡ false
first_divisor-none G m e x low high = least_number-none (λ i. lead_divides (element G i) m) 1 (length G) e x low (omega arith)
