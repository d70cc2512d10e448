-- Relations without a fault are accepted.
use Rattle.std.proofs.Common.{◌≡◌, ℕ, zero, suc, ◌*◌, ◌%◌, ◌<◌, ◌≤◌, Bool, true, false, List, [], ◌∷◌, ◌==◌, nat_lt, get_or, slice_get, unwrap_or, None, Some, if◌then◌else◌, refl, sym, ◌∙◌, arith, mod-eq_of_lt}
use Rattle.std.proofs.Common.{Less}
use Rattle.std.proofs.lemmas.Bool.Decides.{nat_tests}
use Rattle.prime_field.specs.Modular.{IsPrime}
use Rattle.prime_field.proofs.Inverses.{prime_has_inverse}
use Rattle.monomials.specs.Monomials.{Monomial, degree}
use Rattle.monomials.specs.Polynomials.{Polynomial, Each, IsCanonical, IsPolynomial, poly_degree}
use Rattle.monomials.proofs.Keys.{Each-weaker}
use Rattle.monomials.proofs.OrderLaws.{order_cmp_total}
use Rattle.word_model.specs.Words.{Algebra, pair_index, c_of, d_of, monomial_of, IsSmall, RewritesDown}
use Rattle.word_model.specs.Conditions.{Fault, is_below, pair_fault, triple_fault, triple_rest, rest_fault, relations_fault, IsField, HasNonzeroNumbers, IsAlgebraData, IsGAlgebra}
use Rattle.word_model.specs.Conditions.Fault.{Coefficient, Profile}
use Rattle.word_model.proofs.Letters.{Each-both}
use Rattle.word_model.proofs.Ranks.{less_is}
use Rattle.word_model.proofs.Degrees.{HasDegrees-poly_degree}
use Rattle.word_model.proofs.LeadingMonomials.{order, NonZero-below, rest_below}
use Rattle.word_model.proofs.Faults.{NoPairFault, no_fault}

-- ---- what the data of an algebra have at each pair

-- what holds of each element, and of the default, holds of the element at any index
pub Each-get_or : {X : Type 0} (P : X → Type 0) (xs : List X) (i : ℕ) (d : X) → Each P xs → P d → P (get_or xs i d)
Each-get_or P [] i d h k = k
Each-get_or P (x ∷ xs) zero d h k = h.0
Each-get_or P (x ∷ xs) (suc i) d h k = Each-get_or P xs i d h.1 k

-- the same, where the index is looked up first
pub Each-slice_get : {X : Type 0} (P : X → Type 0) (xs : List X) (i : ℕ) (d : X) → Each P xs → P d → P (unwrap_or (slice_get xs i) d)
Each-slice_get P [] i d h k = k
Each-slice_get P (x ∷ xs) zero d h k = h.0
Each-slice_get P (x ∷ xs) (suc i) d h k = Each-slice_get P xs i d h.1 k

module _ (A : Algebra) (data_of : IsAlgebraData A) where
  -- the number of a relation is below p
  pub c_of-below : 0 < A.p → (i j : ℕ) → c_of A i j < A.p
  c_of-below pos i j = Each-get_or (λ c. c < A.p) A.c (pair_index A.order.vars i j) 0 data_of.numbers pos

  -- the polynomial of a relation is one of the algebra
  pub IsPolynomial-d_of : (i j : ℕ) → IsPolynomial A.p A.order (d_of A i j)
  IsPolynomial-d_of i j =
      Each-slice_get (IsPolynomial A.p A.order) A.d (pair_index A.order.vars i j) [] data_of.polynomials
      (record { canonical = tt; vars = tt })

-- ---- what a pair and a triple without a fault have

module _ (A : Algebra) where
  record PairHolds (i j : ℕ) : Type 0 where
    coefficient : (c_of A i j == 0) ≡ false
    profile : nat_lt 2 (poly_degree (d_of A i j)) ≡ false
    below : is_below A i j (d_of A i j) ≡ true

  pair_holds : (i j : ℕ) → pair_fault A i j ≡ None → PairHolds i j
  pair_holds i j e = by (c_of A i j == 0) refl (nat_lt 2 (poly_degree (d_of A i j))) refl (is_below A i j (d_of A i j)) refl e
    where
      by : (b : Bool) → (c_of A i j == 0) ≡ b → (b' : Bool) → nat_lt 2 (poly_degree (d_of A i j)) ≡ b' → (b'' : Bool) → is_below A i j (d_of A i j) ≡ b''
          → (if b then Some (Coefficient i j) else (if b' then Some (Profile i j) else (if b'' then None else Some (Fault.Ordering i j)))) ≡ None → PairHolds i j
      by true t b' t' b'' t'' e = cc
      by false t true t' b'' t'' e = cc
      by false t false t' false t'' e = cc
      by false t false t' true t'' e = record { coefficient = t; profile = t'; below = t'' }

  triple_holds : (i j k : ℕ) → triple_fault A i j k ≡ None → triple_rest A i j k ≡ []
  triple_holds i j k e = by (triple_rest A i j k) e
    where
      by : (r : Polynomial) → rest_fault i j k r ≡ None → r ≡ []
      by [] e = refl
      by (t ∷ f) e = cc

  -- a polynomial whose first monomial is below x_i x_j has all its monomials below it
  all_below : (i j : ℕ) (f : Polynomial) → IsCanonical (order A) A.p f → is_below A i j f ≡ true
      → Each (λ u. order A u.1 (monomial_of A.order.vars (i ∷ j ∷ [])) ≡ Less) f
  all_below i j [] h e = tt
  all_below i j (t ∷ f) h e =
      let m : Monomial = monomial_of A.order.vars (i ∷ j ∷ []) in
      let first : order A t.1 m ≡ Less = less_is (order A t.1 m) e in (
        first,
        Each-weaker _ _ (λ u less. (order_cmp_total A.order.rows).trans u.1 t.1 m less first) f (rest_below A t f h.3 h.2),
      )

  small_terms : (i j : ℕ) (f : Polynomial) → IsPolynomial A.p A.order f → poly_degree f ≤ 2 → is_below A i j f ≡ true → Each (IsSmall A i j) f
  small_terms i j f h low below =
      Each-both _ _ _ (λ t len rest. (len, rest.0, rest.1)) f h.vars
      (Each-both _ _ (λ t. (degree t.1 ≤ 2) × (order A t.1 (monomial_of A.order.vars (i ∷ j ∷ [])) ≡ Less)) (λ t deg less. (deg, less)) f
      (HasDegrees-poly_degree f 2 low) (all_below i j f h.canonical below))

  -- rewriting leads downwards where no pair has a fault
  pub RewritesDown-passed : IsAlgebraData A → NoPairFault A → RewritesDown A
  RewritesDown-passed data_of passed = record {
    small = λ i j a b c.
        (let h : PairHolds i j = pair_holds i j (passed i j a b c) in
        let t : nat_lt 2 (poly_degree (d_of A i j)) ≡ false = h.profile in
        small_terms i j (d_of A i j) (IsPolynomial-d_of A data_of i j) (grind (arith, nat_tests, t)) h.below);
  }

  module _ (data_of : IsAlgebraData A) (field : IsField A.p) (fault : relations_fault A ≡ None) where
    no_pair : (i j : ℕ) → 1 ≤ i → i < j → j ≤ A.order.vars → PairHolds i j
    no_pair i j a b c = pair_holds i j ((no_fault A fault).0 i j a b c)

    nonzero_numbers : HasNonzeroNumbers A
    nonzero_numbers = record {
      nonzero = λ i j a b c.
          (let t : (c_of A i j == 0) ≡ false = (no_pair i j a b c).coefficient in
          NonZero-below A.p (c_of A i j) (grind (arith, nat_tests, t)) (c_of-below A data_of (omega (arith, field.more)) i j));
    }

    -- relations without a fault are accepted, over a field
    pub accepted : IsGAlgebra A
    accepted = record {
      field = field;
      downward = RewritesDown-passed data_of (no_fault A fault).0;
      nonzero = nonzero_numbers;
      confluent = record { none = λ i j k a b c d. triple_holds i j k ((no_fault A fault).1 i j k a b c d) };
    }

-- ---- primes

-- the numbers modulo a prime are a field
pub IsField-prime : (p : ℕ) → IsPrime p → IsField p
IsField-prime p prime =
    let above : 1 < p = prime.above_one in
    record {
      more = above;
      unit = λ a not_zero.
          (let found : (b : ℕ) × ((b * a) % p ≡ 1) = prime_has_inverse p prime a (λ z. not_zero (z ∙ sym (mod-eq_of_lt (omega arith)))) in
          (found.0, found.1 ∙ sym (mod-eq_of_lt above)));
    }
