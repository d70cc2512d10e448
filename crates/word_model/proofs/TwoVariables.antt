-- The algebra of x and d with d x = c x d + e.
use Rattle.std.proofs.Common.{◌≡◌, ◌≢◌, ℕ, zero, suc, ◌%◌, ◌<◌, false, [], ◌∷◌, ◌==◌, nat_lt, Option, None, Some, if◌then◌else◌, refl, sym, ap, ◌∙◌, subst, arith, mod-lt, mod-eq_of_lt}
use Rattle.std.proofs.lemmas.Bool.Decides.{nat_tests}
use Rattle.monomials.specs.Polynomials.{Polynomial, Each, IsPolynomial, cons_nonzero, poly_degree}
use Rattle.word_model.specs.Words.{Algebra, d_of, IsSmall, RewritesDown}
use Rattle.word_model.specs.Conditions.{Fault, is_below, pair_fault, relations_fault, NonZero, IsField, IsAlgebraData, IsGAlgebra}
use Rattle.word_model.specs.Conditions.Fault.{Coefficient, Profile}
use Rattle.word_model.specs.TwoVariables.{two_variables}
use Rattle.word_model.proofs.Acceptance.{accepted}
use Rattle.word_model.proofs.Faults.{relations_fault-none}

module _ (p c e : ℕ) where
  -- the algebra
  abbrev weyl : Algebra
  weyl = two_variables p c e

  -- what holds at its one pair holds at each pair of variables
  at_pair : (P : ℕ → ℕ → Type 0) → P 1 2 → (i j : ℕ) → i ≡ 1 → j ≡ 2 → P i j
  at_pair P h i j ei ej = subst (λ i. P i j) (sym ei) (subst (λ j. P 1 j) (sym ej) h)

  constant_is_small : (k : ℕ) → Each (IsSmall weyl 1 2) (cons_nonzero k (0 ∷ 0 ∷ []) [])
  constant_is_small zero = tt
  constant_is_small (suc k) = ((refl, omega arith, refl), tt)

  -- rewriting leads downwards in it
  pub RewritesDown-two_variables : RewritesDown weyl
  RewritesDown-two_variables = record {
    small = λ i j low falls high.
        at_pair (λ i j. Each (IsSmall weyl i j) (d_of weyl i j)) (constant_is_small (e % p)) i j (omega arith) (omega arith);
  }

  -- its data are as an algebra's constructor takes them
  pub IsAlgebraData-two_variables : 1 < p → IsAlgebraData weyl
  IsAlgebraData-two_variables above_one = record {
    numbers = (mod-lt c (omega arith), tt);
    polynomials = (constant (e % p) (mod-lt e (omega arith)), tt);
    one_number_each = refl;
    one_polynomial_each = refl;
  }
    where
      constant : (k : ℕ) → k < p → IsPolynomial p weyl.order (cons_nonzero k (0 ∷ 0 ∷ []) [])
      constant zero below = record { canonical = tt; vars = tt }
      constant (suc k) below = record { canonical = (omega arith, below, tt, tt); vars = (refl, tt) }

  -- the fault of the pair, where its number is not zero
  abbrev later_fault : Polynomial → Option Fault
  later_fault f = if nat_lt 2 (poly_degree f) then Some (Profile 1 2) else (if is_below weyl 1 2 f then None else Some (Fault.Ordering 1 2))

  -- no condition fails, where c is not zero modulo p
  pub relations_fault-two_variables : 1 < p → NonZero p c → relations_fault weyl ≡ None
  relations_fault-two_variables above_one nonzero =
      relations_fault-none weyl
      (λ i j low falls high. at_pair (λ i j. pair_fault weyl i j ≡ None) the_pair i j (omega arith) (omega arith))
      (λ i j k low ij jk high. absurd (omega arith))
    where
      rest : c % p ≢ 0
      rest z = nonzero (z ∙ sym (mod-eq_of_lt (omega arith)))

      test : (c % p == 0) ≡ false
      test = grind (arith, nat_tests, rest)

      constant_passes : (k : ℕ) → later_fault (cons_nonzero k (0 ∷ 0 ∷ []) []) ≡ None
      constant_passes zero = refl
      constant_passes (suc k) = refl

      the_pair : pair_fault weyl 1 2 ≡ None
      the_pair = ap (λ b. if b then Some (Coefficient 1 2) else later_fault (d_of weyl 1 2)) test ∙ constant_passes (e % p)

  -- it is accepted, over a field
  pub IsGAlgebra-two_variables : IsField p → NonZero p c → IsGAlgebra weyl
  IsGAlgebra-two_variables field nonzero =
      accepted weyl (IsAlgebraData-two_variables field.more) field (relations_fault-two_variables field.more nonzero)
