-- The rest that a fault speaks of is a polynomial of the algebra.
use Rattle.std.proofs.Common.{◌<◌, ◌-◌, ◌==◌, Bool, true, false, nat_lt, if◌then◌else◌, ℕ, zero, suc, [], ◌∷◌, Option, Some, None, subst}
use Rattle.std.specs.Prelude.{IfSome}
use Rattle.monomials.specs.Polynomials.{IsPolynomial, Polynomial, poly_degree}
use Rattle.word_model.specs.Words.{Algebra, c_of, d_of}
use Rattle.word_model.specs.Conditions.{Fault, Coefficient as coefficient, Profile as profile, Ordering as ordering, NonDegeneracy as non_degeneracy, first_from, is_below, overlap, pair_fault, pairs_fault, relations_fault, rest_fault, triple_fault, triple_rest, triples_fault}
use Rattle.word_model.proofs.NormalForms.{word_value_is_polynomial}
use Rattle.algebra.specs.Faults.{IsReported}
use Rattle.algebra.specs.declared.AlgebraFault.{AlgebraFault}
use Rattle.algebra.specs.declared.AlgebraFault.TheVariants.{Coefficient, Profile, Ordering, NonDegeneracy, Memory}
use Rattle.script_rings.specs.Entries.{IsFirst, RestIs}

abbrev HasRest : (Polynomial → Type 0) → Fault → Type 0
HasRest P (non_degeneracy i j k rest) = P rest
HasRest P _ = Unit {0}

-- what holds of a fault of each test, holds of the first fault
first_from-each : (Q : Fault → Type 0) (test : ℕ → Option Fault) → ((i : ℕ) → IfSome (test i) Q) → (k m : ℕ) → IfSome (first_from test k m) Q
first_from-each Q test each k zero = tt
first_from-each Q test each k (suc m) = by (test k) (each k) (first_from-each Q test each (suc k) m)
  where
    by : (o : Option Fault) → IfSome o Q → IfSome (first_from test (suc k) m) Q → IfSome (elim o [ None ↦ first_from test (suc k) m | Some e ↦ Some e ]) Q
    by None here later = later
    by (Some e) here later = here

module _ (A : Algebra) (more : 1 < A.p) where
  rest-is : (i j k : ℕ) → IfSome (triple_fault A i j k) (HasRest (IsPolynomial A.p A.order))
  rest-is i j k = by (triple_rest A i j k) (word_value_is_polynomial A more (overlap A i j k))
    where
      by : (f : Polynomial) → IsPolynomial A.p A.order f → IfSome (rest_fault i j k f) (HasRest (IsPolynomial A.p A.order))
      by [] h = tt
      by (t ∷ f) h = h

  triples-are : IfSome (triples_fault A) (HasRest (IsPolynomial A.p A.order))
  triples-are =
      let Q = HasRest (IsPolynomial A.p A.order) in
      let n : ℕ = A.order.vars in
      first_from-each Q (λ i. first_from (λ j. first_from (λ k. triple_fault A i j k) (suc j) (n - j)) (suc i) (n - i))
      (λ i. first_from-each Q (λ j. first_from (λ k. triple_fault A i j k) (suc j) (n - j))
      (λ j. first_from-each Q (λ k. triple_fault A i j k) (λ k. rest-is i j k) (suc j) (n - j)) (suc i) (n - i))
      1 n

  pair-is : (i j : ℕ) → IfSome (pair_fault A i j) (HasRest (IsPolynomial A.p A.order))
  pair-is i j = by (c_of A i j == 0) (nat_lt 2 (poly_degree (d_of A i j))) (is_below A i j (d_of A i j))
    where
      by : (a b c : Bool) → IfSome (if a then Some (coefficient i j) else (if b then Some (profile i j) else (if c then None else Some (ordering i j)))) (HasRest (IsPolynomial A.p A.order))
      by true b c = tt
      by false true c = tt
      by false false true = tt
      by false false false = tt

  pairs-are : IfSome (pairs_fault A) (HasRest (IsPolynomial A.p A.order))
  pairs-are =
      let Q = HasRest (IsPolynomial A.p A.order) in
      let n : ℕ = A.order.vars in
      first_from-each Q (λ i. first_from (λ j. pair_fault A i j) (suc i) (n - i)) (λ i. first_from-each Q (λ j. pair_fault A i j) (λ j. pair-is i j) (suc i) (n - i)) 1 n

  all-are : IfSome (relations_fault A) (HasRest (IsPolynomial A.p A.order))
  unfolding relations_fault
  all-are = by (pairs_fault A) pairs-are
    where
      by : (o : Option Fault) → IfSome o (HasRest (IsPolynomial A.p A.order))
          → IfSome (elim o [ None ↦ triples_fault A | Some e ↦ Some e ]) (HasRest (IsPolynomial A.p A.order))
      by None h = triples-are
      by (Some e) h = h

  -- the rest of the fault that is reported
  pub reported_rest : (short : Type 0) (e : AlgebraFault) → IsReported (relations_fault A) short e → RestIs (IsPolynomial A.p A.order) e
  reported_rest short (Coefficient i j) h = tt
  reported_rest short (Profile i j) h = tt
  reported_rest short (Ordering i j) h = tt
  reported_rest short (NonDegeneracy i j k rest) h = subst (λ o. IfSome o (HasRest (IsPolynomial A.p A.order))) h all-are
  reported_rest short Memory h = tt

pub reported_first : (first : Option Fault) (short : Type 0) (e : AlgebraFault) → IsReported first short e → IsFirst first e
reported_first first short (Coefficient i j) h = h
reported_first first short (Profile i j) h = h
reported_first first short (Ordering i j) h = h
reported_first first short (NonDegeneracy i j k rest) h = h
reported_first first short Memory h = tt
