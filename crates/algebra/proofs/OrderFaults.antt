-- Accepted relations under another order: none but the condition on the order can fail.
use Rattle.std.proofs.Common.{◌≡◌, ℕ, zero, suc, ◌+◌, ◌%◌, ◌-◌, ◌<◌, ◌≤◌, ◌==◌, nat_lt, if◌then◌else◌, Bool, true, false, Option, None, Some, refl, sym, ap, ◌∙◌, subst, arith, le_refl}
use Rattle.std.proofs.lemmas.Bool.Decides.{nat_tests}
use Rattle.monomials.specs.Monomials.{degree}
use Rattle.monomials.specs.Orders.{RowOrder, order_cmp}
use Rattle.monomials.specs.Polynomials.{Polynomial, Each, from_terms, poly_degree}
use Rattle.monomials.proofs.Keys.{Each-weaker, EachKey-from_terms}
use Rattle.gpoly.proofs.TermLists.{poly_degree_small}
use Rattle.word_model.specs.Words.{Algebra, c_of, d_of}
use Rattle.word_model.specs.Conditions.{Fault, IsGAlgebra, first_from, is_below, pair_fault, pairs_fault, triples_fault, rest_fault}
use Rattle.word_model.proofs.Faults.{or_else, row_fault, triples_none}
use Rattle.algebra.specs.declared.AlgebraFault.{AlgebraFault}
use Rattle.algebra.specs.declared.AlgebraFault.TheVariants.{Coefficient, Profile, Ordering, NonDegeneracy, Memory}
use Rattle.algebra.specs.Faults.{IsReported}
use Rattle.algebra.specs.Reordered.{reordered, ReportsOrdering}
use Rattle.algebra.proofs.Testing.{Reports-pairs}
use Rattle.algebra.proofs.SortedAnew.{c_of-reordered, d_of-reordered, triple_rest-reordered}

-- the first fault is that of some test
first_from-some : (test : ℕ → Option Fault) (k m : ℕ) (f : Fault) → first_from test k m ≡ Some f → (i : ℕ) × (k ≤ i) × (i < k + m) × (test i ≡ Some f)
first_from-some test k zero f e = cc
first_from-some test k (suc m) f e = by (test k) refl e (first_from-some test (suc k) m f)
  where
    by : (r : Option Fault) → test k ≡ r → or_else r (first_from test (suc k) m) ≡ Some f →
        (first_from test (suc k) m ≡ Some f → (i : ℕ) × (suc k ≤ i) × (i < suc k + m) × (test i ≡ Some f)) →
        (i : ℕ) × (k ≤ i) × (i < k + suc m) × (test i ≡ Some f)
    by (Some g) t e ih = (k, le_refl k, omega arith, t ∙ e)
    by None t e ih = let r = ih e in (r.0, omega (arith, r.1), omega (arith, r.2), r.3)

-- of pairs it is that of some pair
pairs_fault-some : (A : Algebra) (f : Fault) → pairs_fault A ≡ Some f →
    (i : ℕ) × (j : ℕ) × (1 ≤ i) × (i < j) × (j ≤ A.order.vars) × (pair_fault A i j ≡ Some f)
pairs_fault-some A f e =
    let row = first_from-some (row_fault A) 1 A.order.vars f e in
    let place = first_from-some (λ j. pair_fault A row.0 j) (suc row.0) (A.order.vars - row.0) f row.3 in
    (row.0, place.0, row.1, place.1, omega (arith, place.2, row.2), place.3)

module _ (A : Algebra) (o : RowOrder) (vars : o.vars ≡ A.order.vars) (ok : IsGAlgebra A) where
  -- a pair's fault is that of the order
  pair_fault-reordered : (i j : ℕ) (f : Fault) → 1 ≤ i → i < j → j ≤ o.vars → pair_fault (reordered o A) i j ≡ Some f → f ≡ Fault.Ordering i j
  pair_fault-reordered i j f low falls high e =
      let bound : j ≤ A.order.vars = omega (arith, high, vars) in
      let nonzero : c_of (reordered o A) i j ≡ 0 → ⊥ = λ z. ok.nonzero.nonzero i j low falls bound (ap (λ c. c % A.p) (sym (c_of-reordered A o vars i j) ∙ z)) in
      let small : Each (λ t. degree t.1 ≤ 2) (d_of A i j) = Each-weaker _ _ (λ t h. h.1) (d_of A i j) (ok.downward.small i j low falls bound) in
      let few : poly_degree (d_of (reordered o A) i j) ≤ 2 =
      subst (λ (d : Polynomial). poly_degree d ≤ 2) (sym (d_of-reordered A o vars i j))
      (poly_degree_small 2 (from_terms (order_cmp o.rows) A.p (d_of A i j)) (EachKey-from_terms (order_cmp o.rows) A.p (λ m. degree m ≤ 2) (d_of A i j) small)) in
      by (c_of (reordered o A) i j == 0) (nat_lt 2 (poly_degree (d_of (reordered o A) i j))) (is_below (reordered o A) i j (d_of (reordered o A) i j))
      (λ t. nonzero (grind (arith, nat_tests, t))) (λ t. let more : 2 < poly_degree (d_of (reordered o A) i j) = grind (arith, nat_tests, t) in omega (arith, more, few)) e
    where
      by : (none deep below : Bool) → (none ≡ true → ⊥) → (deep ≡ true → ⊥) →
          (if none then Some (Fault.Coefficient i j) else (if deep then Some (Fault.Profile i j) else (if below then None else Some (Fault.Ordering i j)))) ≡ Some f →
          f ≡ Fault.Ordering i j
      by true deep below nz few e = absurd (nz refl)
      by false true below nz few e = absurd (few refl)
      by false false true nz few e = cc
      by false false false nz few e = cc

  fault_is : (f : Fault) → pairs_fault (reordered o A) ≡ Some f → (i : ℕ) × (j : ℕ) × (f ≡ Fault.Ordering i j)
  fault_is f e =
      let p = pairs_fault-some (reordered o A) f e in
      (p.0, p.1, pair_fault-reordered p.0 p.1 f p.2 p.3 p.4 p.5)

  -- what the test of the pairs reports is a fault of the order
  pub ReportsOrdering-pairs : (e : AlgebraFault) → IsReported (pairs_fault (reordered o A)) ⊥ e → ReportsOrdering (reordered o A) e
  ReportsOrdering-pairs (Coefficient i j) is = let f = fault_is (Fault.Coefficient i j) is in let no : Fault.Coefficient i j ≡ Fault.Ordering f.0 f.1 = f.2 in cc
  ReportsOrdering-pairs (Profile i j) is = let f = fault_is (Fault.Profile i j) is in let no : Fault.Profile i j ≡ Fault.Ordering f.0 f.1 = f.2 in cc
  ReportsOrdering-pairs (Ordering i j) is = Reports-pairs (reordered o A) (Ordering i j) is
  ReportsOrdering-pairs (NonDegeneracy i j k rest) is =
      let f = fault_is (Fault.NonDegeneracy i j k rest) is in let no : Fault.NonDegeneracy i j k rest ≡ Fault.Ordering f.0 f.1 = f.2 in cc
  ReportsOrdering-pairs Memory is = absurd is

  -- no triple has a fault
  pub triples_fault-reordered : triples_fault (reordered o A) ≡ None
  triples_fault-reordered =
      triples_none (reordered o A)
      (λ i j k low ij jk high.
      ap (rest_fault i j k)
      (triple_rest-reordered A o vars ok.field.more i j k
      ∙ ap (from_terms (order_cmp o.rows) A.p) (ok.confluent.none i j k low ij jk (omega (arith, high, vars)))))
