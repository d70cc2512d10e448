-- The first fault of relations, where they are tested in order.
use Rattle.std.proofs.Common.{◌≡◌, ℕ, zero, suc, ◌+◌, ◌-◌, ◌<◌, ◌≤◌, ◌⊎◌, inl, inr, Option, Some, None, refl, sym, ap, ◌∙◌, arith, le_refl}
use Rattle.word_model.specs.Words.{Algebra}
use Rattle.word_model.specs.Conditions.{Fault, pair_fault, triple_fault, first_from, pairs_fault, triples_fault, relations_fault}
use Rattle.word_model.proofs.LeastNumbers.{here_or_later}

-- the first fault, if there is one, else the second
abbrev pub or_else : Option Fault → Option Fault → Option Fault
or_else first next = elim first [ None ↦ next | Some e ↦ Some e ]

-- where there is no first fault, no test fails
pub first_from-passed : (test : ℕ → Option Fault) (k m : ℕ) → first_from test k m ≡ None → (i : ℕ) → k ≤ i → i < k + m → test i ≡ None
first_from-passed test k zero e i low high = absurd (omega arith)
first_from-passed test k (suc m) e i low high = by (test k) refl e (first_from-passed test (suc k) m) (here_or_later k i low)
  where
    by : (r : Option Fault) → test k ≡ r → or_else r (first_from test (suc k) m) ≡ None
        → (first_from test (suc k) m ≡ None → (i : ℕ) → suc k ≤ i → i < suc k + m → test i ≡ None) → (k ≡ i) ⊎ (suc k ≤ i) → test i ≡ None
    by (Some f) t e ih place = cc
    by None t e ih (inl here) = ap test (sym here) ∙ t
    by None t e ih (inr later) = ih e i later (omega arith)

-- where no test fails, there is no first fault
pub first_from-none : (test : ℕ → Option Fault) (k m : ℕ) → ((i : ℕ) → k ≤ i → i < k + m → test i ≡ None) → first_from test k m ≡ None
first_from-none test k zero pass = refl
first_from-none test k (suc m) pass =
    ap (λ r. or_else r (first_from test (suc k) m)) (pass k (le_refl k) (omega arith))
    ∙ first_from-none test (suc k) m (λ i low high. pass i (omega arith) (omega arith))

-- the first test that fails gives the first fault
pub first_from-found : (test : ℕ → Option Fault) (k m i : ℕ) (f : Fault) → k ≤ i → i < k + m → ((j : ℕ) → k ≤ j → j < i → test j ≡ None) → test i ≡ Some f
    → first_from test k m ≡ Some f
first_from-found test k zero i f low high before e = absurd (omega arith)
first_from-found test k (suc m) i f low high before e = by (here_or_later k i low) (first_from-found test (suc k) m i f)
  where
    by : (k ≡ i) ⊎ (suc k ≤ i) → (suc k ≤ i → i < suc k + m → ((j : ℕ) → suc k ≤ j → j < i → test j ≡ None) → test i ≡ Some f → first_from test (suc k) m ≡ Some f)
        → or_else (test k) (first_from test (suc k) m) ≡ Some f
    by (inl here) ih = ap (λ r. or_else r (first_from test (suc k) m)) (ap test here ∙ e)
    by (inr later) ih =
        ap (λ r. or_else r (first_from test (suc k) m)) (before k (le_refl k) later)
        ∙ ih later (omega arith) (λ j a b. before j (omega arith) b) e

module _ (A : Algebra) where
  -- the first fault of the pairs of x_i with later variables
  abbrev pub row_fault : ℕ → Option Fault
  row_fault i = first_from (λ j. pair_fault A i j) (suc i) (A.order.vars - i)

  -- the first fault of the triples of x_i and x_j with later variables
  abbrev pub line_fault : ℕ → ℕ → Option Fault
  line_fault i j = first_from (λ k. triple_fault A i j k) (suc j) (A.order.vars - j)

  -- the first fault of the triples of x_i with later variables
  abbrev pub plane_fault : ℕ → Option Fault
  plane_fault i = first_from (line_fault i) (suc i) (A.order.vars - i)

  -- no pair has a fault
  abbrev pub NoPairFault : Type 0
  NoPairFault = (i j : ℕ) → 1 ≤ i → i < j → j ≤ A.order.vars → pair_fault A i j ≡ None

  -- no triple has a fault
  abbrev pub NoTripleFault : Type 0
  NoTripleFault = (i j k : ℕ) → 1 ≤ i → i < j → j < k → k ≤ A.order.vars → triple_fault A i j k ≡ None

  -- where the pairs have no first fault, none has one
  pub pairs_passed : pairs_fault A ≡ None → NoPairFault
  pairs_passed e i j low falls high =
      first_from-passed (λ j. pair_fault A i j) (suc i) (A.order.vars - i)
      (first_from-passed row_fault 1 A.order.vars e i low (omega arith)) j falls (omega arith)

  -- where the triples have no first fault, none has one
  pub triples_passed : triples_fault A ≡ None → NoTripleFault
  triples_passed e i j k low ij jk high =
      first_from-passed (λ k. triple_fault A i j k) (suc j) (A.order.vars - j)
      (first_from-passed (line_fault i) (suc i) (A.order.vars - i)
      (first_from-passed plane_fault 1 A.order.vars e i low (omega arith)) j ij (omega arith)) k jk (omega arith)

  -- where no pair has a fault, there is no first one
  pub pairs_none : NoPairFault → pairs_fault A ≡ None
  pairs_none pass =
      first_from-none row_fault 1 A.order.vars
      (λ i low high. first_from-none (λ j. pair_fault A i j) (suc i) (A.order.vars - i) (λ j a b. pass i j low a (omega arith)))

  -- where no triple has a fault, there is no first one
  pub triples_none : NoTripleFault → triples_fault A ≡ None
  triples_none pass =
      first_from-none plane_fault 1 A.order.vars
      (λ i low high. first_from-none (line_fault i) (suc i) (A.order.vars - i)
      (λ j a b. first_from-none (λ k. triple_fault A i j k) (suc j) (A.order.vars - j) (λ k c d. pass i j k low a c (omega arith))))

  -- relations without a fault: no pair has one, and no triple
  pub no_fault : relations_fault A ≡ None → NoPairFault × NoTripleFault
  unfolding relations_fault
  no_fault e = by (pairs_fault A) refl e
    where
      by : (r : Option Fault) → pairs_fault A ≡ r → or_else r (triples_fault A) ≡ None → NoPairFault × NoTripleFault
      by None pairs e = (pairs_passed pairs, triples_passed e)
      by (Some f) pairs e = cc

  -- where no pair has a fault, and no triple, the relations have none
  pub relations_fault-none : NoPairFault → NoTripleFault → relations_fault A ≡ None
  unfolding relations_fault
  relations_fault-none pairs triples =
      ap (λ r. or_else r (triples_fault A)) (pairs_none pairs) ∙ triples_none triples

  -- the first pair that has a fault gives the relations' fault
  pub relations_fault-pair : (i j : ℕ) (f : Fault) → 1 ≤ i → i < j → j ≤ A.order.vars
      → ((i' j' : ℕ) → 1 ≤ i' → i' < j' → j' ≤ A.order.vars → (i' < i) ⊎ ((i' ≡ i) × (j' < j)) → pair_fault A i' j' ≡ None)
      → pair_fault A i j ≡ Some f → relations_fault A ≡ Some f
  unfolding relations_fault
  relations_fault-pair i j f low falls high before e =
      let row : row_fault i ≡ Some f =
      first_from-found (λ j. pair_fault A i j) (suc i) (A.order.vars - i) j f falls (omega arith)
      (λ j' a b. before i j' low a (omega arith) (inr (refl, b))) e in
      let all : pairs_fault A ≡ Some f =
      first_from-found row_fault 1 A.order.vars i f low (omega arith)
      (λ i' a b. first_from-none (λ j. pair_fault A i' j) (suc i') (A.order.vars - i') (λ j' c d. before i' j' a c (omega arith) (inl b))) row in
      ap (λ r. or_else r (triples_fault A)) all

  -- where no pair has a fault, the first triple that has one gives the relations' fault
  pub relations_fault-triple : NoPairFault → (i j k : ℕ) (f : Fault) → 1 ≤ i → i < j → j < k → k ≤ A.order.vars
      → ((i' j' k' : ℕ) → 1 ≤ i' → i' < j' → j' < k' → k' ≤ A.order.vars
      → (i' < i) ⊎ ((i' ≡ i) × ((j' < j) ⊎ ((j' ≡ j) × (k' < k)))) → triple_fault A i' j' k' ≡ None)
      → triple_fault A i j k ≡ Some f → relations_fault A ≡ Some f
  unfolding relations_fault
  relations_fault-triple pairs i j k f low ij jk high before e =
      let line : line_fault i j ≡ Some f =
      first_from-found (λ k. triple_fault A i j k) (suc j) (A.order.vars - j) k f jk (omega arith)
      (λ k' a b. before i j k' low ij a (omega arith) (inr (refl, inr (refl, b)))) e in
      let plane : plane_fault i ≡ Some f =
      first_from-found (line_fault i) (suc i) (A.order.vars - i) j f ij (omega arith)
      (λ j' a b. first_from-none (λ k. triple_fault A i j' k) (suc j') (A.order.vars - j') (λ k' c d. before i j' k' low a c (omega arith) (inr (refl, inl b)))) line in
      let all : triples_fault A ≡ Some f =
      first_from-found plane_fault 1 A.order.vars i f low (omega arith)
      (λ i' a b. first_from-none (line_fault i') (suc i') (A.order.vars - i')
      (λ j' c d. first_from-none (λ k. triple_fault A i' j' k) (suc j') (A.order.vars - j') (λ k' g h. before i' j' k' a c g (omega arith) (inl b)))) plane in
      ap (λ r. or_else r (triples_fault A)) (pairs_none pairs) ∙ all
