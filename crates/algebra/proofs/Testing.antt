-- What tests in order report.
use Rattle.std.proofs.Common.{◌≡◌, ℕ, ◌+◌, ◌<◌, ◌≤◌, ◌⊎◌, inl, inr, Option, None, Some, ap, ◌∙◌, arith}
use Rattle.word_model.specs.Words.{Algebra}
use Rattle.word_model.specs.Conditions.{Fault, first_from, pairs_fault, triples_fault, relations_fault}
use Rattle.word_model.proofs.Faults.{or_else, first_from-found}
use Rattle.algebra.specs.declared.AlgebraFault.{AlgebraFault}
use Rattle.algebra.specs.declared.AlgebraFault.TheVariants.{Coefficient, Profile, Ordering, NonDegeneracy, Memory}
use Rattle.algebra.specs.Faults.{IsReported, Reports}

-- a fault that is the first of one test is that of another that has it too
pub IsReported-moved : (f g : Option Fault) (short more : Type 0) (e : AlgebraFault)
    → ((x : Fault) → f ≡ Some x → g ≡ Some x) → (short → more) → IsReported f short e → IsReported g more e
IsReported-moved f g short more (Coefficient i j) h m is = h (Fault.Coefficient i j) is
IsReported-moved f g short more (Profile i j) h m is = h (Fault.Profile i j) is
IsReported-moved f g short more (Ordering i j) h m is = h (Fault.Ordering i j) is
IsReported-moved f g short more (NonDegeneracy i j k rest) h m is = h (Fault.NonDegeneracy i j k rest) is
IsReported-moved f g short more Memory h m is = m is

-- where all tests before it pass, the fault of a test is the first
pub IsReported-first_from : (test : ℕ → Option Fault) (short : Type 0) (k m i : ℕ) (e : AlgebraFault) → k ≤ i → i < k + m → ((j : ℕ) → k ≤ j → j < i → test j ≡ None)
    → IsReported (test i) short e → IsReported (first_from test k m) short e
IsReported-first_from test short k m i e low high pass is =
    IsReported-moved (test i) (first_from test k m) short short e (λ x t. first_from-found test k m i x low high pass t) (λ x. x) is

-- one more test that passes
pub passed_more : (test : ℕ → Option Fault) (a i : ℕ) → ((x : ℕ) → a < x → x < i → test x ≡ None) → test i ≡ None
    → (x : ℕ) → a < x → x < i + 1 → test x ≡ None
passed_more test a i pass here x low high = by (before_or_here x i high)
  where
    before_or_here : (x i : ℕ) → x < i + 1 → (x < i) ⊎ (x ≡ i)
    before_or_here x i h = grind arith

    by : (x < i) ⊎ (x ≡ i) → test x ≡ None
    by (inl before) = pass x low before
    by (inr same) = ap test same ∙ here

module _ (A : Algebra) where
  -- a fault of the pairs is the relations'
  pub Reports-pairs : (e : AlgebraFault) → IsReported (pairs_fault A) ⊥ e → Reports A e
  unfolding relations_fault
  Reports-pairs e is =
      IsReported-moved (pairs_fault A) (relations_fault A) ⊥ (pairs_fault A ≡ None) e (λ x t. ap (λ r. or_else r (triples_fault A)) t) (λ no. absurd no) is

  -- where the pairs pass, so is a fault of the triples
  pub Reports-triples : (e : AlgebraFault) → pairs_fault A ≡ None → IsReported (triples_fault A) (Unit {0}) e → Reports A e
  unfolding relations_fault
  Reports-triples e pass is =
      IsReported-moved (triples_fault A) (relations_fault A) (Unit {0}) (pairs_fault A ≡ None) e (λ x t. ap (λ r. or_else r (triples_fault A)) pass ∙ t) (λ _. pass) is

  -- where both pass, the relations have no fault
  pub relations_passed : pairs_fault A ≡ None → triples_fault A ≡ None → relations_fault A ≡ None
  unfolding relations_fault
  relations_passed pairs triples = ap (λ r. or_else r (triples_fault A)) pairs ∙ triples
