-- A finished list comes from its basis: its origins and its steps name elements of that.
use Rattle.std.proofs.Common.{◌≡◌, ℕ, suc, ◌+◌, ◌≤◌, Bool, true, false, if◌then◌else◌, List, [], ◌∷◌, length, Option, Some, None, refl, ap, subst, arith}
use Rattle.monomials.specs.Polynomials.{Polynomial, Each, IsPolynomial}
use Rattle.word_model.specs.Words.{Algebra}
use Rattle.word_model.specs.Conditions.{IsGAlgebra}
use Rattle.word_model.specs.Reduction.{Reduced, reduce_tail}
use Rattle.word_model.specs.Finished.{Final, kept_from, kept, insert_final, with_final, finals_from, FinishedList, list_of, option_list, finished}
use Rattle.word_model.specs.Machine.{IsElement}
use Rattle.word_model.specs.Inside.Sound.{IsStep}
use Rattle.cofactors.specs.Rows.{AreTails}
use Rattle.word_model.proofs.Traces.{reduce_tail-steps}
use Rattle.word_model.proofs.Kept.{kept-sorted, length-kept}
use Rattle.word_model.proofs.FinalLists.{Each-insert_final}

module _ (A : Algebra) (ok : IsGAlgebra A) where
  -- an element of the list, over m elements of the basis
  record IsFinal (m : ℕ) (x : Final) : Type 0 where
    first : 1 ≤ x.origin
    last : x.origin ≤ m
    tail : Each (IsStep A m) x.tail

  module _ (K : List Polynomial) (sorted : Each (IsPolynomial A.p A.order) K) where
    with_final-are : (i : ℕ) (r : Reduced) (o : Option (List Final)) (finals : List Final) → 1 ≤ i → i ≤ length K → Each (IsStep A (length K)) r.trace
        → ((before : List Final) → o ≡ Some before → Each (IsFinal (length K)) before) → with_final A i r o ≡ Some finals → Each (IsFinal (length K)) finals
    with_final-are i r None finals low high steps before e = cc
    with_final-are i r (Some others) finals low high steps before e = by r.over e
      where
        x : Final
        x = record { polynomial = r.rest; origin = i; tail = r.trace }

        by : (over : Bool) → (if over then None else Some (insert_final A (record { polynomial = r.rest; origin = i; tail = r.trace }) others)) ≡ Some finals
            → Each (IsFinal (length K)) finals
        by true e = cc
        by false e =
            let is : insert_final A (record { polynomial = r.rest; origin = i; tail = r.trace }) others ≡ finals = cc in
            subst (Each (IsFinal (length K))) is
            (Each-insert_final A (IsFinal (length K)) (record { polynomial = r.rest; origin = i; tail = r.trace }) others
            (record { first = low; last = high; tail = steps }) (before others refl))

    finals_from-are : (i : ℕ) (H : List Polynomial) (finals : List Final) → 1 ≤ i → i + length H ≤ suc (length K) → Each (IsPolynomial A.p A.order) H
        → finals_from A K i H ≡ Some finals → Each (IsFinal (length K)) finals
    finals_from-are i [] finals low high h e = let none : [] ≡ finals = cc in subst (Each (IsFinal (length K))) none tt
    finals_from-are i ([] ∷ H) finals low high h e = finals_from-are (suc i) H finals (omega arith) (omega arith) h.1 e
    finals_from-are i ((t ∷ f) ∷ H) finals low high h e =
        with_final-are i (reduce_tail A K (t ∷ f)) (finals_from A K (suc i) H) finals low (omega arith) (reduce_tail-steps A ok K sorted (t ∷ f) h.0)
        (λ before is. finals_from-are (suc i) H before (omega arith) (omega arith) h.1 is) e

  parts : (m : ℕ) (finals : List Final) → Each (IsFinal m) finals → AreTails A m (list_of finals)
  parts m [] h = record { origins = tt; tails = tt; one_each = refl }
  parts m (x ∷ finals) h =
      let rest : AreTails A m (list_of finals) = parts m finals h.1 in
      record { origins = ((h.0.first, h.0.last), rest.origins); tails = (h.0.tail, rest.tails); one_each = ap suc rest.one_each }

  -- the finished list of a basis
  pub finished-tails : (G : List Polynomial) (F : FinishedList) → Each (IsElement A) G → finished A G ≡ Some F → AreTails A (length G) F
  unfolding finished kept
  finished-tails G F elements e = by (finals_from A (kept_from G 1 G) 1 (kept_from G 1 G)) refl e
    where
      by : (o : Option (List Final)) → finals_from A (kept_from G 1 G) 1 (kept_from G 1 G) ≡ o → option_list o ≡ Some F → AreTails A (length G) F
      by None is e = cc
      by (Some finals) is e =
          let made : list_of finals ≡ F = cc in
          let sorted : Each (IsPolynomial A.p A.order) (kept_from G 1 G) = kept-sorted A G elements in
          let all : Each (IsFinal (length (kept_from G 1 G))) finals =
          finals_from-are (kept_from G 1 G) sorted 1 (kept_from G 1 G) finals (omega arith) (omega arith) sorted is in
          subst (λ m. AreTails A m F) (length-kept G) (subst (AreTails A (length (kept_from G 1 G))) made (parts (length (kept_from G 1 G)) finals all))
