-- The monomials of keys, and how many exponents they have.
use Rattle.std.proofs.Common.{◌≡◌, ◌≢◌, ℕ, ◌<◌, ◌≤◌, List, [], length, sym, ap, ◌∙◌, subst, arith}
use Rattle.monomials.specs.Monomials.{Monomial, plus, variable}
use Rattle.monomials.specs.Polynomials.{Polynomial, Each, HasVars}
use Rattle.monomials.specs.Leading.{leading_monomial}
use Rattle.monomials.proofs.Exponents.{length-zip_with}
use Rattle.word_model.specs.Reduction.{element}
use Rattle.word_model.specs.Jobs.{pair_lcm, IsJob, NamesNonzero}
use Rattle.word_model.specs.declared.records.Job.{Job}
use Rattle.word_model.specs.declared.records.Job.TheVariants.{Pair, Right}
use Rattle.word_model.proofs.Associativity.{length-variable}
use Rattle.word_model.proofs.LeastNumbers.{Each-element}
use Rattle.word_model.proofs.PairCofactors.{length-leading_monomial}

module _ (n : ℕ) (G : List Polynomial) (vars : Each (HasVars n) G) where
  -- that of the element of number i
  element-vars : (i : ℕ) → 1 ≤ i → i ≤ length G → element G i ≢ [] → length (leading_monomial (element G i)) ≡ n
  element-vars i low high nonzero = length-leading_monomial n (element G i) (Each-element (HasVars n) G i vars low high) nonzero

  -- the lcm of two of them
  pub pair-vars : (i j : ℕ) → 1 ≤ i → i < j → j ≤ length G → element G i ≢ [] → element G j ≢ [] → length (pair_lcm G i j) ≡ n
  pair-vars i j low below high f g =
      let first : length (leading_monomial (element G i)) ≡ n = element-vars i low (omega arith) f in
      let second : length (leading_monomial (element G j)) ≡ n = element-vars j (omega arith) high g in
      length-zip_with _ (leading_monomial (element G i)) (leading_monomial (element G j)) (first ∙ sym second) ∙ first

  module _ (g k : ℕ) (gens : List Polynomial) (job : Job) (in_range : IsJob g (length G) k job) (nonzero : NamesNonzero gens G job) where
    -- that of a pair
    pub pair_job-vars : (i j : ℕ) → job ≡ Pair i j → length (pair_lcm G i j) ≡ n
    pair_job-vars i j e =
        let numbers : IsJob g (length G) k (Pair i j) = subst (IsJob g (length G) k) e in_range in
        let names : NamesNonzero gens G (Pair i j) = subst (NamesNonzero gens G) e nonzero in
        pair-vars i j numbers.0 numbers.1 numbers.2 names.0 names.1

    module _ (i v : ℕ) (e : job ≡ Right i v) where
      numbers : IsJob g (length G) k (Right i v)
      numbers = subst (IsJob g (length G) k) e in_range

      lead-vars : length (leading_monomial (element G i)) ≡ n
      lead-vars = element-vars i numbers.0 numbers.1 (subst (NamesNonzero gens G) e nonzero)

      -- an element's leading monomial times a variable
      pub right-mono : (l : Monomial) (len : ℕ) (x m : Monomial) → l ≡ leading_monomial (element G i) → len ≡ length l → x ≡ variable len v → m ≡ plus l x
          → m ≡ plus (leading_monomial (element G i)) (variable n v)
      right-mono l len x m lead count var sum =
          let same : len ≡ n = count ∙ ap length lead ∙ lead-vars in
          sum ∙ ap (λ y. plus l y) (var ∙ ap (λ c. variable c v) same) ∙ ap (λ y. plus y (variable n v)) lead

      pub right-vars : k ≡ n → length (plus (leading_monomial (element G i)) (variable n v)) ≡ n
      right-vars same =
          let second : length (variable n v) ≡ n = length-variable n v numbers.2 (omega (arith, numbers.3, same)) in
          length-zip_with _ (leading_monomial (element G i)) (variable n v) (lead-vars ∙ sym second) ∙ lead-vars

-- lists in n and in k variables that share a nonzero element are in the same number of them
pub same-vars : (n k g : ℕ) (gens G : List Polynomial) (job : Job) (i v : ℕ) → Each (HasVars n) G → Each (HasVars k) G
    → IsJob g (length G) k job → NamesNonzero gens G job → job ≡ Right i v → k ≡ n
same-vars n k g gens G job i v hn hk in_range nonzero e =
    sym (lead-vars k G hk g k gens job in_range nonzero i v e) ∙ lead-vars n G hn g k gens job in_range nonzero i v e
