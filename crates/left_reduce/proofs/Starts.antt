-- Starts of jobs, as the program makes them.
use Rattle.std.proofs.Common.{◌≡◌, ℕ, ◌++◌, true, false, List, length, Option, Some, None, Result, Ok, Err, OnOk, IfOk, if◌then◌else◌, refl, sym, ap, ◌∙◌, arith}
use Rattle.monomials.specs.Polynomials.{Polynomial}
use Rattle.word_model.specs.Words.{Algebra}
use Rattle.word_model.specs.Products.{product, variable_polynomial, in_reach}
use Rattle.word_model.specs.Reduction.{element}
use Rattle.word_model.specs.Jobs.{start_of, s_polynomial, both_within, IsJob}
use Rattle.word_model.specs.declared.records.Job.{Job}
use Rattle.word_model.specs.declared.records.Job.TheVariants.{Seed, Pair, Right}

-- what follows from a value and from a fact that holds where there is one
pub with_fact : {X E : Type 0} (r : Result X E) (W : Type 0) (P Q : X → Type 0) → OnOk r W → IfOk r P → (W → (x : X) → P x → Q x) → IfOk r Q
with_fact (Ok x) W P Q w p f = f w x p
with_fact (Err e) W P Q w p f = tt

module _ (A : Algebra) (gens G : List Polynomial) (job : Job) where
  pub start-seed : (s : ℕ) (h : Polynomial) → job ≡ Seed s → h ≡ element gens s → start_of A gens G job ≡ Some h
  unfolding start_of
  start-seed s h is same = ap (start_of A gens G) is ∙ ap Some (sym same)

  pub start-pair : (i j : ℕ) (h : Polynomial) → job ≡ Pair i j → both_within (element G i) (element G j) ≡ true
      → h ≡ s_polynomial A (element G i) (element G j) → start_of A gens G job ≡ Some h
  unfolding start_of
  start-pair i j h is within same =
      ap (start_of A gens G) is ∙ (λ k. if within k then Some (s_polynomial A (element G i) (element G j)) else None) ∙ ap Some (sym same)

  pub start-pair_over : (i j : ℕ) → job ≡ Pair i j → both_within (element G i) (element G j) ≡ false → start_of A gens G job ≡ None
  unfolding start_of
  start-pair_over i j is over = ap (start_of A gens G) is ∙ (λ k. if over k then Some (s_polynomial A (element G i) (element G j)) else None)

  pub start-right : (i v : ℕ) (h : Polynomial) → job ≡ Right i v → in_reach (element G i) (variable_polynomial A v) ≡ true
      → h ≡ product A (element G i) (variable_polynomial A v) → start_of A gens G job ≡ Some h
  unfolding start_of
  start-right i v h is within same =
      ap (start_of A gens G) is ∙ (λ k. if within k then Some (product A (element G i) (variable_polynomial A v)) else None) ∙ ap Some (sym same)

  pub start-right_over : (i v : ℕ) → job ≡ Right i v → in_reach (element G i) (variable_polynomial A v) ≡ false → start_of A gens G job ≡ None
  unfolding start_of
  start-right_over i v is over =
      ap (start_of A gens G) is ∙ (λ k. if over k then Some (product A (element G i) (variable_polynomial A v)) else None)
