-- The seeds of a run, as they are queued.
use Rattle.std.proofs.Common.{◌≡◌, ℕ, suc, ◌+◌, ◌-◌, ◌<◌, ◌≤◌, ◌||◌, ◌==◌, Bool, true, false, List, [], ◌∷◌, ◌++◌, length, take, get_or, refl, sym, ap, ◌∙◌, arith}
use Rattle.std.proofs.lemmas.Bool.Decides.{nat_tests}
use Rattle.std.proofs.lemmas.List.{take_more, length-take-le}
use Rattle.monomials.specs.Polynomials.{Polynomial}
use Rattle.word_model.specs.Reduction.{element}
use Rattle.word_model.specs.Jobs.{is_queued}
use Rattle.word_model.specs.Machine.{seeds_from}
use Rattle.word_model.specs.declared.records.Job.{Job}
use Rattle.word_model.specs.declared.records.Job.TheVariants.{Seed}
use Rattle.pair_strategy.specs.Queues.{SameJobs}
use Rattle.commit_core.proofs.Bringing.{queued-append}

-- the seeds of two lists of generators
pub seeds_from-append : (s : ℕ) (fs gs : List Polynomial) → seeds_from s (fs ++ gs) ≡ seeds_from s fs ++ seeds_from (s + length fs) gs
seeds_from-append s [] gs = ap (λ i. seeds_from i gs) (omega arith)
seeds_from-append s ([] ∷ fs) gs = seeds_from-append (suc s) fs gs ∙ ap (λ i. seeds_from (suc s) fs ++ seeds_from i gs) (omega arith)
seeds_from-append s ((t ∷ f) ∷ fs) gs =
    ap (λ jobs. Seed s ∷ jobs) (seeds_from-append (suc s) fs gs ∙ ap (λ i. seeds_from (suc s) fs ++ seeds_from i gs) (omega arith))

-- a seed is not among those of generators before
pub seed-absent : (s t : ℕ) (fs : List Polynomial) → s + length fs ≤ t → is_queued (seeds_from s fs) (Seed t) ≡ false
seed-absent s t [] later = refl
seed-absent s t ([] ∷ fs) later = seed-absent (suc s) t fs (omega arith)
seed-absent s t ((x ∷ f) ∷ fs) later =
    let other : (t == s) ≡ false = grind (arith, nat_tests) in
    rw other (seed-absent (suc s) t fs (omega arith))

-- the seeds of one generator more
pub seeds-step : (gens : List Polynomial) (i : ℕ) (q new : List Job) → i < length gens → SameJobs (seeds_from 1 (take i gens)) q
    → ((other : Job) → is_queued new other ≡ (is_queued (seeds_from (i + 1) (element gens (i + 1) ∷ [])) other || is_queued q other))
    → SameJobs (seeds_from 1 (take (i + 1) gens)) new
seeds-step gens i q new low same added other =
    let place : i + 1 - 1 ≡ i = omega arith in
    let more : take (i + 1) gens ≡ take i gens ++ element gens (i + 1) ∷ [] = take_more gens i [] low ∙ ap (λ k. take i gens ++ get_or gens k [] ∷ []) (sym place) in
    let count : 1 + length (take i gens) ≡ i + 1 = omega (arith, length-take-le i gens (omega arith)) in
    ap (λ fs. is_queued (seeds_from 1 fs) other) more
    ∙ ap (λ jobs. is_queued jobs other) (seeds_from-append 1 (take i gens) (element gens (i + 1) ∷ []))
    ∙ queued-append (seeds_from 1 (take i gens)) (seeds_from (1 + length (take i gens)) (element gens (i + 1) ∷ [])) other
    ∙ ap (λ s. is_queued (seeds_from 1 (take i gens)) other || is_queued (seeds_from s (element gens (i + 1) ∷ [])) other) count
    ∙ turn (is_queued (seeds_from 1 (take i gens)) other) (is_queued (seeds_from (i + 1) (element gens (i + 1) ∷ [])) other)
    ∙ ap (λ t. is_queued (seeds_from (i + 1) (element gens (i + 1) ∷ [])) other || t) (same other)
    ∙ sym (added other)
  where
    turn : (a b : Bool) → (a || b) ≡ (b || a)
    turn true true = refl
    turn true false = refl
    turn false true = refl
    turn false false = refl
