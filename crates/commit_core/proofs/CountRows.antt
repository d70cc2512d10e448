-- Worked rows of the counter: by how much it rises at a commit, without a Spec and with Specs of several prefixes.
use Rattle.std.proofs.Common.{◌≡◌, ◌↔◌, ℕ, ◌+◌, List, [], ◌∷◌, ◌++◌, length, length-append, take, Option, Some, None, refl, sym, ap, ◌∙◌, subst, arith}
use Rattle.prime_field.specs.Modular.{inverse}
use Rattle.monomials.specs.Polynomials.{Polynomial}
use Rattle.monomials.specs.Blocks.{dp_rows}
use Rattle.word_model.specs.Words.{Algebra, normal_form, normal_form_within}
use Rattle.word_model.specs.Products.{product}
use Rattle.word_model.specs.Elimination.{elimination_order}
use Rattle.word_model.specs.Reduction.{steps_within, reduce}
use Rattle.word_model.specs.Jobs.{start_of, chain_witness}
use Rattle.word_model.specs.Machine.{Journal, step, run_within, machine}
use Rattle.word_model.specs.declared.records.Job.{Job}
use Rattle.word_model.specs.declared.records.Job.TheVariants.{Seed, Pair}
use Rattle.word_model.specs.declared.records.Mode.TheVariants.{Left}
use Rattle.word_model.specs.declared.records.TraceStep.{TraceStep}
use Rattle.word_model.specs.declared.records.Entry.{Entry}
use Rattle.word_model.specs.declared.records.Entry.TheVariants.{Zero, New}
use Rattle.word_model.specs.declared.records.Outcome.TheVariants.{BudgetSpent}
use Rattle.run_records.specs.Ahead.{ReducedStart}
use Rattle.commit_core.specs.Specs.{IsCounted, GoesOn, spec_over, steps_of, start_left}

-- the commit that adds the last of these entries, from this Spec, raises the counter by k, and by nothing else
abbrev RisesBy : Option ReducedStart → List Entry → ℕ → Type 0
RisesBy spec entries k =
    (done : List Entry) (entry : Entry) → entries ≡ done ++ entry ∷ [] → (old new : ℕ) → IsCounted spec entry old new ↔ (new ≡ old + k)

last_is : (done others : List Entry) (entry other : Entry) → done ++ entry ∷ [] ≡ others ++ other ∷ [] → entry ≡ other
last_is [] [] entry other e = cc
last_is [] (a ∷ []) entry other e = cc
last_is [] (a ∷ (b ∷ others)) entry other e = cc
last_is (a ∷ []) [] entry other e = cc
last_is (a ∷ (b ∷ done)) [] entry other e = cc
last_is (a ∷ done) (b ∷ others) entry other e = last_is done others entry other cc

-- it rises by the products of the start, unless that was made ahead, and by the steps behind those that were
goes_on : (spec : Option ReducedStart) (job : Job) (more : List TraceStep) (old new : ℕ)
    → GoesOn spec job (steps_of spec ++ more) old new ↔ (new ≡ old + (start_left spec job + length more))
goes_on spec job more old new = (
  λ (others, whole, count). omega (arith, count, sym (length-append (steps_of spec) more) ∙ ap length whole ∙ length-append (steps_of spec) others),
  λ count. (more, refl, count),
)

rises-new : (spec : Option ReducedStart) (entries done : List Entry) (job : Job) (more : List TraceStep) (scale : ℕ)
    → entries ≡ done ++ New job (steps_of spec ++ more) scale ∷ [] → RisesBy spec entries (start_left spec job + length more)
rises-new spec entries done job more scale is others entry e old new =
    subst (λ x. IsCounted spec x old new ↔ (new ≡ old + (start_left spec job + length more)))
    (last_is done others (New job (steps_of spec ++ more) scale) entry (sym is ∙ e)) (goes_on spec job more old new)

-- ---- x - t and y - t^2, in commuting t, x and y modulo 101, in an order that eliminates t

abbrev plane : Algebra
plane = record {
  p = 101;
  order = elimination_order (1 ∷ []) (record { vars = 3; rows = dp_rows 3 0 3 });
  c = 1 ∷ 1 ∷ 1 ∷ [];
  d = [] ∷ [] ∷ [] ∷ [];
}

abbrev curve : List Polynomial
curve = ((100, 1 ∷ 0 ∷ 0 ∷ []) ∷ (1, 0 ∷ 1 ∷ 0 ∷ []) ∷ []) ∷ ((100, 2 ∷ 0 ∷ 0 ∷ []) ∷ (1, 0 ∷ 0 ∷ 1 ∷ []) ∷ []) ∷ []

-- (-1, t, 1) and (-1, x, 1)
abbrev curve_steps : List TraceStep
curve_steps = record { coef = 100; mono = 1 ∷ 0 ∷ 0 ∷ []; index = 1 } ∷ record { coef = 100; mono = 0 ∷ 1 ∷ 0 ∷ []; index = 1 } ∷ []

-- t - x and x^2 - y
abbrev curve_basis : List Polynomial
curve_basis = ((1, 1 ∷ 0 ∷ 0 ∷ []) ∷ (100, 0 ∷ 1 ∷ 0 ∷ []) ∷ []) ∷ ((1, 0 ∷ 2 ∷ 0 ∷ []) ∷ (100, 0 ∷ 0 ∷ 1 ∷ []) ∷ []) ∷ []

abbrev two_commits : Journal
two_commits = machine plane curve Left 2

two_commits-are : two_commits ≡ record { entries = New (Seed 1) [] 100 ∷ New (Seed 2) curve_steps 100 ∷ []; basis = curve_basis; outcome = BudgetSpent }
unfolding inverse normal_form normal_form_within product steps_within reduce start_of chain_witness step run_within machine
two_commits-are = refl

-- the Spec of Seed 2 by the first m elements
abbrev curve_spec : ℕ → Option ReducedStart
curve_spec m = spec_over plane curve (take m two_commits.basis) m (Seed 2)

-- by none, which makes no step
abbrev unreduced : ReducedStart
unreduced = record { job = Seed 2; prefix = 0; trace = []; rest = (100, 2 ∷ 0 ∷ 0 ∷ []) ∷ (1, 0 ∷ 0 ∷ 1 ∷ []) ∷ [] }

curve_spec-none : curve_spec 0 ≡ Some unreduced
unfolding inverse normal_form normal_form_within product steps_within reduce start_of chain_witness step run_within machine
curve_spec-none = refl

-- and by the first, which makes both
abbrev reduced : ReducedStart
reduced = record { job = Seed 2; prefix = 1; trace = curve_steps; rest = (100, 0 ∷ 2 ∷ 0 ∷ []) ∷ (1, 0 ∷ 0 ∷ 1 ∷ []) ∷ [] }

curve_spec-one : curve_spec 1 ≡ Some reduced
unfolding inverse normal_form normal_form_within product steps_within reduce start_of chain_witness step run_within machine
curve_spec-one = refl

module _ (spec : Option ReducedStart) (more : List TraceStep) (parts : curve_steps ≡ steps_of spec ++ more) where
  curve-rises : RisesBy spec two_commits.entries (start_left spec (Seed 2) + length more)
  curve-rises =
      rises-new spec two_commits.entries (New (Seed 1) [] 100 ∷ []) (Seed 2) more 100
      (ap (λ (j : Journal). j.entries) two_commits-are ∙ ap (λ trace. New (Seed 1) [] 100 ∷ New (Seed 2) trace 100 ∷ []) parts)

-- both steps count where none was made ahead
curve_alone : RisesBy None two_commits.entries 2
curve_alone = curve-rises None curve_steps refl

curve_over_none : RisesBy (curve_spec 0) two_commits.entries 2
curve_over_none = subst (λ spec. RisesBy spec two_commits.entries 2) (sym curve_spec-none) (curve-rises (Some unreduced) curve_steps refl)

curve_over_one : RisesBy (curve_spec 1) two_commits.entries 0
curve_over_one = subst (λ spec. RisesBy spec two_commits.entries 0) (sym curve_spec-one) (curve-rises (Some reduced) [] refl)

-- ---- x a, y b, z - 1 and a^2 in the Heisenberg algebra, where a x = x a + z and b y = y b + z

abbrev heisenberg : Algebra
heisenberg = record {
  p = 32003;
  order = record { vars = 5; rows = dp_rows 5 0 5 };
  c = 1 ∷ 1 ∷ 1 ∷ 1 ∷ 1 ∷ 1 ∷ 1 ∷ 1 ∷ 1 ∷ 1 ∷ [];
  d = [] ∷ ((1, 0 ∷ 0 ∷ 0 ∷ 0 ∷ 1 ∷ []) ∷ []) ∷ [] ∷ [] ∷ [] ∷ ((1, 0 ∷ 0 ∷ 0 ∷ 0 ∷ 1 ∷ []) ∷ []) ∷ [] ∷ [] ∷ [] ∷ [] ∷ [];
}

abbrev xa : Polynomial
xa = (1, 1 ∷ 0 ∷ 1 ∷ 0 ∷ 0 ∷ []) ∷ []

abbrev yb : Polynomial
yb = (1, 0 ∷ 1 ∷ 0 ∷ 1 ∷ 0 ∷ []) ∷ []

abbrev z_less_one : Polynomial
z_less_one = (1, 0 ∷ 0 ∷ 0 ∷ 0 ∷ 1 ∷ []) ∷ (32002, 0 ∷ 0 ∷ 0 ∷ 0 ∷ 0 ∷ []) ∷ []

abbrev a2 : Polynomial
a2 = (1, 0 ∷ 0 ∷ 2 ∷ 0 ∷ 0 ∷ []) ∷ []

abbrev a : Polynomial
a = (1, 0 ∷ 0 ∷ 1 ∷ 0 ∷ 0 ∷ []) ∷ []

abbrev generators : List Polynomial
generators = xa ∷ yb ∷ z_less_one ∷ a2 ∷ []

-- (-1, m, i)
abbrev less : List ℕ → ℕ → List TraceStep
less m i = record { coef = 32002; mono = m; index = i } ∷ []

abbrev first_seven : List Entry
first_seven =
    New (Seed 3) [] 1 ∷ New (Seed 2) [] 1 ∷ New (Seed 4) [] 1 ∷ New (Seed 1) [] 1
    ∷ Zero (Pair 1 2) (less (0 ∷ 0 ∷ 0 ∷ 0 ∷ 0 ∷ []) 2) ∷ Zero (Pair 1 3) (less (0 ∷ 0 ∷ 0 ∷ 0 ∷ 0 ∷ []) 3) ∷ Zero (Pair 1 4) (less (0 ∷ 0 ∷ 0 ∷ 0 ∷ 0 ∷ []) 4) ∷ []

abbrev step_by_a : List TraceStep
step_by_a = less (0 ∷ 0 ∷ 1 ∷ 0 ∷ 0 ∷ []) 1

abbrev eight_commits : Journal
eight_commits = machine heisenberg generators Left 8

eight_commits-are : eight_commits
    ≡ record { entries = first_seven ++ New (Pair 3 4) step_by_a 32002 ∷ []; basis = z_less_one ∷ yb ∷ a2 ∷ xa ∷ a ∷ []; outcome = BudgetSpent }
unfolding inverse normal_form normal_form_within product steps_within reduce start_of chain_witness step run_within machine
eight_commits-are = refl

-- the Spec of Pair 3 4 by the four elements before it
abbrev pair_spec : Option ReducedStart
pair_spec = spec_over heisenberg generators (take 4 eight_commits.basis) 4 (Pair 3 4)

abbrev pair_reduced : ReducedStart
pair_reduced = record { job = Pair 3 4; prefix = 4; trace = step_by_a; rest = (32002, 0 ∷ 0 ∷ 1 ∷ 0 ∷ 0 ∷ []) ∷ [] }

pair_spec-is : pair_spec ≡ Some pair_reduced
unfolding inverse normal_form normal_form_within product steps_within reduce start_of chain_witness step run_within machine
pair_spec-is = refl

module _ (spec : Option ReducedStart) (more : List TraceStep) (parts : step_by_a ≡ steps_of spec ++ more) where
  pair-rises : RisesBy spec eight_commits.entries (start_left spec (Pair 3 4) + length more)
  pair-rises =
      rises-new spec eight_commits.entries first_seven (Pair 3 4) more 32002
      (ap (λ (j : Journal). j.entries) eight_commits-are ∙ ap (λ trace. first_seven ++ New (Pair 3 4) trace 32002 ∷ []) parts)

-- two products make the start, and one the step
pair_alone : RisesBy None eight_commits.entries 3
pair_alone = pair-rises None step_by_a refl

pair_ahead : RisesBy pair_spec eight_commits.entries 0
pair_ahead = subst (λ spec. RisesBy spec eight_commits.entries 0) (sym pair_spec-is) (pair-rises (Some pair_reduced) [] refl)
