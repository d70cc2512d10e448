-- Worked runs of the machine, computed from the definitions.
use Rattle.std.proofs.Common.{◌≡◌, ℕ, List, [], ◌∷◌, pos, Some, refl}
use Rattle.prime_field.specs.Modular.{inverse}
use Rattle.monomials.specs.Monomials.{Monomial}
use Rattle.monomials.specs.Polynomials.{Polynomial}
use Rattle.monomials.specs.Blocks.{dp_rows}
use Rattle.word_model.specs.Words.{Algebra, normal_form, normal_form_within}
use Rattle.word_model.specs.Products.{product}
use Rattle.word_model.specs.TwoVariables.{two_variables}
use Rattle.word_model.specs.Reduction.{steps_within, reduce, reduce_tail}
use Rattle.word_model.specs.Jobs.{start_of, chain_witness, job_sugar, element_sugar}
use Rattle.word_model.specs.Finished.{finished, kept}
use Rattle.word_model.specs.Machine.{step, run_within, machine}
use Rattle.word_model.specs.Cofactors.{basis_rows, cofactor_rows, row_value}
use Rattle.word_model.specs.Ideals.{StartReducesToZero}
use Rattle.word_model.specs.declared.records.Job.TheVariants.{Seed, Pair, Right}
use Rattle.word_model.specs.declared.records.TraceStep.{TraceStep}
use Rattle.word_model.specs.declared.records.Mode.TheVariants.{Left, TwoSided}
use Rattle.word_model.specs.declared.records.Entry.TheVariants.{Skipped, Zero, New}
use Rattle.word_model.specs.declared.records.Outcome.TheVariants.{Finished, BudgetSpent}

-- x d and d^2 where d x = x d + 1
abbrev weyl_generators : List Polynomial
weyl_generators = ((1, 1 ∷ 1 ∷ []) ∷ []) ∷ ((1, 0 ∷ 2 ∷ []) ∷ []) ∷ []

-- the left basis is d^2, x d and d
weyl_left : machine (two_variables 7 1 1) weyl_generators Left 5
    ≡ record {
      entries = New (Seed 2) [] 1 ∷ New (Seed 1) [] 1 ∷ New (Pair 1 2) [] 6 ∷ Zero (Pair 1 3) [] ∷ Zero (Pair 2 3) [] ∷ [];
      basis = ((1, 0 ∷ 2 ∷ []) ∷ []) ∷ ((1, 1 ∷ 1 ∷ []) ∷ []) ∷ ((1, 0 ∷ 1 ∷ []) ∷ []) ∷ [];
      outcome = Finished;
    }
unfolding machine run_within step chain_witness start_of reduce steps_within product normal_form normal_form_within inverse
weyl_left = refl

-- one entry, where the budget is one
weyl_budget : machine (two_variables 7 1 1) weyl_generators Left 1
    ≡ record { entries = New (Seed 2) [] 1 ∷ []; basis = ((1, 0 ∷ 2 ∷ []) ∷ []) ∷ []; outcome = BudgetSpent }
unfolding machine run_within step chain_witness start_of reduce steps_within product normal_form normal_form_within inverse
weyl_budget = refl

-- ---- three monomials x y, y z and x z: the last pair is skipped, and not the first, whose two other pairs are queued

abbrev three_commuting : Algebra
three_commuting = record { p = 7; order = record { vars = 3; rows = dp_rows 3 0 3 }; c = 1 ∷ 1 ∷ 1 ∷ []; d = [] ∷ [] ∷ [] ∷ [] }

three_monomials : machine three_commuting (((1, 1 ∷ 1 ∷ 0 ∷ []) ∷ []) ∷ ((1, 0 ∷ 1 ∷ 1 ∷ []) ∷ []) ∷ ((1, 1 ∷ 0 ∷ 1 ∷ []) ∷ []) ∷ []) Left 100
    ≡ record {
      entries = New (Seed 2) [] 1 ∷ New (Seed 3) [] 1 ∷ New (Seed 1) [] 1 ∷ Zero (Pair 1 2) [] ∷ Zero (Pair 1 3) [] ∷ Skipped (Pair 2 3) 1 ∷ [];
      basis = ((1, 0 ∷ 1 ∷ 1 ∷ []) ∷ []) ∷ ((1, 1 ∷ 0 ∷ 1 ∷ []) ∷ []) ∷ ((1, 1 ∷ 1 ∷ 0 ∷ []) ∷ []) ∷ [];
      outcome = Finished;
    }
unfolding machine run_within step chain_witness start_of reduce steps_within product normal_form normal_form_within inverse
three_monomials = refl

-- ---- pairs with the last element of the Weyl algebra's run, and the pair that is skipped above: their starts are reduced to zero

abbrev weyl_basis : List Polynomial
weyl_basis = ((1, 0 ∷ 2 ∷ []) ∷ []) ∷ ((1, 1 ∷ 1 ∷ []) ∷ []) ∷ ((1, 0 ∷ 1 ∷ []) ∷ []) ∷ []

first_with_last : StartReducesToZero (two_variables 7 1 1) weyl_generators weyl_basis (Pair 1 3)
unfolding start_of reduce steps_within product normal_form normal_form_within inverse
first_with_last = ([], refl, (refl, refl))

second_with_last : StartReducesToZero (two_variables 7 1 1) weyl_generators weyl_basis (Pair 2 3)
unfolding start_of reduce steps_within product normal_form normal_form_within inverse
second_with_last = ([], refl, (refl, refl))

skipped_to_zero : StartReducesToZero three_commuting []
    (((1, 0 ∷ 1 ∷ 1 ∷ []) ∷ []) ∷ ((1, 1 ∷ 0 ∷ 1 ∷ []) ∷ []) ∷ ((1, 1 ∷ 1 ∷ 0 ∷ []) ∷ []) ∷ []) (Pair 2 3)
unfolding start_of reduce steps_within product normal_form normal_form_within inverse
skipped_to_zero = ([], refl, (refl, refl))

-- ---- four monomials in four variables, each without one of them: all lcms are equal, so pairs go by j and then i

abbrev four_commuting : Algebra
four_commuting = record {
  p = 7;
  order = record { vars = 4; rows = dp_rows 4 0 4 };
  c = 1 ∷ 1 ∷ 1 ∷ 1 ∷ 1 ∷ 1 ∷ [];
  d = [] ∷ [] ∷ [] ∷ [] ∷ [] ∷ [] ∷ [];
}

abbrev four_monomials : List Polynomial
four_monomials =
    ((1, 0 ∷ 1 ∷ 1 ∷ 1 ∷ []) ∷ []) ∷ ((1, 1 ∷ 0 ∷ 1 ∷ 1 ∷ []) ∷ []) ∷ ((1, 1 ∷ 1 ∷ 0 ∷ 1 ∷ []) ∷ []) ∷ ((1, 1 ∷ 1 ∷ 1 ∷ 0 ∷ []) ∷ []) ∷ []

equal_lcms : machine four_commuting four_monomials Left 100
    ≡ record {
      entries =
          New (Seed 1) [] 1 ∷ New (Seed 2) [] 1 ∷ New (Seed 3) [] 1 ∷ New (Seed 4) [] 1 ∷ Zero (Pair 1 2) [] ∷ Zero (Pair 1 3) []
          ∷ Skipped (Pair 2 3) 1 ∷ Zero (Pair 1 4) [] ∷ Skipped (Pair 2 4) 1 ∷ Skipped (Pair 3 4) 1 ∷ [];
      basis = four_monomials;
      outcome = Finished;
    }
unfolding machine run_within step chain_witness start_of reduce steps_within product normal_form normal_form_within inverse
equal_lcms = refl

-- ---- the Heisenberg algebra in x, y, a, b, z, where a x = x a + z and b y = y b + z: x a, y b, z - 1 and a^2

abbrev heisenberg : Algebra
heisenberg = record {
  p = 32003;
  order = record { vars = 5; rows = dp_rows 5 0 5 };
  c = 1 ∷ 1 ∷ 1 ∷ 1 ∷ 1 ∷ 1 ∷ 1 ∷ 1 ∷ 1 ∷ 1 ∷ [];
  d = [] ∷ ((1, 0 ∷ 0 ∷ 0 ∷ 0 ∷ 1 ∷ []) ∷ []) ∷ [] ∷ [] ∷ [] ∷ ((1, 0 ∷ 0 ∷ 0 ∷ 0 ∷ 1 ∷ []) ∷ []) ∷ [] ∷ [] ∷ [] ∷ [] ∷ [];
}

abbrev heisenberg_generators : List Polynomial
heisenberg_generators =
    ((1, 1 ∷ 0 ∷ 1 ∷ 0 ∷ 0 ∷ []) ∷ []) ∷ ((1, 0 ∷ 1 ∷ 0 ∷ 1 ∷ 0 ∷ []) ∷ [])
    ∷ ((1, 0 ∷ 0 ∷ 0 ∷ 0 ∷ 1 ∷ []) ∷ (32002, 0 ∷ 0 ∷ 0 ∷ 0 ∷ 0 ∷ []) ∷ []) ∷ ((1, 0 ∷ 0 ∷ 2 ∷ 0 ∷ 0 ∷ []) ∷ []) ∷ []

-- the step -1 times the element of number i
abbrev minus_one_times : ℕ → TraceStep
minus_one_times i = record { coef = 32002; mono = 0 ∷ 0 ∷ 0 ∷ 0 ∷ 0 ∷ []; index = i }

heisenberg_left : machine heisenberg heisenberg_generators Left 100
    ≡ record {
      entries =
          New (Seed 3) [] 1 ∷ New (Seed 2) [] 1 ∷ New (Seed 4) [] 1 ∷ New (Seed 1) [] 1
          ∷ Zero (Pair 1 2) (minus_one_times 2 ∷ []) ∷ Zero (Pair 1 3) (minus_one_times 3 ∷ []) ∷ Zero (Pair 1 4) (minus_one_times 4 ∷ [])
          ∷ New (Pair 3 4) (record { coef = 32002; mono = 0 ∷ 0 ∷ 1 ∷ 0 ∷ 0 ∷ []; index = 1 } ∷ []) 32002
          ∷ Zero (Pair 1 5) (minus_one_times 5 ∷ []) ∷ Zero (Pair 3 5) [] ∷ Zero (Pair 4 5) [] ∷ Zero (Pair 2 3) []
          ∷ Zero (Pair 2 4) [] ∷ Zero (Pair 2 5) [] ∷ [];
      basis =
          ((1, 0 ∷ 0 ∷ 0 ∷ 0 ∷ 1 ∷ []) ∷ (32002, 0 ∷ 0 ∷ 0 ∷ 0 ∷ 0 ∷ []) ∷ []) ∷ ((1, 0 ∷ 1 ∷ 0 ∷ 1 ∷ 0 ∷ []) ∷ [])
          ∷ ((1, 0 ∷ 0 ∷ 2 ∷ 0 ∷ 0 ∷ []) ∷ []) ∷ ((1, 1 ∷ 0 ∷ 1 ∷ 0 ∷ 0 ∷ []) ∷ []) ∷ ((1, 0 ∷ 0 ∷ 1 ∷ 0 ∷ 0 ∷ []) ∷ []) ∷ [];
      outcome = Finished;
    }
unfolding machine run_within step chain_witness start_of reduce steps_within product normal_form normal_form_within inverse
heisenberg_left = refl

-- ---- a two-sided run: the ideal of x where d x = x d + 1 is everything

weyl_two_sided : machine (two_variables 7 1 1) (((1, 1 ∷ 0 ∷ []) ∷ []) ∷ []) TwoSided 3
    ≡ record {
      entries =
          New (Seed 1) [] 1 ∷ New (Right 1 2) (record { coef = 1; mono = 0 ∷ 1 ∷ []; index = 1 } ∷ []) 6
          ∷ Zero (Right 1 1) (record { coef = 1; mono = 1 ∷ 0 ∷ []; index = 1 } ∷ []) ∷ [];
      basis = ((1, 1 ∷ 0 ∷ []) ∷ []) ∷ ((1, 0 ∷ 0 ∷ []) ∷ []) ∷ [];
      outcome = BudgetSpent;
    }
unfolding machine run_within step chain_witness start_of reduce steps_within product normal_form normal_form_within inverse
weyl_two_sided = refl

-- ---- the order of keys, in one run: x y + x z, x y, x^2 + x y and x y z in commuting variables

-- the step of number c times m times the element of number i
abbrev step_of : ℕ → Monomial → ℕ → TraceStep
step_of c m i = record { coef = c; mono = m; index = i }

-- Of seeds of equal monomials the first comes first, and the third element's tail is left alone. Then x z^2 comes before
-- x y z, where the seed comes first, then the pair, then the products of the first element and of the second, though it
-- is times an earlier variable.
strategy : machine three_commuting
    (((1, 1 ∷ 1 ∷ 0 ∷ []) ∷ (1, 1 ∷ 0 ∷ 1 ∷ []) ∷ []) ∷ ((1, 1 ∷ 1 ∷ 0 ∷ []) ∷ []) ∷ ((1, 2 ∷ 0 ∷ 0 ∷ []) ∷ (1, 1 ∷ 1 ∷ 0 ∷ []) ∷ []) ∷ ((1, 1 ∷ 1 ∷ 1 ∷ []) ∷ []) ∷ []) TwoSided 8
    ≡ record {
      entries =
          New (Seed 1) [] 1 ∷ New (Seed 2) (step_of 1 (0 ∷ 0 ∷ 0 ∷ []) 1 ∷ []) 6 ∷ New (Seed 3) [] 1
          ∷ Zero (Right 2 3) (step_of 1 (0 ∷ 0 ∷ 1 ∷ []) 2 ∷ [])
          ∷ Zero (Seed 4) (step_of 1 (0 ∷ 0 ∷ 1 ∷ []) 1 ∷ step_of 6 (0 ∷ 0 ∷ 1 ∷ []) 2 ∷ [])
          ∷ Zero (Pair 1 2) (step_of 1 (0 ∷ 0 ∷ 1 ∷ []) 2 ∷ [])
          ∷ Zero (Right 1 3) (step_of 1 (0 ∷ 0 ∷ 1 ∷ []) 1 ∷ [])
          ∷ Zero (Right 2 2) (step_of 1 (0 ∷ 0 ∷ 1 ∷ []) 1 ∷ step_of 6 (0 ∷ 0 ∷ 1 ∷ []) 2 ∷ []) ∷ [];
      basis =
          ((1, 1 ∷ 1 ∷ 0 ∷ []) ∷ (1, 1 ∷ 0 ∷ 1 ∷ []) ∷ []) ∷ ((1, 1 ∷ 0 ∷ 1 ∷ []) ∷ []) ∷ ((1, 2 ∷ 0 ∷ 0 ∷ []) ∷ (1, 1 ∷ 1 ∷ 0 ∷ []) ∷ []) ∷ [];
      outcome = BudgetSpent;
    }
unfolding machine run_within step chain_witness start_of reduce steps_within product normal_form normal_form_within inverse
strategy = refl

-- ---- sugars of the Heisenberg run

-- The sugars of its elements are 1, 2, 2, 2 and 3: the last has the leading monomial a, and its job has the lcm x a^2.
abbrev heisenberg_basis : List Polynomial
heisenberg_basis =
    ((1, 0 ∷ 0 ∷ 0 ∷ 0 ∷ 1 ∷ []) ∷ (32002, 0 ∷ 0 ∷ 0 ∷ 0 ∷ 0 ∷ []) ∷ []) ∷ ((1, 0 ∷ 1 ∷ 0 ∷ 1 ∷ 0 ∷ []) ∷ [])
    ∷ ((1, 0 ∷ 0 ∷ 2 ∷ 0 ∷ 0 ∷ []) ∷ []) ∷ ((1, 1 ∷ 0 ∷ 1 ∷ 0 ∷ 0 ∷ []) ∷ []) ∷ ((1, 0 ∷ 0 ∷ 1 ∷ 0 ∷ 0 ∷ []) ∷ []) ∷ []

seed_sugar : job_sugar heisenberg_generators [] [] (Seed 3) ≡ 1
seed_sugar = refl

last_job_sugar : job_sugar heisenberg_generators heisenberg_basis (1 ∷ 2 ∷ 2 ∷ 2 ∷ []) (Pair 3 4) ≡ 3
last_job_sugar = refl

last_sugar : element_sugar (1 ∷ 2 ∷ 2 ∷ 2 ∷ []) 3 (step_of 32002 (0 ∷ 0 ∷ 1 ∷ 0 ∷ 0 ∷ []) 1 ∷ []) ≡ 3
last_sugar = refl

-- a step that reaches higher than the job
higher_sugar : element_sugar (1 ∷ 2 ∷ 2 ∷ 2 ∷ []) 3 (step_of 1 (0 ∷ 0 ∷ 3 ∷ 0 ∷ 0 ∷ []) 2 ∷ step_of 1 (0 ∷ 0 ∷ 1 ∷ 0 ∷ 0 ∷ []) 1 ∷ []) ≡ 5
higher_sugar = refl

pair_sugar : job_sugar heisenberg_generators heisenberg_basis (1 ∷ 2 ∷ 2 ∷ 2 ∷ 3 ∷ []) (Pair 2 5) ≡ 5
pair_sugar = refl

lower_pair_sugar : job_sugar heisenberg_generators heisenberg_basis (1 ∷ 2 ∷ 2 ∷ 2 ∷ 3 ∷ []) (Pair 1 5) ≡ 4
lower_pair_sugar = refl

right_sugar : job_sugar heisenberg_generators heisenberg_basis (1 ∷ 2 ∷ 2 ∷ 2 ∷ 3 ∷ []) (Right 5 1) ≡ 4
right_sugar = refl

-- ---- finished lists

-- the list of the Weyl algebra's run above is d alone
weyl_list : finished (two_variables 7 1 1) (((1, 0 ∷ 2 ∷ []) ∷ []) ∷ ((1, 1 ∷ 1 ∷ []) ∷ []) ∷ ((1, 0 ∷ 1 ∷ []) ∷ []) ∷ [])
    ≡ Some (record { list = ((1, 0 ∷ 1 ∷ []) ∷ []) ∷ []; origin = 3 ∷ []; tails = [] ∷ [] })
unfolding finished kept reduce_tail steps_within
weyl_list = refl

-- that of the Heisenberg run is z - 1, a and y b
heisenberg_list : finished heisenberg (machine heisenberg heisenberg_generators Left 100).basis
    ≡ Some (record {
      list =
          ((1, 0 ∷ 0 ∷ 0 ∷ 0 ∷ 1 ∷ []) ∷ (32002, 0 ∷ 0 ∷ 0 ∷ 0 ∷ 0 ∷ []) ∷ []) ∷ ((1, 0 ∷ 0 ∷ 1 ∷ 0 ∷ 0 ∷ []) ∷ [])
          ∷ ((1, 0 ∷ 1 ∷ 0 ∷ 1 ∷ 0 ∷ []) ∷ []) ∷ [];
      origin = 1 ∷ 5 ∷ 2 ∷ [];
      tails = [] ∷ [] ∷ [] ∷ [];
    })
unfolding finished kept reduce_tail steps_within
heisenberg_list = rw heisenberg_left refl

-- x - y, y - z and z - 1, ordered lexicographically: two tails are reduced, by the elements as they stand in the basis
abbrev lexicographic : Algebra
lexicographic = record {
  p = 7;
  order = record { vars = 3; rows = (pos 1 ∷ pos 0 ∷ pos 0 ∷ []) ∷ (pos 0 ∷ pos 1 ∷ pos 0 ∷ []) ∷ (pos 0 ∷ pos 0 ∷ pos 1 ∷ []) ∷ [] };
  c = 1 ∷ 1 ∷ 1 ∷ [];
  d = [] ∷ [] ∷ [] ∷ [];
}

abbrev less_next : List Polynomial
less_next =
    ((1, 1 ∷ 0 ∷ 0 ∷ []) ∷ (6, 0 ∷ 1 ∷ 0 ∷ []) ∷ []) ∷ ((1, 0 ∷ 1 ∷ 0 ∷ []) ∷ (6, 0 ∷ 0 ∷ 1 ∷ []) ∷ [])
    ∷ ((1, 0 ∷ 0 ∷ 1 ∷ []) ∷ (6, 0 ∷ 0 ∷ 0 ∷ []) ∷ []) ∷ []

less_by : ℕ → TraceStep
less_by i = record { coef = 6; mono = 0 ∷ 0 ∷ 0 ∷ []; index = i }

tails_are_reduced : finished lexicographic (machine lexicographic less_next Left 100).basis
    ≡ Some (record {
      list =
          ((1, 0 ∷ 0 ∷ 1 ∷ []) ∷ (6, 0 ∷ 0 ∷ 0 ∷ []) ∷ []) ∷ ((1, 0 ∷ 1 ∷ 0 ∷ []) ∷ (6, 0 ∷ 0 ∷ 0 ∷ []) ∷ [])
          ∷ ((1, 1 ∷ 0 ∷ 0 ∷ []) ∷ (6, 0 ∷ 0 ∷ 0 ∷ []) ∷ []) ∷ [];
      origin = 1 ∷ 2 ∷ 3 ∷ [];
      tails = [] ∷ (less_by 1 ∷ []) ∷ (less_by 2 ∷ less_by 1 ∷ []) ∷ [];
    })
unfolding finished kept reduce_tail machine run_within step chain_witness start_of reduce steps_within product normal_form normal_form_within inverse less_by
tails_are_reduced = refl

-- ---- rows of cofactors

-- of the Weyl algebra's run: d is d times x d less x times d^2
weyl_rows : cofactor_rows (two_variables 7 1 1) weyl_generators (machine (two_variables 7 1 1) weyl_generators Left 5)
    (record { list = ((1, 0 ∷ 1 ∷ []) ∷ []) ∷ []; origin = 3 ∷ []; tails = [] ∷ [] })
    ≡ Some ((((1, 0 ∷ 1 ∷ []) ∷ []) ∷ ((6, 1 ∷ 0 ∷ []) ∷ []) ∷ []) ∷ [])
unfolding cofactor_rows basis_rows machine run_within step chain_witness start_of reduce steps_within product normal_form normal_form_within inverse
weyl_rows = refl

-- the value of that row is d
weyl_row_value : row_value (two_variables 7 1 1) (((1, 0 ∷ 1 ∷ []) ∷ []) ∷ ((6, 1 ∷ 0 ∷ []) ∷ []) ∷ []) weyl_generators
    ≡ (1, 0 ∷ 1 ∷ []) ∷ []
unfolding product normal_form normal_form_within
weyl_row_value = refl

-- of the lexicographic run, whose last element is x - y plus y - z plus z - 1
lexicographic_rows : cofactor_rows lexicographic less_next (machine lexicographic less_next Left 100)
    (record { list = []; origin = 3 ∷ []; tails = (less_by 2 ∷ less_by 1 ∷ []) ∷ [] })
    ≡ Some ((((1, 0 ∷ 0 ∷ 0 ∷ []) ∷ []) ∷ ((1, 0 ∷ 0 ∷ 0 ∷ []) ∷ []) ∷ ((1, 0 ∷ 0 ∷ 0 ∷ []) ∷ []) ∷ []) ∷ [])
unfolding cofactor_rows basis_rows machine run_within step chain_witness start_of reduce steps_within product normal_form normal_form_within inverse less_by
lexicographic_rows = refl
