-- The functions of scripts. Adding one is a clause of `apply` and its definition.
use Rattle.std.specs.Prelude.{ℕ, zero, suc, ◌+◌, Bool, true, false, List, [], ◌∷◌, ◌++◌, map, length, nat_lt, codes, Option, Some, None, Ok, Err, if◌then◌else◌, cond}
use Rattle.std.specs.Fmt.{decimal}
use Rattle.monomials.specs.Monomials.{Monomial}
use Rattle.monomials.specs.Orders.{order_cmp}
use Rattle.monomials.specs.Polynomials.{Polynomial, from_terms}
use Rattle.word_model.specs.Words.{Algebra}
use Rattle.word_model.specs.Limits.{most_generators}
use Rattle.word_model.specs.Reduction.{Reduced, normal_form_by}
use Rattle.word_model.specs.Finished.{FinishedList, finished}
use Rattle.word_model.specs.Machine.{Journal, machine}
use Rattle.word_model.specs.Cofactors.{cofactor_rows}
use Rattle.word_model.specs.Syzygies.{syzygy_rows}
use Rattle.word_model.specs.Conditions.{Fault, relations_fault}
use Rattle.word_model.specs.Elimination.{elimination_order, restricted}
use Rattle.word_model.specs.Certificates.{Certificate, made_lines}
use Rattle.algebra.specs.Reordered.{reordered}
use Rattle.word_model.specs.CertificateTexts.{certificate_text}
use Rattle.word_model.specs.declared.records.Entry.{Entry}
use Rattle.word_model.specs.declared.records.Entry.TheVariants as entry
use Rattle.word_model.specs.declared.records.Mode.{Mode}
use Rattle.word_model.specs.declared.records.Mode.TheVariants.{Left, TwoSided}
use Rattle.word_model.specs.declared.records.Outcome.TheVariants.{Finished, BudgetSpent, BasisFull, DegreeOver}
use Rattle.script_model.specs.declared.values.Value.{Value}
use Rattle.script_model.specs.declared.values.Value.TheVariants.{Poly, Ideal, Module, Lines}
use Rattle.script_model.specs.declared.values.Refusal.TheVariants as refused
use Rattle.plural_syntax.specs.declared.tree.Function.{Function}
use Rattle.plural_syntax.specs.declared.tree.Function.TheVariants as fn
use Rattle.script_model.specs.Refusals.{Outcome, ◌>>=◌}
use Rattle.script_model.specs.Environment.{Ring}

-- ---- arguments

-- the polynomials of a poly or an ideal
abbrev pub generators_of : Value → Outcome (List Polynomial)
generators_of (Poly f) = Ok (f ∷ [])
generators_of (Ideal gens) = Ok gens
generators_of _ = Err refused.Kind

abbrev pub all_generators : List Value → Outcome (List Polynomial)
all_generators [] = Ok []
all_generators (v ∷ vs) = generators_of v >>= λ fs. all_generators vs >>= λ gs. Ok (fs ++ gs)

abbrev pub few_generators : List Polynomial → Outcome (List Polynomial)
few_generators gens = if nat_lt most_generators (length gens) then Err refused.Limit else Ok gens

-- polys and ideals, joined in order
abbrev pub joined : List Value → Outcome (List Polynomial)
joined vs = all_generators vs >>= few_generators

-- ---- runs

abbrev pub finished_run : ℕ → Journal → Outcome Journal
finished_run budget run = elim run.outcome [
  | Finished ↦ Ok run
  | BudgetSpent ↦ Err (refused.BudgetSpent budget)
  | BasisFull ↦ Err refused.BasisFull
  | DegreeOver ↦ Err refused.DegreeOver
]

-- what is there, and where it is not a product had too high a degree
abbrev pub reached : {A : Type 0} → Option A → Outcome A
reached None = Err refused.DegreeOver
reached (Some a) = Ok a

-- a finished run with its finished list
abbrev pub Basis : Type 0
Basis = Journal × FinishedList

-- a run over these generators, which is finished
abbrev pub run_over : Algebra → Mode → ℕ → List Polynomial → Outcome Journal
run_over A mode budget gens = finished_run budget (machine A gens mode budget)

-- the same with its finished list
abbrev pub basis_over : Algebra → Mode → ℕ → List Polynomial → Outcome Basis
basis_over A mode budget gens = run_over A mode budget gens >>= λ run. reached (finished A run.basis) >>= λ found. Ok (run, found)

-- ---- the functions

abbrev pub ideal : List Value → Outcome Value
ideal vs = joined vs >>= λ gens. Ok (Ideal gens)

abbrev pub std : Algebra → Mode → ℕ → List Value → Outcome Value
std A mode budget vs = joined vs >>= λ gens. basis_over A mode budget gens >>= λ found. Ok (Ideal found.1.list)

abbrev pub cofactors : Algebra → ℕ → List Value → Outcome Value
cofactors A budget vs =
    joined vs >>= λ gens. basis_over A Left budget gens >>= λ found. reached (cofactor_rows A gens found.0 found.1) >>= λ rows. Ok (Module rows)

-- no finished list is made
abbrev pub syz : Algebra → ℕ → List Value → Outcome Value
syz A budget vs = joined vs >>= λ gens. run_over A Left budget gens >>= λ run. reached (syzygy_rows A gens run) >>= λ rows. Ok (Module rows)

abbrev pub certificate_of : Basis → Certificate
certificate_of found = record { lines = made_lines found.0.entries; finished = found.1 }

abbrev pub twochain : Ring → ℕ → List Value → Outcome Value
twochain R budget vs =
    joined vs >>= λ gens. basis_over R.algebra TwoSided budget gens >>= λ found. Ok (Lines (certificate_text R.algebra R.names found.0.basis (certificate_of found)))

-- entries of one kind
abbrev pub is_new : Entry → Bool
is_new (entry.New job trace scale) = true
is_new _ = false

abbrev pub is_zero : Entry → Bool
is_zero (entry.Zero job trace) = true
is_zero _ = false

abbrev pub is_skipped : Entry → Bool
is_skipped (entry.Skipped job by) = true
is_skipped _ = false

abbrev pub how_many : (Entry → Bool) → List Entry → ℕ
how_many test [] = 0
how_many test (e ∷ es) = cond (test e) 1 0 + how_many test es

abbrev pub summary_text : Journal → FinishedList → List ℕ
summary_text run found =
    codes "entries " ++ (decimal (length run.entries) ++ (codes " new " ++ (decimal (how_many is_new run.entries) ++ (codes " zero " ++ (decimal (how_many is_zero run.entries)
    ++ (codes " skipped " ++ (decimal (how_many is_skipped run.entries) ++ (codes " list " ++ (decimal (length found.list) ++ codes "\n")))))))))

abbrev pub summary : Algebra → ℕ → List Value → Outcome Value
summary A budget vs = joined vs >>= λ gens. basis_over A Left budget gens >>= λ found. Ok (Lines (summary_text found.0 found.1))

abbrev pub rest_of : Reduced → Outcome Polynomial
rest_of r = if r.over then Err refused.DegreeOver else Ok r.rest

abbrev pub normal_forms : Algebra → List Polynomial → List Polynomial → Outcome (List Polynomial)
normal_forms A gens [] = Ok []
normal_forms A gens (f ∷ fs) = rest_of (normal_form_by A gens f) >>= λ g. normal_forms A gens fs >>= λ gs. Ok (g ∷ gs)

abbrev pub normal_form_of : Algebra → Value → List Polynomial → Outcome Value
normal_form_of A (Poly f) gens = rest_of (normal_form_by A gens f) >>= λ g. Ok (Poly g)
normal_form_of A (Ideal fs) gens = normal_forms A gens fs >>= λ gs. Ok (Ideal gs)
normal_form_of A _ gens = Err refused.Kind

abbrev pub normal_form : Algebra → List Value → Outcome Value
normal_form A (v ∷ w ∷ []) = generators_of v >>= λ _. generators_of w >>= λ gens. normal_form_of A v gens
normal_form A _ = Err refused.Kind

-- the variables of a monomial by their numbers, where the first has number v
abbrev pub variables_from : ℕ → Monomial → List ℕ
variables_from v [] = []
variables_from v (zero ∷ m) = variables_from (suc v) m
variables_from v (suc e ∷ m) = v ∷ variables_from (suc v) m

abbrev pub some_variables : List ℕ → Outcome (List ℕ)
some_variables [] = Err refused.Kind
some_variables (v ∷ vs) = Ok (v ∷ vs)

-- the variables of a poly that is one term, and no constant
abbrev pub variables_of : Value → Outcome (List ℕ)
variables_of (Poly (t ∷ [])) = some_variables (variables_from 1 t.1)
variables_of _ = Err refused.Kind

-- The algebra, where no pair breaks the condition on its order. The other conditions do not depend on the order, so the
-- last refusal is for no accepted algebra.
abbrev pub ordered : Algebra → Option Fault → Outcome Algebra
ordered A None = Ok A
ordered A (Some (Fault.Ordering i j)) = Err (refused.NoElimination i j)
ordered A (Some _) = Err refused.Kind

-- the algebra under the order that first compares how often these variables occur
abbrev pub elimination_algebra : Algebra → List ℕ → Outcome Algebra
elimination_algebra A vars = let B : Algebra = reordered (elimination_order vars A.order) A in ordered B (relations_fault B)

-- these polynomials, sorted by the algebra's order
abbrev pub sorted_in : Algebra → List Polynomial → List Polynomial
sorted_in A fs = map (from_terms (order_cmp A.order.rows) A.p) fs

-- what the finished list in the elimination algebra has without the variables: it is sorted in A as well
abbrev pub elimination : Algebra → ℕ → List ℕ → List Polynomial → Outcome (List Polynomial)
elimination A budget vars gens =
    elimination_algebra A vars >>= λ B. basis_over B Left budget (sorted_in B gens) >>= λ found. Ok (restricted A.order.vars vars found.1.list)

abbrev pub eliminate : Algebra → ℕ → List Value → Outcome Value
eliminate A budget (v ∷ w ∷ []) = generators_of v >>= λ gens. variables_of w >>= λ vars. elimination A budget vars gens >>= λ list. Ok (Ideal list)
eliminate A budget _ = Err refused.Kind

-- A function of the ring R at its arguments, with runs of at most `budget` entries. The kinds of the arguments are
-- tested first.
unfoldable pub apply : Ring → ℕ → Function → List Value → Outcome Value
apply R budget fn.Ideal vs = ideal vs
apply R budget fn.Std vs = std R.algebra Left budget vs
apply R budget fn.TwoStd vs = std R.algebra TwoSided budget vs
apply R budget fn.Nf vs = normal_form R.algebra vs
apply R budget fn.Reduce vs = normal_form R.algebra vs
apply R budget fn.Cofactors vs = cofactors R.algebra budget vs
apply R budget fn.Summary vs = summary R.algebra budget vs
apply R budget fn.Eliminate vs = eliminate R.algebra budget vs
apply R budget fn.Syz vs = syz R.algebra budget vs
apply R budget fn.TwoChain vs = twochain R budget vs
