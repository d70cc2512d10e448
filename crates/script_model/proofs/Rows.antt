-- Worked rows, computed by the definitions.
use Rattle.std.proofs.Common.{◌≡◌, ℕ, List, [], ◌∷◌, codes, Ok, Err, Some, None, true, false, refl}
use Rattle.std.specs.Fmt.{digits}
use Rattle.prime_field.specs.Modular.{inverse}
use Rattle.monomials.specs.Polynomials.{Polynomial}
use Rattle.monomials.specs.Blocks.{dp_rows}
use Rattle.monomials.specs.declared.order.Block.TheVariants.{DegRev}
use Rattle.word_model.specs.Words.{Algebra, normal_form, normal_form_within, word_value}
use Rattle.word_model.specs.Conditions.{relations_fault}
use Rattle.word_model.specs.Products.{product}
use Rattle.word_model.specs.Reduction.{steps_within, reduce, normal_form_by, reduce_tail}
use Rattle.word_model.specs.Jobs.{start_of, chain_witness}
use Rattle.word_model.specs.Machine.{step, run_within, machine}
use Rattle.word_model.specs.Finished.{kept, finished}
use Rattle.word_model.specs.Cofactors.{basis_rows, cofactor_rows}
use Rattle.word_model.specs.TwoVariables.{two_variables}
use Rattle.script_model.specs.declared.values.Value.{Value}
use Rattle.script_model.specs.declared.values.Value.TheVariants.{Poly, Ideal, Module, Matrix, Lines}
use Rattle.script_model.specs.declared.values.Refusal.TheVariants as refused
use Rattle.plural_syntax.specs.declared.tree.Function.TheVariants as fn
use Rattle.script_model.specs.Refusals.{refusal_line}
use Rattle.script_model.specs.Environment.{Ring}
use Rattle.script_model.specs.Operations.{times, power, divided, entry_of}
use Rattle.script_model.specs.Functions.{apply}
use Rattle.script_model.specs.Statements.{commuting, nc_ring, text_of_ring, matrix_of, repeated}

-- the Weyl algebra of x and d modulo 7
abbrev W : Algebra
W = two_variables 7 1 1

abbrev poly : List (ℕ × List ℕ) → Value
poly f = Poly f

abbrev one : Polynomial
one = (1, 0 ∷ 0 ∷ []) ∷ []

abbrev x : Polynomial
x = (1, 1 ∷ 0 ∷ []) ∷ []

abbrev d : Polynomial
d = (1, 0 ∷ 1 ∷ []) ∷ []

-- its ring
abbrev weyl : Ring
weyl = record { names = codes "x" ∷ codes "d" ∷ []; blocks = DegRev 2 ∷ []; algebra = W; made = true; values = [] }

-- std(x,d) is 1
std_of_both : apply weyl 100000 fn.Std (Poly x ∷ Poly d ∷ []) ≡ Ok (Ideal (one ∷ []))
unfolding apply inverse normal_form normal_form_within word_value product steps_within reduce reduce_tail start_of chain_witness step run_within machine kept finished
std_of_both = refl

-- std(x*d,d^2) with one entry
one_entry : apply weyl 1 fn.Std (Poly ((1, 1 ∷ 1 ∷ []) ∷ []) ∷ Poly ((1, 0 ∷ 2 ∷ []) ∷ []) ∷ []) ≡ Err (refused.BudgetSpent 1)
unfolding apply inverse normal_form normal_form_within word_value product steps_within reduce reduce_tail start_of chain_witness step run_within machine kept finished
one_entry = refl

-- cofactors(x*d,d^2) is [d,-x]
both_cofactors : apply weyl 100000 fn.Cofactors (Ideal (((1, 1 ∷ 1 ∷ []) ∷ []) ∷ ((1, 0 ∷ 2 ∷ []) ∷ []) ∷ []) ∷ []) ≡ Ok (Module ((d ∷ ((6, 1 ∷ 0 ∷ []) ∷ []) ∷ []) ∷ []))
unfolding apply inverse normal_form normal_form_within word_value product steps_within reduce reduce_tail start_of chain_witness step run_within machine kept finished basis_rows cofactor_rows
both_cofactors = refl

-- summary(x*d,d^2)
both_summary : apply weyl 100000 fn.Summary (Poly ((1, 1 ∷ 1 ∷ []) ∷ []) ∷ Poly ((1, 0 ∷ 2 ∷ []) ∷ []) ∷ []) ≡ Ok (Lines (codes "entries 5 new 3 zero 2 skipped 0 list 1\n"))
unfolding apply inverse normal_form normal_form_within word_value product steps_within reduce reduce_tail start_of chain_witness step run_within machine kept finished digits
both_summary = refl

-- x^3000*x^3000, x^4096, 1/7
over_limit : times W ((1, 3000 ∷ 0 ∷ []) ∷ []) ((1, 3000 ∷ 0 ∷ []) ∷ []) ≡ Err refused.DegreeOver
over_limit = refl

high_power : power W x 4096 ≡ Err refused.Limit
high_power = refl

by_zero : divided W one 7 ≡ Err refused.ZeroDivisor
by_zero = refl

-- nc_algebra(1,D) over 7,(x,y,z),dp, where D[1,2] is z and D[2,3] is y
abbrev three : Ring
three = record { names = codes "x" ∷ codes "y" ∷ codes "z" ∷ []; blocks = DegRev 3 ∷ []; algebra = commuting 7 3 (DegRev 3 ∷ []); made = false; values = [] }

abbrev matrix : Value
matrix = Matrix (([] ∷ ((1, 0 ∷ 0 ∷ 1 ∷ []) ∷ []) ∷ [] ∷ []) ∷ ([] ∷ [] ∷ ((1, 0 ∷ 1 ∷ 0 ∷ []) ∷ []) ∷ []) ∷ ([] ∷ [] ∷ [] ∷ []) ∷ [])

degenerate : nc_ring three (Poly ((1, 0 ∷ 0 ∷ 0 ∷ []) ∷ [])) matrix ≡ Err (refused.NonDegeneracy 1 2 3 (codes "z"))
unfolding relations_fault normal_form normal_form_within word_value
degenerate = refl

-- a zero number stands before it
zero_number : nc_ring three (Poly []) matrix ≡ Err (refused.Coefficient 1 2)
unfolding relations_fault
zero_number = refl

-- the ring of x and d, printed
printed_ring : text_of_ring (Some weyl) ≡ codes "// characteristic 7\n// variables x,d\n// order (dp(2))\n// d*x=x*d+1\n"
unfolding digits
printed_ring = refl

taken_line : refusal_line 3 (refused.Taken (codes "x")) ≡ codes "? line 3: Taken x\n"
unfolding digits
taken_line = refl

-- ---- the Heisenberg algebra

-- a x = x a + z and b y = y b + z
abbrev heisenberg : Algebra
heisenberg = record {
  p = 32003;
  order = record { vars = 5; rows = dp_rows 5 0 5 };
  c = 1 ∷ 1 ∷ 1 ∷ 1 ∷ 1 ∷ 1 ∷ 1 ∷ 1 ∷ 1 ∷ 1 ∷ [];
  d = [] ∷ ((1, 0 ∷ 0 ∷ 0 ∷ 0 ∷ 1 ∷ []) ∷ []) ∷ [] ∷ [] ∷ [] ∷ ((1, 0 ∷ 0 ∷ 0 ∷ 0 ∷ 1 ∷ []) ∷ []) ∷ [] ∷ [] ∷ [] ∷ [] ∷ [];
}

abbrev heisenberg_ring : Ring
heisenberg_ring = record { names = codes "x" ∷ codes "y" ∷ codes "a" ∷ codes "b" ∷ codes "z" ∷ []; blocks = DegRev 5 ∷ []; algebra = heisenberg; made = true; values = [] }

-- x a, y b, z - 1 and a^2
abbrev heisenberg_generators : List Polynomial
heisenberg_generators =
    ((1, 1 ∷ 0 ∷ 1 ∷ 0 ∷ 0 ∷ []) ∷ []) ∷ ((1, 0 ∷ 1 ∷ 0 ∷ 1 ∷ 0 ∷ []) ∷ [])
    ∷ ((1, 0 ∷ 0 ∷ 0 ∷ 0 ∷ 1 ∷ []) ∷ (32002, 0 ∷ 0 ∷ 0 ∷ 0 ∷ 0 ∷ []) ∷ []) ∷ ((1, 0 ∷ 0 ∷ 2 ∷ 0 ∷ 0 ∷ []) ∷ []) ∷ []

heisenberg_summary : apply heisenberg_ring 100000 fn.Summary (Ideal heisenberg_generators ∷ []) ≡ Ok (Lines (codes "entries 14 new 5 zero 9 skipped 0 list 3\n"))
unfolding apply inverse normal_form normal_form_within word_value product steps_within reduce reduce_tail start_of chain_witness step run_within machine kept finished digits
heisenberg_summary = refl

-- x b y + a x is x + 1 modulo z - 1, a and y b
heisenberg_normal_form : apply heisenberg_ring 100000 fn.Nf (Poly ((1, 1 ∷ 1 ∷ 0 ∷ 1 ∷ 0 ∷ []) ∷ (1, 1 ∷ 0 ∷ 1 ∷ 0 ∷ 0 ∷ []) ∷ (1, 1 ∷ 0 ∷ 0 ∷ 0 ∷ 1 ∷ []) ∷ []) ∷ Ideal (((1, 0 ∷ 0 ∷ 0 ∷ 0 ∷ 1 ∷ []) ∷ (32002, 0 ∷ 0 ∷ 0 ∷ 0 ∷ 0 ∷ []) ∷ []) ∷ ((1, 0 ∷ 0 ∷ 1 ∷ 0 ∷ 0 ∷ []) ∷ []) ∷ ((1, 0 ∷ 1 ∷ 0 ∷ 1 ∷ 0 ∷ []) ∷ []) ∷ []) ∷ []) ≡ Ok (Poly ((1, 1 ∷ 0 ∷ 0 ∷ 0 ∷ 0 ∷ []) ∷ []))
unfolding apply inverse normal_form normal_form_within word_value product normal_form_by steps_within
heisenberg_normal_form = refl

-- ---- kinds and counts of arguments, before limits; then the entry of a matrix, and its sides

kind_first : apply weyl 100000 fn.Nf (Poly x ∷ []) ≡ Err refused.Kind
unfolding apply
kind_first = refl

row_is_no_ideal : apply weyl 100000 fn.Std (Module [] ∷ []) ≡ Err refused.Kind
unfolding apply
row_is_no_ideal = refl

filled : matrix_of 2 2 (x ∷ d ∷ one ∷ []) ≡ Ok (Matrix ((x ∷ d ∷ []) ∷ (one ∷ [] ∷ []) ∷ []))
filled = refl

overfull : matrix_of 1 2 (x ∷ d ∷ one ∷ []) ≡ Err refused.Limit
overfull = refl

entry : entry_of (Matrix ((x ∷ d ∷ []) ∷ (one ∷ [] ∷ []) ∷ [])) 2 (Some 1) ≡ Ok (Poly one)
entry = refl

no_entry : entry_of (Matrix ((x ∷ d ∷ []) ∷ (one ∷ [] ∷ []) ∷ [])) 1 (Some 3) ≡ Err refused.Index
no_entry = refl

one_index : entry_of (Matrix ((x ∷ d ∷ []) ∷ [])) 1 None ≡ Err refused.Kind
one_index = refl

-- ---- names that stand twice: that whose first place is earliest

twice : repeated (codes "x" ∷ codes "y" ∷ codes "y" ∷ codes "x" ∷ []) ≡ Some (codes "x")
twice = refl
