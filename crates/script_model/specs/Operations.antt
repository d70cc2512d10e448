-- Operations on the values of a ring.
use Rattle.std.specs.Prelude.{ℕ, zero, suc, ◌-◌, ◌%◌, ◌==◌, ◌&&◌, Bool, List, [], length, nat_le, nat_lt, slice_index_or, Option, Some, None, Ok, Err, if◌then◌else◌}
use Rattle.prime_field.specs.Modular.{inverse}
use Rattle.monomials.specs.Monomials.{one}
use Rattle.monomials.specs.Orders.{order_cmp}
use Rattle.monomials.specs.Polynomials.{Polynomial, cons_nonzero, poly_add, poly_sub, poly_scale}
use Rattle.word_model.specs.Words.{Algebra}
use Rattle.word_model.specs.Products.{product, in_reach, variable_polynomial, degree_limit}
use Rattle.word_model.specs.Reduction.{element}
use Rattle.script_model.specs.declared.values.Value.{Value}
use Rattle.script_model.specs.declared.values.Value.TheVariants.{Poly, Ideal, Matrix, Ring as RingValue}
use Rattle.script_model.specs.declared.values.Refusal.TheVariants as refused
use Rattle.script_model.specs.Refusals.{Outcome, ◌>>=◌}
use Rattle.script_model.specs.Environment.{Ring, Found, Variable, Known, RingOf}

-- ---- kinds

abbrev pub poly_of : Value → Outcome Polynomial
poly_of (Poly f) = Ok f
poly_of _ = Err refused.Kind

-- both values as polynomials
abbrev pub polys_of : Value → Value → Outcome (Polynomial × Polynomial)
polys_of v w = poly_of v >>= λ f. poly_of w >>= λ g. Ok (f, g)

-- ---- entries

-- the columns of a matrix
abbrev pub columns_of : List (List Polynomial) → ℕ
columns_of rows = length (slice_index_or rows 0 [])

abbrev pub is_number_of : ℕ → ℕ → Bool
is_number_of k n = nat_le 1 k && nat_le k n

abbrev pub matrix_entry : List (List Polynomial) → ℕ → ℕ → Polynomial
matrix_entry rows i j = element (slice_index_or rows (i - 1) []) j

-- I[k], D[i,j]
abbrev pub entry_of : Value → ℕ → Option ℕ → Outcome Value
entry_of (Ideal gens) k None = if is_number_of k (length gens) then Ok (Poly (element gens k)) else Err refused.Index
entry_of (Matrix rows) i (Some j) =
    if is_number_of i (length rows) && is_number_of j (columns_of rows) then Ok (Poly (matrix_entry rows i j)) else Err refused.Index
entry_of _ i j = Err refused.Kind

-- ---- sums, products, powers

-- the polynomial that a number or an operation gives, as a value of its ring
abbrev pub settled : Ring → Polynomial → Outcome Value
settled R f = Ok (Poly f)

-- a number as a polynomial
abbrev pub constant : Algebra → ℕ → Polynomial
constant A n = cons_nonzero (n % A.p) (one A.order.vars) []

abbrev pub found_value : Algebra → Found → Value
found_value A (Variable v) = Poly (variable_polynomial A v)
found_value A (Known v) = v
found_value A (RingOf k) = RingValue k

abbrev pub negative : Algebra → Polynomial → Polynomial
negative A f = poly_scale A.p (A.p - 1) f

abbrev pub sum : Algebra → Polynomial → Polynomial → Polynomial
sum A f g = poly_add (order_cmp A.order.rows) A.p f g

abbrev pub difference : Algebra → Polynomial → Polynomial → Polynomial
difference A f g = poly_sub (order_cmp A.order.rows) A.p f g

abbrev pub times : Algebra → Polynomial → Polynomial → Outcome Polynomial
times A f g = if in_reach f g then Ok (product A f g) else Err refused.DegreeOver

-- f / m
abbrev pub divided : Algebra → Polynomial → ℕ → Outcome Polynomial
divided A f m = if m % A.p == 0 then Err refused.ZeroDivisor else Ok (poly_scale A.p (inverse A.p (m % A.p)) f)

-- f^0 is 1, and f^m is f^(m-1) * f
abbrev pub power_of : Algebra → Polynomial → ℕ → Outcome Polynomial
power_of A f zero = Ok (constant A 1)
power_of A f (suc m) = power_of A f m >>= λ g. times A g f

abbrev pub power : Algebra → Polynomial → ℕ → Outcome Polynomial
power A f m = if nat_lt degree_limit m then Err refused.Limit else power_of A f m
