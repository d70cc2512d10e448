-- What a statement makes and prints, or why it is refused.
use Rattle.std.specs.Prelude.{ℕ, zero, suc, ◌-◌, ◌*◌, ◌/◌, ◌==◌, ◌&&◌, ◌||◌, not, Bool, true, false, List, [], ◌∷◌, ◌++◌, map, length, take, drop, replicate, nat_le, nat_lt, codes, bytes_eq, slice_get, slice_set, slice_index_or, Option, Some, None, is_some, Ok, Err, if◌then◌else◌}
use Rattle.std.specs.List.{list_all, list_any}
use Rattle.std.specs.Fmt.{decimal}
use Rattle.prime_field.specs.Modular.{in_table}
use Rattle.monomials.specs.Polynomials.{Polynomial, poly_degree}
use Rattle.monomials.specs.Leading.{leading_coefficient}
use Rattle.monomials.specs.Blocks.{order_of}
use Rattle.monomials.specs.declared.order.Block.{Block}
use Rattle.word_model.specs.Words.{Algebra}
use Rattle.word_model.specs.Conditions.{Fault, Coefficient, Profile, Ordering, NonDegeneracy, relations_fault}
use Rattle.word_model.specs.Texts.{polynomial_text, ideal_text, rows_text}
use Rattle.word_model.specs.RingTexts.{ring_text}
use Rattle.plural_lexer.specs.declared.token.Token.{Token}
use Rattle.plural_syntax.specs.Layers.{BaseLayer}
use Rattle.plural_syntax.specs.Words.{text_of}
use Rattle.plural_syntax.specs.declared.tree.Base.{out-Base}
use Rattle.plural_syntax.specs.declared.tree.Base.TheOpen.{Base-F}
use Rattle.plural_syntax.specs.declared.tree.Factor.{Factor, out-Factor}
use Rattle.plural_syntax.specs.declared.tree.Term.{out-Term}
use Rattle.plural_syntax.specs.declared.tree.Scaled.{Scaled}
use Rattle.plural_syntax.specs.declared.tree.Added.{Added}
use Rattle.plural_syntax.specs.declared.tree.Expr.{Expr, out-Expr}
use Rattle.plural_syntax.specs.declared.tree.Power.{Power}
use Rattle.plural_syntax.specs.declared.tree.Order.{Order}
use Rattle.plural_syntax.specs.declared.tree.Value as tree
use Rattle.plural_syntax.specs.declared.tree.Values.{Values}
use Rattle.plural_syntax.specs.declared.tree.Vars.{Vars}
use Rattle.plural_syntax.specs.declared.tree.Vars.TheVariants as vars
use Rattle.plural_syntax.specs.declared.tree.Statement.{Statement}
use Rattle.plural_syntax.specs.declared.tree.Statement.TheVariants as statement
use Rattle.script_model.specs.declared.values.Value.{Value}
use Rattle.script_model.specs.declared.values.Value.TheVariants.{Poly, Ideal, Module, Matrix, Lines, Ring as RingValue}
use Rattle.script_model.specs.declared.values.Refusal.{Refusal}
use Rattle.script_model.specs.declared.values.Refusal.TheVariants as refused
use Rattle.script_model.specs.Refusals.{Outcome, ◌>>=◌}
use Rattle.script_model.specs.Environment.{Environment, Ring, Scope, Text, Found, Known, find, look_up, here, variable_place, with_ring, newest_current, with_value}
use Rattle.script_model.specs.Tokens.{number}
use Rattle.script_model.specs.Operations.{poly_of, columns_of, matrix_entry, is_number_of}
use Rattle.script_model.specs.Functions.{ideal}
use Rattle.script_model.specs.Expressions.{exprs_of, all_values, value_within}
use Rattle.script_model.specs.Orders.{tokens_of, blocks_of}

-- ---- texts

abbrev pub matrix_line : Ring → Text → ℕ → ℕ → Polynomial → Text
matrix_line R label i j f = label ++ (codes "[" ++ (decimal i ++ (codes "," ++ (decimal j ++ (codes "]=" ++ (polynomial_text R.algebra.p R.names f ++ codes "\n"))))))

-- the lines of a row, whose columns count from j
abbrev pub matrix_row : Ring → Text → ℕ → ℕ → List Polynomial → Text
matrix_row R label i j [] = []
matrix_row R label i j (f ∷ row) = matrix_line R label i j f ++ matrix_row R label i (suc j) row

-- the lines of rows, which count from i
abbrev pub matrix_text : Ring → Text → ℕ → List (List Polynomial) → Text
matrix_text R label i [] = []
matrix_text R label i (row ∷ rows) = matrix_row R label i 1 row ++ matrix_text R label (suc i) rows

abbrev pub text_of_ring : Option Ring → Text
text_of_ring None = []
text_of_ring (Some R) = ring_text R.algebra R.names R.blocks

-- a value of the ring R, with this label
abbrev pub printed : Environment → Ring → Text → Value → Text
printed E R label (Poly f) = polynomial_text R.algebra.p R.names f ++ codes "\n"
printed E R label (Ideal gens) = ideal_text R.algebra.p R.names label gens
printed E R label (Module rows) = rows_text R.algebra.p R.names label rows
printed E R label (Matrix rows) = matrix_text R label 1 rows
printed E R label (Lines text) = text
printed E R label (RingValue k) = text_of_ring (slice_get E.rings k)

abbrev pub name_alone : List ℕ → BaseLayer → Text
name_alone bytes (Base-F.Name name None) = text_of bytes name
name_alone bytes _ = codes "_"

abbrev pub factor_alone : List ℕ → Factor → Option Power → List Scaled → List Added → Option Token → Text
factor_alone bytes f None [] [] None = name_alone bytes (out-Base (out-Factor f).base)
factor_alone bytes f _ _ _ _ = codes "_"

-- the name where the expression is one, and else _
abbrev pub label_of : List ℕ → Expr → Text
label_of bytes e =
    let f = (out-Term (out-Expr e).first).first in
    factor_alone bytes f (out-Factor f).power (out-Term (out-Expr e).first).more (out-Expr e).more (out-Expr e).sign

-- ---- what a statement does

pub data Done : Type 0 where
  -- it leads to this environment and prints this text
  Goes : Environment → Text → Done
  Quits : Done

-- it prints nothing
abbrev pub silent : Environment → Outcome Done
silent E = Ok (Goes E [])

-- ---- rings

abbrev pub names_of : List ℕ → Vars → List Text
names_of bytes (vars.One name) = text_of bytes name ∷ []
names_of bytes (vars.Many names) = map (text_of bytes) (tokens_of names.list)

-- of the names that stand twice the first
abbrev pub repeated : List Text → Option Text
repeated [] = None
repeated (name ∷ names) = if list_any (bytes_eq name) names then Some name else repeated names

abbrev pub commuting : ℕ → ℕ → List Block → Algebra
commuting p n blocks = record { p = p; order = order_of n blocks; c = replicate (n * (n - 1) / 2) 1; d = replicate (n * (n - 1) / 2) [] }

abbrev pub ring_of : ℕ → List Text → Option (List Block) → Outcome Ring
ring_of p names None = Err refused.BadOrder
ring_of p names (Some blocks) = Ok (record { names = names; blocks = blocks; algebra = commuting p (length names) blocks; made = false; values = [] })

abbrev pub unless_repeated : Option Text → Outcome Ring → Outcome Ring
unless_repeated None other = other
unless_repeated (Some name) other = Err (refused.Taken name)

abbrev pub new_ring : List ℕ → ℕ → List Text → Order → Outcome Ring
new_ring bytes p names order =
    if not (in_table p) then Err (refused.Characteristic p)
    else (if nat_lt 16 (length names) then Err refused.Limit
    else unless_repeated (repeated names) (ring_of p names (blocks_of bytes (length names) order)))

abbrev pub set_ring : Environment → Text → Option ℕ → Outcome Done
set_ring E name None = Err (refused.Name name)
set_ring E name (Some k) = silent (record E { current = Some k })

-- ---- nc_algebra

-- the pairs of i with j and the k - 1 numbers behind it
abbrev pub pairs_row : ℕ → ℕ → ℕ → List (ℕ × ℕ)
pairs_row i j zero = []
pairs_row i j (suc k) = (i, j) ∷ pairs_row i (suc j) k

abbrev pub pairs_from : ℕ → ℕ → List (ℕ × ℕ)
pairs_from i zero = []
pairs_from i (suc k) = pairs_row i (suc i) k ++ pairs_from (suc i) k

-- the pairs i < j of the numbers from 1 to n, in lexicographic order
abbrev pub all_pairs : ℕ → List (ℕ × ℕ)
all_pairs n = pairs_from 1 n

abbrev pub is_constant : Polynomial → Bool
is_constant f = poly_degree f == 0

abbrev pub is_square : ℕ → List (List Polynomial) → Bool
is_square n rows = (length rows == n) && (columns_of rows == n)

-- the entries for all pairs: a poly stands for each
abbrev pub entries_for : ℕ → Value → Outcome (List Polynomial)
entries_for n (Poly f) = Ok (map (λ _. f) (all_pairs n))
entries_for n (Matrix rows) = if is_square n rows then Ok (map (λ (ij : ℕ × ℕ). matrix_entry rows ij.0 ij.1) (all_pairs n)) else Err refused.Kind
entries_for n _ = Err refused.Kind

-- whether it is a poly that is no constant
abbrev pub is_varying : Value → Bool
is_varying (Poly f) = not (is_constant f)
is_varying _ = false

abbrev pub numbers_for : List Polynomial → Outcome (List ℕ)
numbers_for fs = if list_all is_constant fs then Ok (map leading_coefficient fs) else Err refused.Kind

-- a poly is a constant, and so are the entries of a matrix
abbrev pub constants_for : ℕ → Value → Outcome (List ℕ)
constants_for n v = if is_varying v then Err refused.Kind else (entries_for n v >>= numbers_for)

abbrev pub fault_refusal : Ring → Fault → Refusal
fault_refusal R (Coefficient i j) = refused.Coefficient i j
fault_refusal R (Profile i j) = refused.Profile i j
fault_refusal R (Ordering i j) = refused.Ordering i j
fault_refusal R (NonDegeneracy i j k rest) = refused.NonDegeneracy i j k (polynomial_text R.algebra.p R.names rest)

abbrev pub accepted : Ring → Algebra → Option Fault → Outcome Ring
accepted R A None = Ok (record { names = R.names; blocks = R.blocks; algebra = A; made = true; values = [] })
accepted R A (Some fault) = Err (fault_refusal R fault)

abbrev pub related : Ring → List ℕ → List Polynomial → Outcome Ring
related R c d = let A : Algebra = record (R.algebra) { c = c; d = d } in accepted R A (relations_fault A)

abbrev pub nc_ring : Ring → Value → Value → Outcome Ring
nc_ring R v w =
    if R.made then Err refused.Kind
    else (constants_for (length R.names) v >>= λ c. entries_for (length R.names) w >>= λ d. related R c d)

-- ---- values that a statement gives a name

abbrev pub not_ring : Value → Outcome Value
not_ring (RingValue k) = Err refused.Kind
not_ring v = Ok v

abbrev pub as_poly : Value → Outcome Value
as_poly (Poly f) = Ok (Poly f)
as_poly _ = Err refused.Kind

abbrev pub as_module : Value → Outcome Value
as_module (Module rows) = Ok (Module rows)
as_module _ = Err refused.Kind

abbrev pub as_matrix : Value → Outcome Value
as_matrix (Matrix rows) = Ok (Matrix rows)
as_matrix _ = Err refused.Kind

abbrev pub as_lines : Value → Outcome Value
as_lines (Lines text) = Ok (Lines text)
as_lines _ = Err refused.Kind

-- one value alone
abbrev pub single : List Value → Outcome Value
single (v ∷ []) = Ok v
single _ = Err refused.Kind

-- values that take the place of this one: for an ideal polys and ideals, and else one value of its kind
abbrev pub in_place_of : Value → List Value → Outcome Value
in_place_of (Ideal gens) vs = ideal vs
in_place_of (Poly f) vs = single vs >>= as_poly
in_place_of (Module rows) vs = single vs >>= as_module
in_place_of (Matrix rows) vs = single vs >>= as_matrix
in_place_of (Lines text) vs = single vs >>= as_lines
in_place_of (RingValue k) vs = Err refused.Kind

abbrev pub all_polys : List Value → Outcome (List Polynomial)
all_polys [] = Ok []
all_polys (v ∷ vs) = poly_of v >>= λ f. all_polys vs >>= λ fs. Ok (f ∷ fs)

-- a matrix of r rows and c columns, filled row by row, the rest zero
abbrev pub matrix_rows : ℕ → ℕ → List Polynomial → List (List Polynomial)
matrix_rows zero c fs = []
matrix_rows (suc r) c fs = take c (fs ++ replicate c []) ∷ matrix_rows r c (drop c fs)

abbrev pub matrix_of : ℕ → ℕ → List Polynomial → Outcome Value
matrix_of r c fs = if nat_lt (r * c) (length fs) then Err refused.Limit else Ok (Matrix (matrix_rows r c fs))

abbrev pub is_side : ℕ → Bool
is_side n = nat_le 1 n && nat_le n 16

-- a value by a name, if it is one
abbrev pub known : Found → Outcome Value
known (Known v) = Ok v
known _ = Err refused.Kind

abbrev pub matrix_rows_of : Value → Outcome (List (List Polynomial))
matrix_rows_of (Matrix rows) = Ok rows
matrix_rows_of _ = Err refused.Kind

abbrev pub with_entry : List (List Polynomial) → ℕ → ℕ → Polynomial → List (List Polynomial)
with_entry rows i j f = slice_set rows (i - 1) (slice_set (slice_index_or rows (i - 1) []) (j - 1) f)

abbrev pub in_matrix : List (List Polynomial) → ℕ → ℕ → Outcome (List (List Polynomial))
in_matrix rows i j = if is_number_of i (length rows) && is_number_of j (columns_of rows) then Ok rows else Err refused.Index

-- ---- statements

-- One more than the levels of parentheses that a script may have.
abbrev pub all_levels : ℕ
all_levels = 65

module _ (bytes : List ℕ) (budget : ℕ) (E : Environment) where
  abbrev pub scope : Ring → Scope
  scope R = record { bytes = bytes; budget = budget; environment = E; ring = R }

  abbrev pub value : Ring → Expr → Outcome Value
  value R e = value_within (scope R) all_levels e

  abbrev pub values : Ring → List Expr → Outcome (List Value)
  values R es = all_values (value R) es

  abbrev pub current_ring : Option Ring → Outcome Ring
  current_ring None = Err refused.NoRing
  current_ring (Some R) = Ok R

  abbrev pub current : Outcome Ring
  current = current_ring (here E)

  -- the ring, where the name is free for a value in it
  abbrev pub free : Text → Ring → Outcome Ring
  free name R = if is_some (variable_place R name) then Err (refused.Taken name) else Ok R

  abbrev pub free_ring : Text → Outcome Ring
  free_ring name = current >>= free name

  -- a declaration of this name, with this value
  abbrev pub declared_value : Text → (Ring → Outcome Value) → Outcome Value
  declared_value name v = free_ring name >>= v

  abbrev pub declared : Text → (Ring → Outcome Value) → Outcome Done
  declared name v = declared_value name v >>= λ w. silent (with_value E name w)

  abbrev pub any_value : Expr → Ring → Outcome Value
  any_value e R = value R e >>= not_ring

  abbrev pub by_value : Value → (Value → Outcome Value) → Ring → Option tree.Value → Outcome Value
  by_value start check R None = Ok start
  by_value start check R (Some v) = value R v.expr >>= check

  abbrev pub ideal_values : Ring → Option Values → Outcome Value
  ideal_values R None = Ok (Ideal ([] ∷ []))
  ideal_values R (Some v) = values R (exprs_of v.list) >>= ideal

  abbrev pub entry_values : Ring → Option Values → Outcome (List Polynomial)
  entry_values R None = Ok []
  entry_values R (Some v) = values R (exprs_of v.list) >>= all_polys

  abbrev pub matrix_value : ℕ → ℕ → Option Values → Ring → Outcome Value
  matrix_value r c v R = if is_side r && is_side c then entry_values R v >>= matrix_of r c else Err refused.Limit

  abbrev pub print : Expr → Option Ring → Outcome Done
  print e None = Err refused.NoRing
  print e (Some R) = value R e >>= λ v. Ok (Goes E (printed E R (label_of bytes e) v))

  abbrev pub is_option : Token → Bool
  is_option t = bytes_eq (text_of bytes t) (codes "redSB") || bytes_eq (text_of bytes t) (codes "redTail")

  abbrev pub options : List Token → Outcome Done
  options [] = silent E
  options (t ∷ ts) = if is_option t then options ts else Err (refused.Name (text_of bytes t))

  -- a ring of this name, which is current then
  abbrev pub ring_made : Text → ℕ → Vars → Order → Outcome Done
  ring_made name p variables order = new_ring bytes p (names_of bytes variables) order >>= λ R. silent (newest_current E name R)

  -- the ring that nc_algebra(e, f) makes of the current one
  abbrev pub algebra_in : Expr → Expr → Ring → Outcome Ring
  algebra_in e f R = value R e >>= λ v. value R f >>= λ w. nc_ring R v w

  abbrev pub new_algebra : Expr → Expr → Outcome Ring
  new_algebra e f = current >>= algebra_in e f

  abbrev pub algebra_made : Text → Expr → Expr → Outcome Done
  algebra_made name e f = new_algebra e f >>= λ Q. silent (with_ring E name Q)

  -- the value of this name in a ring
  abbrev pub old_value : Ring → Text → Outcome Value
  old_value R name = look_up E R name >>= known

  -- values in the place of the value of this name
  abbrev pub assigned_in : Text → List Expr → Ring → Outcome Value
  assigned_in name es R = old_value R name >>= λ old. values R es >>= in_place_of old

  abbrev pub assigned_value : Text → List Expr → Outcome Value
  assigned_value name es = current >>= assigned_in name es

  abbrev pub assigned : Text → List Expr → Outcome Done
  assigned name es = assigned_value name es >>= λ new. silent (with_value E name new)

  -- the rows of the matrix of this name, where it has an entry (i, j)
  abbrev pub old_rows : Ring → Text → ℕ → ℕ → Outcome (List (List Polynomial))
  old_rows R name i j = old_value R name >>= matrix_rows_of >>= λ rows. in_matrix rows i j

  -- the matrix of this name with another entry (i, j)
  abbrev pub entry_in : Text → ℕ → ℕ → Expr → Ring → Outcome Value
  entry_in name i j e R = old_rows R name i j >>= λ rows. value R e >>= poly_of >>= λ f. Ok (Matrix (with_entry rows i j f))

  abbrev pub entry_value : Text → ℕ → ℕ → Expr → Outcome Value
  entry_value name i j e = current >>= entry_in name i j e

  abbrev pub entry_assigned : Text → ℕ → ℕ → Expr → Outcome Done
  entry_assigned name i j e = entry_value name i j e >>= λ v. silent (with_value E name v)

  unfoldable pub done_by : Statement → Outcome Done
  done_by (statement.Empty semicolon) = silent E
  done_by (statement.Ring keyword name equals characteristic comma variables second_comma order semicolon) =
      ring_made (text_of bytes name) (number bytes characteristic) variables order
  done_by (statement.SetRing keyword name semicolon) = set_ring E (text_of bytes name) (find (text_of bytes name) E.ring_names)
  done_by (statement.NcAlgebra keyword name equals nc opening both closing semicolon) =
      algebra_made (text_of bytes name) both.first both.second
  done_by (statement.Def keyword name equals e semicolon) = declared (text_of bytes name) (any_value e)
  done_by (statement.Poly keyword name v semicolon) = declared (text_of bytes name) (λ R. by_value (Poly []) as_poly R v)
  done_by (statement.Ideal keyword name v semicolon) = declared (text_of bytes name) (λ R. ideal_values R v)
  done_by (statement.Module keyword name v semicolon) = declared (text_of bytes name) (λ R. by_value (Module []) as_module R v)
  done_by (statement.Matrix keyword name rows columns v semicolon) =
      declared (text_of bytes name) (matrix_value (number bytes rows.number) (number bytes columns.number) v)
  done_by (statement.Option keyword names semicolon) = options (tokens_of names.list)
  done_by (statement.Short keyword equals number semicolon) = silent E
  done_by (statement.Quit keyword semicolon) = Ok Quits
  done_by (statement.Assign name equals list semicolon) = assigned (text_of bytes name) (exprs_of list)
  done_by (statement.AssignEntry name opening i comma j closing equals e semicolon) =
      entry_assigned (text_of bytes name) (number bytes i) (number bytes j) e
  done_by (statement.Print e semicolon) = print e (here E)
