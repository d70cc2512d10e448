-- Orders of monomials, as lists of integer rows (Singular manual, monomial orderings).
use Rattle.std.specs.Prelude.{ℕ, List, [], ◌∷◌, ℤ, pos, ◌+ℤ◌, ◌*ℤ◌}
use Rattle.std.specs.declared.cmp.Ordering.{Ordering}
use Rattle.std.specs.declared.cmp.Ordering.TheVariants.{Equal}
use Rattle.std.specs.Ordering.{nat_cmp, int_cmp, ordering_then}
use Rattle.std.specs.Cmp.Lexicographic.{slice_cmp}
use Rattle.monomials.specs.Monomials.{Monomial}

-- an order of the monomials in `vars` variables
pub record RowOrder : Type 0 where
  pub vars : ℕ
  pub rows : List (List ℤ)

-- a row's value at a monomial: the sum of entry times exponent
abbrev pub row_value : List ℤ → Monomial → ℤ
row_value [] m = pos 0
row_value (r ∷ rs) [] = pos 0
row_value (r ∷ rs) (e ∷ m) = (r *ℤ pos e) +ℤ row_value rs m

-- the first row at which the values differ decides, and the greater value is the greater monomial
abbrev pub rows_cmp : List (List ℤ) → Monomial → Monomial → Ordering
rows_cmp [] a b = Equal
rows_cmp (r ∷ rows) a b = ordering_then (int_cmp (row_value r a) (row_value r b)) (rows_cmp rows a b)

-- One comparison for all lists: where no row tells two of them apart, their entries do.
-- At monomials of an order's own number of variables some row always does.
abbrev pub order_cmp : List (List ℤ) → Monomial → Monomial → Ordering
order_cmp rows a b = ordering_then (rows_cmp rows a b) (slice_cmp nat_cmp a b)
