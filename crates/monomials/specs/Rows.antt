-- The rows of an order as code keeps them.
use Rattle.std.specs.Prelude.{◌≡◌, ℕ, ◌≤◌, ◌<◌, ◌*◌, Bool, true, false, IsTrue, cond, List, ◌++◌, map, take, sum, All, ℤ, pos, negsuc, neg_ℤ}
use Rattle.monomials.specs.Monomials.{Monomial, zip_with}
use Rattle.monomials.specs.Orders.{RowOrder}
use Rattle.monomials.specs.Blocks.{row_of, dp_rows}
use Rattle.monomials.specs.Separating.{IsSeparating}
use Rattle.monomials.specs.Lexicographic.{IsLexicographic}
use Rattle.monomials.specs.declared.row.Row.{Row}
use Rattle.monomials.specs.declared.row.Row.TheVariants.{Weights, Rising, Falling}
use Rattle.monomials.specs.declared.order.Order.TheInside.{Inside}

-- the sum of weight times exponent
abbrev pub weighted : List ℕ → Monomial → ℕ
weighted weights m = sum (zip_with (λ w e. w * e) weights m)

-- a row's entries at the first n variables
abbrev pub row_entries : ℕ → Row → List ℤ
row_entries n (Weights weights) = map pos (take n weights)
row_entries n (Rising place) = row_of (pos 1) n place 1
row_entries n (Falling place) = row_of (negsuc 0) n place 1

-- a row names none but the first n variables
abbrev pub IsWithin : ℕ → Row → Type 0
IsWithin n (Weights weights) = Unit {0}
IsWithin n (Rising place) = place < n
IsWithin n (Falling place) = place < n

-- whether a row's entries are counted negatively
abbrev pub falls : Row → Bool
falls (Weights weights) = false
falls (Rising place) = false
falls (Falling place) = true

-- the number or its negative
abbrev pub signed : Bool → ℕ → ℤ
signed negative k = cond negative (neg_ℤ (pos k)) (pos k)

-- the new rows are the old ones and behind them these
pub record AddsRows (n : ℕ) (old new : List Row) (added : List (List ℤ)) : Type 0 where
  pub entries : map (row_entries n) new ≡ map (row_entries n) old ++ added
  pub within : All (IsWithin n) old → All (IsWithin n) new

-- the order that code keeps
abbrev pub kept_order : Inside → RowOrder
kept_order o = record { vars = o.vars; rows = map (row_entries o.vars) o.rows.items }

-- an order in 1 to 16 variables, whose rows tell monomials in them apart, and which has no infinite descent;
-- `graded` says that they are the rows of one `dp`
pub record IsOrder (o : Inside) : Type 0 where
  pub not_empty : 1 ≤ o.vars
  pub fits : o.vars ≤ 16
  pub within : All (IsWithin o.vars) o.rows.items
  pub separates : IsSeparating (kept_order o)
  pub lexicographic : IsLexicographic (kept_order o)
  pub graded : IsTrue o.graded → map (row_entries o.vars) o.rows.items ≡ dp_rows o.vars 0 o.vars
