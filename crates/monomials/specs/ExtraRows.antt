-- Rows in front of an order.
use Rattle.std.specs.Prelude.{ℕ, nat_eq, cond, List, ◌++◌, map, pos}
use Rattle.std.specs.List.{list_any, range_with_len}
use Rattle.monomials.specs.Orders.{RowOrder}

-- 1 where x_v is one of the variables, and else 0
abbrev pub mark : List ℕ → ℕ → ℕ
mark vars v = cond (list_any (λ u. nat_eq u v) vars) 1 0

-- the row over n variables with 1 at the given ones, which count from 1, and 0 elsewhere
abbrev pub marks : ℕ → List ℕ → List ℕ
marks n vars = map (mark vars) (range_with_len 1 n)

-- the order with these rows of weights in front
abbrev pub with_rows : List (List ℕ) → RowOrder → RowOrder
with_rows extra order = record { vars = order.vars; rows = map (map pos) extra ++ order.rows }
