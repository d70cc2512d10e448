-- How terms are sorted.
use Rattle.std.specs.Prelude.{◌≢◌, ℕ, ◌==◌, if◌then◌else◌, List, [], ◌∷◌, length}
use Rattle.std.specs.declared.cmp.Ordering.{Ordering}
use Rattle.std.specs.declared.cmp.Ordering.TheVariants.{Less}
use Rattle.std.specs.Ordering.{nat_cmp, ordering_then}
use Rattle.monomials.specs.Monomials.{Monomial}
use Rattle.monomials.specs.Orders.{RowOrder, order_cmp}
use Rattle.monomials.specs.Polynomials.{Each}

-- a monomial of the order's own number of variables, and one value for all others
abbrev pub own : ℕ → Monomial → Monomial
own vars m = if length m == vars then m else []

-- The order, for all lists: by the number of variables, and then by the order where that is its own.
abbrev pub rank_cmp : RowOrder → Monomial → Monomial → Ordering
rank_cmp order a b =
    ordering_then (nat_cmp (length a) (length b)) (order_cmp order.rows (own order.vars a) (own order.vars b))

-- k is below no key of f
abbrev pub IsNotBelow : {K : Type 0} → (K → K → Ordering) → K → List (ℕ × K) → Type 0
IsNotBelow cmp k f = Each (λ t. cmp k t.1 ≢ Less) f

-- no key is below a later one
abbrev pub IsFalling : {K : Type 0} → (K → K → Ordering) → List (ℕ × K) → Type 0
IsFalling cmp [] = Unit {0}
IsFalling cmp (t ∷ f) = IsNotBelow cmp t.1 f × IsFalling cmp f
