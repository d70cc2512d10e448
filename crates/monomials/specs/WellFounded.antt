-- Orders without an infinite descent.
use Rattle.std.specs.Prelude.{◌≡◌, ℕ, suc, length}
use Rattle.std.specs.declared.cmp.Ordering.TheVariants.{Less}
use Rattle.monomials.specs.Monomials.{Monomial}
use Rattle.monomials.specs.Orders.{RowOrder, order_cmp}

-- a is a monomial in the order's variables, and below m
pub record IsBelow (order : RowOrder) (a m : Monomial) : Type 0 where
  pub vars : length a ≡ order.vars
  pub less : order_cmp order.rows a m ≡ Less

-- m is reached from below: so is every monomial below it
pub data IsReached (order : RowOrder) : Monomial → Type 0 where
  reached : (m : Monomial) → ((a : Monomial) → IsBelow order a m → IsReached order a) → IsReached order m

-- Every monomial is reached from below. So what holds of a monomial as soon as it holds of all below it holds of all.
pub record IsWellFounded (order : RowOrder) : Type 0 where
  pub all : (m : Monomial) → length m ≡ order.vars → IsReached order m

-- monomials of which each is above the next
abbrev pub IsDescent : RowOrder → (ℕ → Monomial) → Type 0
IsDescent order s = (k : ℕ) → (length (s k) ≡ order.vars) × IsBelow order (s (suc k)) (s k)
