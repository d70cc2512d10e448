-- The leading terms of several polynomials, and what is left without those that have one monomial.
use Rattle.std.specs.Prelude.{◌≡◌, ℕ, ◌+◌, ◌%◌, Bool, true, false, cond, List, [], ◌∷◌, map, drop, Option, Some, None}
use Rattle.std.specs.declared.cmp.Ordering.{Ordering}
use Rattle.std.specs.declared.cmp.Ordering.TheVariants.{Less, Equal, Greater}
use Rattle.monomials.specs.Monomials.{Monomial}
use Rattle.monomials.specs.Orders.{RowOrder, order_cmp}
use Rattle.monomials.specs.Polynomials.{Polynomial}
use Rattle.monomials.specs.Leading.{leading_coefficient}
use Rattle.gpoly.specs.Sums.{poly_sum}

module _ (cmp : Monomial → Monomial → Ordering) where
  -- the greater of a monomial and f's leading one, where there are any
  abbrev pub greater_lead : Option Monomial → Polynomial → Option Monomial
  greater_lead None [] = None
  greater_lead None (t ∷ f) = Some t.1
  greater_lead (Some m) [] = Some m
  greater_lead (Some m) (t ∷ f) = elim (cmp m t.1) [
    | Less ↦ Some t.1
    | Equal ↦ Some m
    | Greater ↦ Some m
  ]

  -- the greatest of a monomial and the leading ones of the list
  abbrev pub greatest_lead : Option Monomial → List Polynomial → Option Monomial
  greatest_lead m [] = m
  greatest_lead m (f ∷ fs) = greatest_lead (greater_lead m f) fs

  -- whether m is the leading monomial of f
  abbrev pub leads_with : Monomial → Polynomial → Bool
  leads_with m [] = false
  leads_with m (t ∷ f) = elim (cmp m t.1) [
    | Less ↦ false
    | Equal ↦ true
    | Greater ↦ false
  ]

  -- the number of the leading term, if m is its monomial, and 0 else
  abbrev pub number_at : Monomial → Polynomial → ℕ
  number_at m f = cond (leads_with m f) (leading_coefficient f) 0

  -- n and those numbers of the list, added up modulo p
  abbrev pub numbers_from : ℕ → Monomial → ℕ → List Polynomial → ℕ
  numbers_from p m n [] = n
  numbers_from p m n (f ∷ fs) = numbers_from p m ((n + number_at m f) % p) fs

  -- f without its leading term, if m is its monomial
  abbrev pub without : Monomial → Polynomial → Polynomial
  without m f = cond (leads_with m f) (drop 1 f) f

-- t is the leading term of the sum of the list, which behind it is the sum without the leading terms with t's monomial
abbrev pub IsLead : ℕ → RowOrder → List Polynomial → ℕ × Monomial → Type 0
IsLead p order fs t =
    poly_sum (order_cmp order.rows) p fs ≡ t ∷ poly_sum (order_cmp order.rows) p (map (without (order_cmp order.rows) t.1) fs)
