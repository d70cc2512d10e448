-- A monomial's rank is below the number of monomials of its kind.
use Rattle.std.proofs.Common.{◌≡◌, ℕ, suc, ◌+◌, ◌^◌, ◌<◌, ◌≤◌, inl, inr, Bool, true, false, cond, List, [], ◌∷◌, length, sym, ap, ◌∙◌, subst, arith, ℤ}
use Rattle.std.proofs.Common.{is_lt}
use Rattle.monomials.specs.Monomials.{Monomial, degree}
use Rattle.monomials.specs.Orders.{order_cmp}
use Rattle.monomials.specs.Polynomials.{Each}
use Rattle.monomials.proofs.OrderLaws.{order_cmp_total, order_cmp_tied}
use Rattle.monomials.proofs.Canonical.{ties_itself}
use Rattle.word_model.proofs.Letters.{degree-cons}
use Rattle.word_model.proofs.Ranks.{IsIn, monomials_up_to, IsIn-monomials_up_to, length-monomials_up_to, how_many, how_many_at_most, rank}

-- fewer pass than there are, where one of them does not
how_many-below : (test : Monomial → Bool) (x : Monomial) → test x ≡ false → (ms : List Monomial) → IsIn x ms → how_many test ms < length ms
how_many-below test x fails [] h = absurd h
how_many-below test x fails (m ∷ ms) (inl e) =
    let none : ◌≡◌ {A = ℕ} (cond (test m) 1 0) 0 = ap (λ x. cond (test x) 1 0) (sym e) ∙ ap (λ v. cond v 1 0) fails in
    omega (arith, how_many_at_most test ms)
how_many-below test x fails (m ∷ ms) (inr h) =
    elim (test m) as (λ b. cond b 1 0 + how_many test ms < suc (length ms)) [
      | true ↦ omega (arith, how_many-below test x fails ms h)
      | false ↦ omega (arith, how_many-below test x fails ms h)
    ]

-- the rank of a monomial among those with exponents up to l, where it is one of them
pub rank-below : (rows : List (List ℤ)) (n l : ℕ) (x : Monomial) → IsIn x (monomials_up_to n l) → rank rows n l x < (l + 1) ^ n
rank-below rows n l x h =
    subst (λ k. rank rows n l x < k) (length-monomials_up_to n l)
    (how_many-below (λ z. is_lt (order_cmp rows z x)) x
    (ap is_lt (ties_itself (order_cmp rows) (order_cmp_total rows) (order_cmp_tied rows) 0 x)) (monomials_up_to n l) h)

-- no exponent is above the degree
exponents-le_degree : (m : Monomial) (d : ℕ) → degree m ≤ d → Each (λ e. e ≤ d) m
exponents-le_degree [] d h = tt
exponents-le_degree (e ∷ m) d h = (omega (arith, degree-cons e m), exponents-le_degree m d (omega (arith, degree-cons e m)))

-- a monomial of degree at most d is one of those with exponents up to d
pub IsIn-degree : (n d : ℕ) (m : Monomial) → length m ≡ n → degree m ≤ d → IsIn m (monomials_up_to n d)
IsIn-degree n d m vars h = IsIn-monomials_up_to n d m vars (exponents-le_degree m d h)
