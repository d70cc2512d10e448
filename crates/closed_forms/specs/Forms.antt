-- The product y^a x^b of powers of two variables, by the formula of the relation's kind.
use Rattle.std.specs.Prelude.{◌≡◌, ℕ, zero, suc, ◌-◌, ◌*◌, ◌%◌, ◌^◌, ◌<◌, ◌⊎◌, min, List, [], ◌∷◌, ◌++◌, map, replicate}
use Rattle.monomials.specs.Orders.{order_cmp}
use Rattle.monomials.specs.Polynomials.{Polynomial, Each, cons_nonzero, from_terms}
use Rattle.word_model.specs.Words.{Algebra, monomial_of}
use Rattle.closed_forms.specs.declared.Term2.{Term2}
use Rattle.closed_forms.specs.declared.PairKind.{PairKind}
use Rattle.closed_forms.specs.declared.PairKind.TheVariants.{Commuting, Quasi, Weyl, QWeyl, LeftLinear, RightLinear}
use Rattle.closed_forms.specs.Binomials.{gaussian, q_factorial}

-- a monomial x^s y^t, as its two exponents
abbrev pub Powers : Type 0
Powers = ℕ × ℕ

-- a sum of terms in x and y
abbrev pub Terms : Type 0
Terms = List (ℕ × Powers)

-- a term of the program
abbrev pub pair_of : Term2 → ℕ × Powers
pair_of t = (t.coef, (t.x, t.y))

abbrev pub pairs_of : List Term2 → Terms
pairs_of ts = map pair_of ts

-- greater in x, or the same in x and greater in y
abbrev pub IsBefore : Powers → Powers → Type 0
IsBefore a b = (b.0 < a.0) ⊎ ((a.0 ≡ b.0) × (b.1 < a.1))

-- by falling exponents of x and, where these are the same, of y
abbrev pub IsFalling : Terms → Type 0
IsFalling [] = Unit {0}
IsFalling (t ∷ f) = Each (λ u. IsBefore t.1 u.1) f × IsFalling f

-- a number below p that is not zero
abbrev pub IsNumber : ℕ → ℕ × Powers → Type 0
IsNumber p t = (0 < t.0) × (t.0 < p)

-- the sum over k below n of c(k) modulo p times the monomial at(k), without the terms that are zero
abbrev pub sum_of_terms : ℕ → (ℕ → ℕ) → (ℕ → Powers) → ℕ → Terms
sum_of_terms p c at zero = []
sum_of_terms p c at (suc n) = sum_of_terms p c at n ++ cons_nonzero (c n % p) (at n) []

-- The number at x^(b-k) y^(a-k) where y x = q x y + δ: δ^k q^((a-k)(b-k)) [a,k]_q [b,k]_q [k]_q!, a whole number.
abbrev pub weyl_number : ℕ → ℕ → ℕ → ℕ → ℕ → ℕ
weyl_number q delta a b k = delta ^ k * (q ^ ((a - k) * (b - k)) * (gaussian q a k * (gaussian q b k * q_factorial q k)))

-- y^a x^b where y x = q x y + δ
abbrev pub weyl_form : ℕ → ℕ → ℕ → ℕ → ℕ → Terms
weyl_form p q delta a b = sum_of_terms p (weyl_number q delta a b) (λ k. (b - k, a - k)) (suc (min a b))

-- the number at z^(n-k) of (z + c)^n
abbrev pub binomial_number : ℕ → ℕ → ℕ → ℕ
binomial_number c n k = gaussian 1 n k * c ^ k

-- y^a x^b for each kind: x^b y^a, its multiple by q^(ab), the two Weyl forms, x^b (y + b α)^a and (x + a β)^b y^a
abbrev pub closed_form : ℕ → PairKind → ℕ → ℕ → Terms
closed_form p Commuting a b = (1, (b, a)) ∷ []
closed_form p (Quasi q) a b = cons_nonzero (q ^ (a * b) % p) (b, a) []
closed_form p (Weyl delta) a b = weyl_form p 1 delta a b
closed_form p (QWeyl q delta) a b = weyl_form p q delta a b
closed_form p (LeftLinear alpha) a b = sum_of_terms p (binomial_number (b * alpha) a) (λ k. (b, a - k)) (suc a)
closed_form p (RightLinear beta) a b = sum_of_terms p (binomial_number (a * beta) b) (λ k. (b - k, a)) (suc b)

-- The polynomial of an algebra in which x is x_i and y is x_j.
abbrev pub in_algebra : Algebra → ℕ → ℕ → Terms → Polynomial
in_algebra A i j f =
    from_terms (order_cmp A.order.rows) A.p
    (map (λ t. (t.0, monomial_of A.order.vars (replicate t.1.0 i ++ replicate t.1.1 j))) f)
