-- Products in a G-algebra.
use Rattle.std.specs.Prelude.{ℕ, ◌+◌, Bool, true, nat_le, [], ◌∷◌, ◌++◌, map}
use Rattle.monomials.specs.Monomials.{variable, one}
use Rattle.monomials.specs.Orders.{order_cmp}
use Rattle.monomials.specs.Polynomials.{Polynomial, sum_over, poly_degree}
use Rattle.word_model.specs.Words.{Algebra, Word, WordSum, normal_form, sorted_word}

-- The product: over the terms of f and of g, the product of their two numbers times
-- the normal form of their two sorted words put one after the other.
unfoldable pub product : Algebra → Polynomial → Polynomial → Polynomial
product A f g =
    sum_over (order_cmp A.order.rows) A.p
    (λ a. sum_over (order_cmp A.order.rows) A.p (λ b. normal_form A (sorted_word a ++ sorted_word b)) g) f

-- the variable x_v as a polynomial
abbrev pub variable_polynomial : Algebra → ℕ → Polynomial
variable_polynomial A v = (1, variable A.order.vars v) ∷ []

-- f times the letters of a word, one after another
abbrev pub times_letters : Algebra → Polynomial → Word → Polynomial
times_letters A f [] = f
times_letters A f (v ∷ w) = times_letters A (product A f (variable_polynomial A v)) w

-- the product of the letters of a word, multiplied from left to right
abbrev pub letters_product : Algebra → Word → Polynomial
letters_product A [] = (1, one A.order.vars) ∷ []
letters_product A (v ∷ w) = times_letters A (variable_polynomial A v) w

-- the sorted words of the terms of f, each with the letter v behind it
abbrev pub with_letter : ℕ → Polynomial → WordSum
with_letter v f = map (λ t. (t.0, sorted_word t.1 ++ v ∷ [])) f

-- the most that the degrees of the factors of a computed product may add up to
abbrev pub degree_limit : ℕ
degree_limit = 4095

-- whether a product is computed: one factor is zero, or the degrees add up to at most the limit
abbrev pub in_reach : Polynomial → Polynomial → Bool
in_reach [] g = true
in_reach (t ∷ f) [] = true
in_reach (t ∷ f) (u ∷ g) = nat_le (poly_degree (t ∷ f) + poly_degree (u ∷ g)) degree_limit
