-- Which polynomials a text may be of.
use Rattle.std.specs.Prelude.{◌≡◌, ℕ, ◌≤◌, List}
use Rattle.monomials.specs.Orders.{RowOrder}
use Rattle.monomials.specs.Polynomials.{Polynomial, IsPolynomial, poly_degree}
use Rattle.word_model.specs.Texts.{polynomial_text}

-- f is a polynomial of degree at most 4095 over the field with p elements, sorted by the order, and these bytes are its text
pub record Spells (p : ℕ) (order : RowOrder) (names : List (List ℕ)) (bytes : List ℕ) (f : Polynomial) : Type 0 where
  pub polynomial : IsPolynomial p order f
  pub degree : poly_degree f ≤ 4095
  pub text : polynomial_text p names f ≡ bytes
