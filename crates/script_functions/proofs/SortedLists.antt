-- Lists sorted by another order, one polynomial after the other.
use Rattle.std.proofs.Common.{◌≡◌, ◌∙◌, ℕ, ◌+◌, ◌<◌, List, [], ◌∷◌, ◌++◌, length, drop, get_or, sym, ap, subst}
use Rattle.std.proofs.lemmas.List.{drop_more, append_assoc}
use Rattle.monomials.specs.Orders.{order_cmp}
use Rattle.monomials.specs.Polynomials.{Polynomial, IsPolynomial, from_terms}
use Rattle.monomials.proofs.Keys.{Each-append}
use Rattle.gpoly.proofs.Lists.{Each-get_or}
use Rattle.word_model.specs.Words.{Algebra}
use Rattle.script_model.specs.Functions.{sorted_in}
use Rattle.script_values.specs.Values.{ArePolynomials}

pub polynomial_at : (A : Algebra) (fs : List Polynomial) (i : ℕ) (f : Polynomial) → i < length fs → f ≡ get_or fs i f → ArePolynomials A fs → IsPolynomial A.p A.order f
polynomial_at A fs i f inside is sorted = subst (IsPolynomial A.p A.order) (sym is) (Each-get_or (IsPolynomial A.p A.order) fs i f inside sorted)

pub sorted_more : (B : Algebra) (fs out new : List Polynomial) (i : ℕ) (f r : Polynomial) → i < length fs → f ≡ get_or fs i f → r ≡ from_terms (order_cmp B.order.rows) B.p f → new ≡ out ++ r ∷ []
    → sorted_in B fs ≡ out ++ sorted_in B (drop i fs) → sorted_in B fs ≡ new ++ sorted_in B (drop (i + 1) fs)
sorted_more B fs out new i f r inside is value added e =
    e
    ∙ ap (λ gs. out ++ sorted_in B gs) (drop_more fs i f inside ∙ ap (λ g. g ∷ drop (i + 1) fs) (sym is))
    ∙ ap (λ g. out ++ (g ∷ sorted_in B (drop (i + 1) fs))) (sym value)
    ∙ sym (append_assoc out (r ∷ []) (sorted_in B (drop (i + 1) fs)))
    ∙ ap (λ gs. gs ++ sorted_in B (drop (i + 1) fs)) (sym added)

pub polynomials_more : (B : Algebra) (out new : List Polynomial) (r : Polynomial) → new ≡ out ++ r ∷ [] → ArePolynomials B out → IsPolynomial B.p B.order r → ArePolynomials B new
polynomials_more B out new r added sorted r_is = subst (ArePolynomials B) (sym added) (Each-append (IsPolynomial B.p B.order) out (r ∷ []) sorted (r_is, tt))
