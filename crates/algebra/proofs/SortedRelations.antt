-- The data of an algebra whose polynomials are sorted anew.
use Rattle.std.proofs.Common.{◌≡◌, ℕ, ◌+◌, ◌*◌, ◌-◌, ◌<◌, List, [], ◌∷◌, ◌++◌, map, length, take, get_or, sym, ap, ◌∙◌}
use Rattle.std.proofs.lemmas.List.{take_more, map_push, length-map}
use Rattle.monomials.specs.Orders.{RowOrder, order_cmp}
use Rattle.monomials.specs.Polynomials.{Polynomial, Each, IsPolynomial, from_terms}
use Rattle.monomials.proofs.Operations.{IsPolynomial-from_terms}
use Rattle.word_model.specs.Words.{Algebra}
use Rattle.word_model.specs.Conditions.{IsAlgebraData}
use Rattle.algebra.specs.Reordered.{reordered}

-- one more polynomial
pub sorted_more : (sort : Polynomial → Polynomial) (ds out new : List Polynomial) (i : ℕ) (d r : Polynomial) → i < length ds → d ≡ get_or ds i d →
    out ≡ map sort (take i ds) → r ≡ sort d → new ≡ out ++ r ∷ [] → new ≡ map sort (take (i + 1) ds)
sorted_more sort ds out new i d r inside is so_far sorted e =
    e
    ∙ ((λ t. so_far t ++ (sorted ∙ ap sort is) t ∷ [])
    ∙ (sym (map_push sort (take i ds) (get_or ds i d)) ∙ ap (λ us. map sort us) (sym (take_more ds i d inside))))

polynomials_sorted : (p : ℕ) (order o : RowOrder) → o.vars ≡ order.vars → 0 < p → (ds : List Polynomial) → Each (IsPolynomial p order) ds →
    Each (IsPolynomial p o) (map (from_terms (order_cmp o.rows) p) ds)
polynomials_sorted p order o vars pos [] h = tt
polynomials_sorted p order o vars pos (d ∷ ds) h =
    (IsPolynomial-from_terms p o pos d (rw vars h.0.vars), polynomials_sorted p order o vars pos ds h.1)

-- they are an algebra's data too
pub data_reordered : (A : Algebra) (o : RowOrder) → o.vars ≡ A.order.vars → 0 < A.p → IsAlgebraData A → IsAlgebraData (reordered o A)
data_reordered A o vars pos h = record {
  numbers = h.numbers;
  polynomials = polynomials_sorted A.p A.order o vars pos A.d h.polynomials;
  one_number_each = h.one_number_each ∙ ap (λ n. n * (n - 1)) (sym vars);
  one_polynomial_each = length-map A.d (from_terms (order_cmp o.rows) A.p) ∙ h.one_polynomial_each;
}
