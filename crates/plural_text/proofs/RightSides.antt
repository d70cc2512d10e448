-- The right side of a relation, as it is made.
use Rattle.std.proofs.Common.{◌≡◌, ◌≢◌, ℕ, ◌+◌, ◌<◌, ◌≤◌, [], ◌∷◌, length, sym, ap, ◌∙◌, arith}
use Rattle.monomials.specs.Monomials.{Monomial, degree, plus, variable}
use Rattle.monomials.specs.Orders.{RowOrder, order_cmp}
use Rattle.monomials.specs.Polynomials.{Polynomial, from_terms, poly_add}
use Rattle.monomials.proofs.Exponents.{degree-plus, length-zip_with}
use Rattle.word_model.specs.Words.{Algebra, pair_monomial, c_of, d_of}
use Rattle.word_model.specs.RingTexts.{right_side}
use Rattle.word_model.proofs.Associativity.{length-variable}
use Rattle.word_model.proofs.TermProducts.{one_term, degree-variable}

module _ (n i j : ℕ) (i_low : 1 ≤ i) (i_high : i ≤ n) (j_low : 1 ≤ j) (j_high : j ≤ n) where
  pub length-pair : length (plus (variable n i) (variable n j)) ≡ n
  length-pair =
      let same : length (variable n i) ≡ length (variable n j) = length-variable n i i_low i_high ∙ sym (length-variable n j j_low j_high) in
      length-zip_with (λ x y. x + y) (variable n i) (variable n j) same ∙ length-variable n i i_low i_high

  pub degree-pair : degree (plus (variable n i) (variable n j)) ≡ 2
  degree-pair =
      let same : length (variable n i) ≡ length (variable n j) = length-variable n i i_low i_high ∙ sym (length-variable n j j_low j_high) in
      omega (arith, degree-plus (variable n i) (variable n j) same, degree-variable n i i_low, degree-variable n j j_low)

-- x_i x_j, as it is made
pub pair_made : (n n' i j : ℕ) (a b m : Monomial) → n' ≡ n → a ≡ variable n' i → b ≡ variable n' j → m ≡ plus a b → m ≡ plus (variable n i) (variable n j)
pair_made n n' i j a b m same first second e =
    e ∙ (λ t. plus ((first ∙ ap (λ k. variable k i) same) t) ((second ∙ ap (λ k. variable k j) same) t))

pub right_side-made : (A : Algebra) (i j : ℕ) (order order' : RowOrder) (p p' c : ℕ) (m : Monomial) (first d : Polynomial)
    → order ≡ A.order → order' ≡ A.order → p ≡ A.p → p' ≡ A.p → c ≡ c_of A i j → m ≡ pair_monomial A.order.vars i j
    → first ≡ from_terms (order_cmp order.rows) p ((c, m) ∷ []) → d ≡ d_of A i j → c_of A i j < A.p → c_of A i j ≢ 0
    → poly_add (order_cmp order'.rows) p' first d ≡ right_side A i j
right_side-made A i j order order' p p' c m first d o o' f f' number mono made rest below nonzero =
    let pair : Monomial = pair_monomial A.order.vars i j in
    let leading : first ≡ (c_of A i j, pair) ∷ [] =
    made
    ∙ ((λ t. from_terms (order_cmp (o t).rows) (f t) ((number t, mono t) ∷ []))
    ∙ one_term (order_cmp A.order.rows) A.p (c_of A i j) pair below nonzero) in
    (λ t. poly_add (order_cmp (o' t).rows) (f' t) (leading t) (rest t))
