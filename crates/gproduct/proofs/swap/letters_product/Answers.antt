use Rattle.std.proofs.Common.{◌≡◌, ℕ, [], ◌∷◌, ap, ◌∙◌, sym, subst, arith}
use Rattle.std.proofs.lemmas.Result.{IfOk-weaker}
use Rattle.monomials.specs.Monomials.{variable}
use Rattle.monomials.specs.Polynomials.{Polynomial, IsPolynomial, poly_degree}
use Rattle.word_model.specs.Words.{Algebra}
use Rattle.word_model.specs.Products.{product, variable_polynomial}
use Rattle.gproduct.proofs.LetterValue.{letter_sorted, letter_degree, letters_value}
use Rattle.gproduct.proofs.swap.letters_product.Goals as goal

-- a letter, as a polynomial
letter_is : (A : Algebra) (n v : ℕ) (f : Polynomial) → n ≡ A.order.vars → f ≡ (1, variable n v) ∷ [] → f ≡ variable_polynomial A v
letter_is A n v f n_is f_is = f_is ∙ ap (λ n. (1, variable n v) ∷ []) n_is

pub product_within-requires-clause-f_sorted : goal.product_within-requires-clause-f_sorted
product_within-requires-clause-f_sorted c =
    let A = c.args.alg.now in
    let is : c.in_ok-left.left ≡ variable_polynomial A c.args.j = letter_is A c.n-n.result c.args.j c.in_ok-left.left c.n-n.ensures.value (c.in_ok-left.ensures ∙ ap (λ m. (1, m) ∷ []) c.var.ensures) in
    subst (IsPolynomial A.p A.order) (sym is) (letter_sorted A c.args.j c.n-n.ensures.prime.above_one (omega (arith, c.requires.first, c.requires.ordered)) c.requires.last)

pub product_within-requires-clause-g_sorted : goal.product_within-requires-clause-g_sorted
product_within-requires-clause-g_sorted c =
    let A = c.args.alg.now in
    let is : c.in_ok-right.right ≡ variable_polynomial A c.args.i = letter_is A c.n-n.result c.args.i c.in_ok-right.right c.n-n.ensures.value (c.in_ok-right.ensures ∙ ap (λ m. (1, m) ∷ []) c.var-2.ensures) in
    subst (IsPolynomial A.p A.order) (sym is) (letter_sorted A c.args.i c.n-n.ensures.prime.above_one c.requires.first (omega (arith, c.requires.ordered, c.requires.last)))

pub product_within-requires-clause-within : goal.product_within-requires-clause-within
product_within-requires-clause-within c =
    let A = c.args.alg.now in
    let left : c.in_ok-left.left ≡ variable_polynomial A c.args.j = letter_is A c.n-n.result c.args.j c.in_ok-left.left c.n-n.ensures.value (c.in_ok-left.ensures ∙ ap (λ m. (1, m) ∷ []) c.var.ensures) in
    let right : c.in_ok-right.right ≡ variable_polynomial A c.args.i = letter_is A c.n-n.result c.args.i c.in_ok-right.right c.n-n.ensures.value (c.in_ok-right.ensures ∙ ap (λ m. (1, m) ∷ []) c.var-2.ensures) in
    omega (
      arith,
      ap poly_degree left,
      ap poly_degree right,
      letter_degree A c.args.j (omega (arith, c.requires.first, c.requires.ordered)),
      letter_degree A c.args.i c.requires.first,
    )

pub returns : goal.returns
returns c =
    let A = c.args.alg.now in
    let left : c.in_ok-left.left ≡ variable_polynomial A c.args.j = letter_is A c.n-n.result c.args.j c.in_ok-left.left c.n-n.ensures.value (c.in_ok-left.ensures ∙ ap (λ m. (1, m) ∷ []) c.var.ensures) in
    let right : c.in_ok-right.right ≡ variable_polynomial A c.args.i = letter_is A c.n-n.result c.args.i c.in_ok-right.right c.n-n.ensures.value (c.in_ok-right.ensures ∙ ap (λ m. (1, m) ∷ []) c.var-2.ensures) in
    IfOk-weaker c.product_within.result _ _
    (λ r is. is ∙ (λ k. product A (left k) (right k)) ∙ letters_value A c.n-n.ensures.accepted c.args.i c.args.j c.requires.first c.requires.ordered c.requires.last)
    c.product_within.ensures
