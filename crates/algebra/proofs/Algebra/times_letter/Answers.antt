use Rattle.std.proofs.Common.{◌≡◌, ◌∙◌, ◌++◌, ◌∷◌, [], sym, subst, arith}
use Rattle.std.proofs.lemmas.Result.{IfOk-weaker}
use Rattle.monomials.specs.Orders.{order_cmp}
use Rattle.monomials.specs.Polynomials.{HasNumbers}
use Rattle.monomials.proofs.Operations.{HasNumbers-canonical}
use Rattle.word_model.specs.Words.{word_value}
use Rattle.word_model.specs.Products.{product, variable_polynomial}
use Rattle.algebra.specs.Inside.WordSums.{words_of, reduced, between, IsPending}
use Rattle.algebra.proofs.OverlapSums.{IsPending-reduced}
use Rattle.algebra.proofs.Letterwise.{letter_fits, letter_value}
use Rattle.algebra.proofs.Algebra.times_letter.Goals as goal
use Rattle.algebra.proofs.Algebra.times_letter.Goals.{In_ok-push_between}

pub push_between-requires-clause-numbers : goal.push_between-requires-clause-numbers
push_between-requires-clause-numbers c =
    let a = c.args.self.now in
    subst (λ p. HasNumbers p c.args.f.now) (sym c.field.ensures) (HasNumbers-canonical (order_cmp a.order.rows) a.p c.args.f.now c.requires.sorted.canonical)

-- the words of f, each with the letter behind it
pushed : (c : In_ok-push_between)
    → words_of c.push_between.new.words.items ≡ reduced c.args.self.now.p (between 1 [] c.args.f.now (c.args.letter ∷ []))
pushed c =
    c.in_ok-push_between.ensures
    ∙ (λ i. words_of (c.new-words.ensures.items i) ++ reduced (c.field.ensures i) (between 1 [] c.args.f.now (c.args.letter ∷ [])))

pub word_value-requires-clause-pending : goal.word_value-requires-clause-pending
word_value-requires-clause-pending c =
    let a = c.args.self.now in
    let words = between 1 [] c.args.f.now (c.args.letter ∷ []) in
    subst (λ b. IsPending b.p b.order.vars (words_of c.push_between.new.words.items)) (sym c.self.view_is)
    (subst (IsPending a.p a.order.vars) (sym (pushed (goal.at.word_value-requires-clause-pending c).In_ok-push_between))
    (IsPending-reduced a.p a.order.vars words (omega (arith, c.n-n.ensures.prime.above_one))
    (letter_fits a.order.vars c.args.letter c.args.f.now c.requires.sorted.vars c.requires.within c.requires.first c.requires.last)))

pub returns-clause-value : goal.returns-clause-value
returns-clause-value c =
    let a = c.args.self.now in
    let value : word_value c.self.inside.presentation (words_of c.push_between.new.words.items) ≡ product a c.args.f.now (variable_polynomial a c.args.letter) =
    (λ i. word_value (c.self.view_is i) (pushed (goal.at.returns-clause-value c).In_ok-push_between i))
    ∙ letter_value a c.n-n.ensures.prime.above_one c.args.f.now c.args.letter c.requires.first in
    IfOk-weaker c.word_value.result _ _ (λ r is. is ∙ value) c.word_value.ensures.value
