use Rattle.std.proofs.Common.{◌<◌, sym, ap, ◌∙◌, subst}
use Rattle.monomials.specs.Polynomials.{IsPolynomial}
use Rattle.word_model.specs.Words.{Algebra}
use Rattle.word_model.specs.Conditions.{IsGAlgebra}
use Rattle.word_model.specs.Products.{product, variable_polynomial}
use Rattle.word_model.proofs.NormalForms.{normal_form_is_polynomial}
use Rattle.gproduct.proofs.LetterValue.{letter_more, raised_degree}
use Rattle.gproduct.proofs.first.raised.Goals as goal

pub crossed_times-requires-clause-sorted : goal.crossed_times-requires-clause-sorted
crossed_times-requires-clause-sorted g c =
    let A : Algebra = g.E.Exchange.over c.args.swaps.now in
    let above_one : 1 < A.p = subst (λ (A : Algebra). 1 < A.p) c.algebra.ensures c.n-n.ensures.prime.above_one in
    let sorted : IsPolynomial A.p A.order c.loop-letter.value = subst (IsPolynomial A.p A.order) (sym c.loop-letter.invariant.value) (normal_form_is_polynomial A above_one _) in
    subst (λ (A : Algebra). IsPolynomial A.p A.order c.loop-letter.value) (sym c.loop-letter.invariant.algebra) sorted

pub crossed_times-requires-clause-within : goal.crossed_times-requires-clause-within
crossed_times-requires-clause-within g c =
    let A : Algebra = g.E.Exchange.over c.args.swaps.now in
    let accepted : IsGAlgebra A = subst IsGAlgebra c.algebra.ensures c.n-n.ensures.accepted in
    raised_degree A accepted c.args.swap c.requires.swap c.loop-letter._letter c.loop-letter.value c.loop-letter-test.true c.loop-letter.invariant.value

pub loop-letter-preserved : goal.loop-letter-preserved
loop-letter-preserved g c =
    let A : Algebra = g.E.Exchange.over c.args.swaps.now in
    let accepted : IsGAlgebra A = subst IsGAlgebra c.algebra.ensures c.n-n.ensures.accepted in
    record {
      counted = c.in_ok-value.ensures.counted;
      empty = c.in_ok-value.ensures.empty;
      algebra = c.in_ok-value.ensures.algebra ∙ c.loop-letter.invariant.algebra;
      value =
          c.in_ok-value.ensures.value
          ∙ ap (λ (A : Algebra). product A (variable_polynomial A c.args.swap.j) c.loop-letter.value) c.loop-letter.invariant.algebra
          ∙ letter_more A accepted c.args.swap c.requires.swap c.loop-letter._letter c.loop-letter.value c.loop-letter.invariant.value;
    }
