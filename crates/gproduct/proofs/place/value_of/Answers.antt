use Rattle.std.proofs.Common.{sym, subst}
use Rattle.std.proofs.lemmas.Result.{IfOk-weaker}
use Rattle.prime_field.specs.Modular.{IsPrime}
use Rattle.monomials.specs.Polynomials.{IsPolynomial}
use Rattle.word_model.proofs.NormalForms.{normal_form_is_polynomial}
use Rattle.gproduct.specs.Places.{place_word}
use Rattle.gproduct.proofs.place.value_of.Goals as goal

pub returns-clause-sorted : goal.returns-clause-sorted
returns-clause-sorted c =
    let prime : IsPrime c.args.alg.now.p = c.n-n.ensures.prime in
    let sorted = normal_form_is_polynomial c.args.alg.now prime.above_one (place_word c.args.place) in
    IfOk-weaker c.value.result _ _ (λ r is. subst (IsPolynomial c.args.alg.now.p c.args.alg.now.order) (sym is) sorted) (rw c.swap_of.ensures at c.value.ensures)
