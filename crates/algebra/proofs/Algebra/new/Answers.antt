use Rattle.std.proofs.Common.{◌≡◌, ◌*◌, ◌-◌, ◌∙◌, None, sym, ap, subst}
use Rattle.std.proofs.lemmas.Result.{err_from_is_err_and}
use Rattle.word_model.specs.Words.{Algebra}
use Rattle.word_model.specs.Conditions.{relations_fault, IsAlgebraData}
use Rattle.word_model.proofs.Faults.{pairs_passed}
use Rattle.word_model.proofs.Acceptance.{RewritesDown-passed}
use Rattle.algebra.specs.Faults.{Reports}
use Rattle.algebra.proofs.Testing.{Reports-pairs, Reports-triples, relations_passed}
use Rattle.algebra.proofs.Algebra.new.Goals as goal

pub returns-in_err-test_pairs-clause-fault : goal.returns-in_err-test_pairs-clause-fault
returns-in_err-test_pairs-clause-fault c =
    let p = err_from_is_err_and c.from_residual.result c.from_residual.ensures.1 in
    let e = c.in_err-test_pairs.field-0.0 in
    rw (p.1, p.2) (subst (λ a. Reports a e) c.of-presentation.ensures (Reports-pairs c.of-presentation.result e c.in_err-test_pairs.ensures))

pub test_triples-requires : goal.test_triples-requires
test_triples-requires c =
    let a : Algebra = record { p = c.args.field; order = c.args.order; c = c.args.rel.c.items; d = c.args.rel.d.items } in
    let kept : IsAlgebraData a = record {
      numbers = c.requires.numbers;
      polynomials = c.requires.polynomials;
      one_number_each = c.requires.one_number_each ∙ sym (ap (λ n. n * (n - 1)) c.requires.vars);
      one_polynomial_each = c.requires.one_polynomial_each;
    } in
    RewritesDown-passed c.of-presentation.result (subst IsAlgebraData (sym c.of-presentation.ensures) kept)
    (pairs_passed c.of-presentation.result c.in_ok-test_pairs.ensures)

pub returns-in_err-test_triples-clause-fault : goal.returns-in_err-test_triples-clause-fault
returns-in_err-test_triples-clause-fault c =
    let p = err_from_is_err_and c.from_residual-in_err-test_triples.result c.from_residual-in_err-test_triples.ensures.1 in
    let e = c.in_err-test_triples.field-0.0 in
    rw (p.1, p.2)
    (subst (λ a. Reports a e) c.of-presentation.ensures
    (Reports-triples c.of-presentation.result e c.in_ok-test_pairs.ensures c.in_err-test_triples.ensures))

pub invariant_of-result : goal.invariant_of-result
invariant_of-result c = relations_passed c.of-presentation.result c.in_ok-test_pairs.ensures c.in_ok-test_triples.ensures

pub returns-clause-accepted : goal.returns-clause-accepted
returns-clause-accepted c =
    subst (λ a. relations_fault a ≡ None) c.of-presentation.ensures
    (relations_passed c.of-presentation.result c.in_ok-test_pairs.ensures c.in_ok-test_triples.ensures)
