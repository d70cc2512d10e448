use Rattle.std.proofs.Common.{suc, ◌-◌, arith}
use Rattle.std.proofs.lemmas.Result.{err_from_is_err_and}
use Rattle.word_model.specs.Conditions.{triple_fault}
use Rattle.word_model.proofs.Faults.{first_from-none}
use Rattle.algebra.proofs.Testing.{IsReported-first_from, passed_more}
use Rattle.algebra.proofs.presentation.Presentation.test_line.Goals as goal

pub returns-in_err-test_triple : goal.returns-in_err-test_triple
returns-in_err-test_triple c =
    let p = err_from_is_err_and c.from_residual.result c.from_residual.ensures.1 in
    rw (p.1, p.2)
    (IsReported-first_from (λ x. triple_fault c.args.self.now c.args.i c.args.j x) (Unit {0}) (suc c.args.j) (c.args.self.now.order.vars - c.args.j) c.loop-k.k c.in_err-test_triple.field-0.0
    (omega arith) (omega arith) (λ x low high. c.loop-k.invariant x (omega arith) high) c.in_err-test_triple.ensures)

pub returns : goal.returns
returns c =
    first_from-none (λ x. triple_fault c.args.self.now c.args.i c.args.j x) (suc c.args.j) (c.args.self.now.order.vars - c.args.j)
    (λ x low high. c.loop-k.invariant x (omega arith) (omega arith))

pub loop-k-preserved : goal.loop-k-preserved
loop-k-preserved c =
    passed_more (λ x. triple_fault c.args.self.now c.args.i c.args.j x) c.args.j c.loop-k.k c.loop-k.invariant c.in_ok-test_triple.ensures
