use Rattle.std.proofs.Common.{suc, ◌-◌, arith}
use Rattle.std.proofs.lemmas.Result.{err_from_is_err_and}
use Rattle.algebra.specs.Inside.Tests.{line_fault}
use Rattle.word_model.proofs.Faults.{first_from-none}
use Rattle.algebra.proofs.Testing.{IsReported-first_from}
use Rattle.algebra.proofs.presentation.Presentation.test_plane.Goals as goal

pub returns-in_err-test_line : goal.returns-in_err-test_line
returns-in_err-test_line c =
    let p = err_from_is_err_and c.from_residual.result c.from_residual.ensures.1 in
    rw (p.1, p.2)
    (IsReported-first_from (λ x. line_fault c.args.self.now c.args.i x) (Unit {0}) (suc c.args.i) (c.args.self.now.order.vars - c.args.i) c.loop-j.j c.in_err-test_line.field-0.0
    (omega arith) (omega arith) (λ x low high. c.loop-j.invariant x (omega arith) high) c.in_err-test_line.ensures)

pub returns : goal.returns
returns c =
    first_from-none (λ x. line_fault c.args.self.now c.args.i x) (suc c.args.i) (c.args.self.now.order.vars - c.args.i)
    (λ x low high. c.loop-j.invariant x (omega arith) (omega arith))
