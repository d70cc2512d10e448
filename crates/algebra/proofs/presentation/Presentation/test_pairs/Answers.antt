use Rattle.std.proofs.Common.{arith}
use Rattle.std.proofs.lemmas.Result.{err_from_is_err_and}
use Rattle.algebra.specs.Inside.Tests.{row_fault}
use Rattle.word_model.proofs.Faults.{first_from-none}
use Rattle.algebra.proofs.Testing.{IsReported-first_from}
use Rattle.algebra.proofs.presentation.Presentation.test_pairs.Goals as goal

pub returns-in_err-test_row : goal.returns-in_err-test_row
returns-in_err-test_row c =
    let p = err_from_is_err_and c.from_residual.result c.from_residual.ensures.1 in
    rw (p.1, p.2)
    (IsReported-first_from (λ x. row_fault c.args.self.now x) ⊥ 1 c.args.self.now.order.vars c.loop-i.i c.in_err-test_row.field-0.0
    (omega arith) (omega arith) (λ x low high. c.loop-i.invariant x (omega arith) high) c.in_err-test_row.ensures)

pub returns : goal.returns
returns c =
    first_from-none (λ x. row_fault c.args.self.now x) 1 c.args.self.now.order.vars
    (λ x low high. c.loop-i.invariant x (omega arith) (omega arith))
