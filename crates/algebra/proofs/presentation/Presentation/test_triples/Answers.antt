use Rattle.std.proofs.Common.{arith}
use Rattle.std.proofs.lemmas.Result.{err_from_is_err_and}
use Rattle.algebra.specs.Inside.Tests.{plane_fault}
use Rattle.word_model.proofs.Faults.{first_from-none}
use Rattle.algebra.proofs.Testing.{IsReported-first_from}
use Rattle.algebra.proofs.presentation.Presentation.test_triples.Goals as goal

pub returns-in_err-test_plane : goal.returns-in_err-test_plane
returns-in_err-test_plane c =
    let p = err_from_is_err_and c.from_residual.result c.from_residual.ensures.1 in
    rw (p.1, p.2)
    (IsReported-first_from (λ x. plane_fault c.args.self.now x) (Unit {0}) 1 c.args.self.now.order.vars c.loop-i.i c.in_err-test_plane.field-0.0
    (omega arith) (omega arith) (λ x low high. c.loop-i.invariant x (omega arith) high) c.in_err-test_plane.ensures)

pub returns : goal.returns
returns c =
    first_from-none (λ x. plane_fault c.args.self.now x) 1 c.args.self.now.order.vars
    (λ x low high. c.loop-i.invariant x (omega arith) (omega arith))
