use Rattle.std.proofs.Common.{suc, ◌-◌, arith}
use Rattle.std.proofs.lemmas.Result.{err_from_is_err_and}
use Rattle.word_model.specs.Conditions.{pair_fault}
use Rattle.word_model.proofs.Faults.{first_from-none}
use Rattle.algebra.proofs.Testing.{IsReported-first_from}
use Rattle.algebra.proofs.presentation.Presentation.test_row.Goals as goal

pub returns-in_err-test_pair : goal.returns-in_err-test_pair
returns-in_err-test_pair c =
    let p = err_from_is_err_and c.from_residual.result c.from_residual.ensures.1 in
    rw (p.1, p.2)
    (IsReported-first_from (λ x. pair_fault c.args.self.now c.args.i x) ⊥ (suc c.args.i) (c.args.self.now.order.vars - c.args.i) c.loop-j.j c.in_err-test_pair.field-0.0
    (omega arith) (omega arith) (λ x low high. c.loop-j.invariant x (omega arith) high) c.in_err-test_pair.ensures)

pub returns : goal.returns
returns c =
    first_from-none (λ x. pair_fault c.args.self.now c.args.i x) (suc c.args.i) (c.args.self.now.order.vars - c.args.i)
    (λ x low high. c.loop-j.invariant x (omega arith) (omega arith))
