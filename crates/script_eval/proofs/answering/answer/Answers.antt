use Rattle.script_model.specs.Scripts.{too_long}
use Rattle.script_eval.proofs.Answered.{answered, fault_answered}
use Rattle.script_eval.proofs.answering.answer.Goals as goal

pub returns-then-bytes-gt-MOST_BYTES-clause-value : goal.returns-then-bytes-gt-MOST_BYTES-clause-value
returns-then-bytes-gt-MOST_BYTES-clause-value g c =
    answered c.args.budget c.args.bytes.now c.too_long.result _ c.too_long.ensures (too_long c.if-bytes-gt-MOST_BYTES.true)

pub returns-in-Err-clause-value : goal.returns-in-Err-clause-value
returns-in-Err-clause-value g c =
    fault_answered c.args.budget c.args.bytes.now c.answer_fault.result c.in-Err.fault c.if-bytes-gt-MOST_BYTES.false c.in-Err.ensures c.answer_fault.ensures
