use Rattle.std.proofs.Common.{◌≡◌, ◌≤◌, ◌-◌, drop, length}
use Rattle.script_model.specs.Evaluation.{evaluation, answer_from, behind}
use Rattle.script_eval.proofs.evaluation.eval.Given as goal

abbrev pub invariant-loop-done : goal.invariant-loop-done
invariant-loop-done g l = record {
  ready : g.E.Engine.can_run l.engine;
  within : l.done ≤ length l.statements;
  value : evaluation l.bytes l.fn.budget l.statements ≡ behind l.text.items (answer_from l.bytes l.fn.budget (drop l.done l.statements) l.environment);
}

abbrev pub decreases-loop-done : goal.decreases-loop-done
decreases-loop-done g l = length l.statements - l.done
