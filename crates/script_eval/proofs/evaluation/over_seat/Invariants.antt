use Rattle.std.proofs.Common.{◌≡◌, ◌≤◌, ◌-◌, drop, length}
use Rattle.script_model.specs.Evaluation.{answer_from, behind}
use Rattle.script_eval.specs.Seats.{IsSeatOf}
use Rattle.script_eval.proofs.evaluation.over_seat.Given as goal

abbrev pub invariant-loop-done : goal.invariant-loop-done
invariant-loop-done g l = record {
  ready : g.E.Engine.can_run l.engine;
  seat : IsSeatOf l.seat.algebra l.environment;
  within : l.done ≤ length l.statements;
  value : behind l.fn.text.items (answer_from l.session.bytes l.session.budget l.statements l.fn.environment)
      ≡ behind l.text.items (answer_from l.session.bytes l.session.budget (drop l.done l.statements) l.environment);
}

abbrev pub decreases-loop-done : goal.decreases-loop-done
decreases-loop-done g l = length l.statements - l.done
