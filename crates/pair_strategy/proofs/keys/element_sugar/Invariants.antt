use Rattle.std.proofs.Common.{◌≡◌, drop}
use Rattle.word_model.specs.Jobs.{element_sugar}
use Rattle.pair_strategy.proofs.keys.element_sugar.Given as goal

abbrev pub invariant-loop-step : goal.invariant-loop-step
invariant-loop-step l = element_sugar l.sugars l.sugar (drop l.step-index l.trace) ≡ element_sugar l.sugars l.job_sugar l.trace
