use Rattle.std.proofs.Common.{arith, subst}
use Rattle.word_model.specs.Words.{Algebra}
use Rattle.script_values.specs.Gives.{Stops}
use Rattle.std.proofs.lemmas.Result.{err_from_is_err_and}
use Rattle.script_model.specs.Operations.{times, power_of}
use Rattle.script_values.proofs.Powers.{power_stops}
use Rattle.script_values.proofs.Stopping.{stops_through}
use Rattle.script_values.proofs.operations.power_of.Goals as goal

pub returns-in_err-power-2-clause-value : goal.returns-in_err-power-2-clause-value
returns-in_err-power-2-clause-value c =
    let A = c.args.seat.now.algebra in
    let f = c.args.f.now in
    let g = c.loop-turn.power in
    let p = err_from_is_err_and c.from_residual-in_err-power-2.result c.from_residual-in_err-power-2.ensures.1 in
    rw (p.1, p.2)
    (stops_through c.in_err-power-2.field-0.0 (times A g f) (power_of A f c.args.exponent)
    (λ r s. power_stops A f g r c.loop-turn._turn c.args.exponent c.loop-turn.invariant.value s (omega (arith, c.loop-turn-test.true)))
    (subst (λ (B : Algebra). Stops c.in_err-power-2.field-0.0 (times B g f)) c.loop-turn.invariant.seat c.in_err-power-2.ensures.value))
