use Rattle.std.proofs.Common.{◌≡◌, ◌++◌, drop, string_bytes}
use Rattle.worked_algebras.specs.Texts.{trace_text}
use Rattle.worked_algebras.proofs.written.push_trace.Given as goal

abbrev pub invariant-loop-step : goal.invariant-loop-step
invariant-loop-step l = string_bytes l.text ++ trace_text (drop l.step-index l.steps) ≡ string_bytes l.fn.text ++ trace_text l.steps
