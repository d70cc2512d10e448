use Rattle.std.proofs.Common.{◌∙◌, sym, arith}
use Rattle.plural_syntax.proofs.Strict.{blocked_deep, blocked_unexpected}
use Rattle.plural_syntax.proofs.Loops.{inside_zero, inside_step}
use Rattle.plural_syntax.proofs.parts.data.Goals as goal

pub returns-then-left-gt0-clause-value : goal.returns-then-left-gt0-clause-value
returns-then-left-gt0-clause-value c = rw (inside_step c.args.levels.now (omega arith)) c.inner_data.ensures.value

pub returns-then-next_is-clause-value : goal.returns-then-next_is-clause-value
returns-then-next_is-clause-value c = rw (inside_zero c.args.levels.now (omega arith)) (blocked_deep _ (sym c.next_is.ensures ∙ c.if-next_is.true))

pub returns-else-next_is-clause-value : goal.returns-else-next_is-clause-value
returns-else-next_is-clause-value c = rw (inside_zero c.args.levels.now (omega arith)) (blocked_unexpected _ (sym c.next_is.ensures ∙ c.if-next_is.false))
