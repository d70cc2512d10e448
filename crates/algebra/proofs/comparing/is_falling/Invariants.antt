use Rattle.std.proofs.Common.{◌↔◌, ◌-◌, drop}
use Rattle.algebra.proofs.Fitting.{AreFalling}
use Rattle.algebra.proofs.comparing.is_falling.Given as goal

abbrev pub invariant-loop-i : goal.invariant-loop-i
invariant-loop-i l = AreFalling l.order.rows l.terms ↔ AreFalling l.order.rows (drop (l.i - 1) l.terms)
