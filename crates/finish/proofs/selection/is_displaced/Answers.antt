use Rattle.std.proofs.Common.{sym, ◌∙◌, arith}
use Rattle.finish.proofs.Finishing.{displaced, not_displaced}
use Rattle.finish.proofs.selection.is_displaced.Goals as goal

pub returns-then-displaces : goal.returns-then-displaces
returns-then-displaces c =
    sym (displaced c.args.basis.now c.args.i c.loop-j.j (omega arith) (omega arith) (sym c.displaces.ensures ∙ c.if-displaces.true) c.loop-j.invariant)

pub returns : goal.returns
returns c = sym (not_displaced c.args.basis.now c.args.i (λ x low high. c.loop-j.invariant x low (omega arith)))
