use Rattle.std.proofs.Common.{◌≡◌, ◌+◌, ◌-◌, arith}
use Rattle.monomials.proofs.AddedRows.{adds_rising, adds_all}
use Rattle.monomials.proofs.order.push_rising.Goals as goal

pub loop-k-preserved : goal.loop-k-preserved
loop-k-preserved c =
    λ n inside.
    adds_rising n _ _ _ _ (c.args.at + c.loop-k.k) (c.args.at + (c.loop-k.k + 1)) (c.args.at + c.loop-k.k) (c.args.count - c.loop-k.k)
    (c.args.count - (c.loop-k.k + 1)) (c.loop-k.invariant n inside) (omega arith) (omega arith) (omega arith) (omega arith)
    c.in_ok-push.ensures.items

pub returns : goal.returns
returns c =
    λ n inside.
    let done : c.args.count - c.loop-k.k ≡ 0 = omega arith in
    adds_all n _ _ _ (rw done at (c.loop-k.invariant n inside))
