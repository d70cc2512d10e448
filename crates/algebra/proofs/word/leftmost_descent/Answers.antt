use Rattle.std.proofs.Common.{◌≡◌, ◌-◌, suc, arith}
use Rattle.algebra.proofs.Places.{first_descent, no_descent}
use Rattle.algebra.proofs.word.leftmost_descent.Goals as goal

pub returns-then-word-k : goal.returns-then-word-k
returns-then-word-k c =
    let last : suc (c.loop-k.k - 1) ≡ c.loop-k.k = omega arith in
    (omega arith, first_descent c.args.word.now (c.loop-k.k - 1) (omega arith) (λ q h. c.loop-k.invariant q (omega arith)) (rw last c.if-word-k.true))

pub returns : goal.returns
returns c = no_descent c.args.word.now (λ q h. c.loop-k.invariant q (omega arith))
