use Rattle.std.proofs.Common.{◌≡◌, ◌+◌, ◌*◌, length, get_or, not, refl, ap, ◌∙◌, arith}
use Rattle.pair_strategy.proofs.Heaps.{only-below, least-of-two, left-or-right, right-or-left, at_most-less}
use Rattle.pair_strategy.proofs.heap.least_below.Goals as goal

pub returns-then-right-len-clause-least : goal.returns-then-right-len-clause-least
returns-then-right-len-clause-least c =
    let v = c.args.items.now.items in
    let last : length v ≡ c.args.place * 2 + 1 + 1 = omega (arith, c.if-right-len.true, c.len.ensures, c.args.items.now.ok.0) in
    only-below c.args.order.now v c.args.place (c.args.place * 2 + 1) (length v) refl last

pub returns-then-at_most-clause-least : goal.returns-then-at_most-clause-least
returns-then-at_most-clause-least c =
    let v = c.args.items.now.items in
    least-of-two c.args.order.now v c.args.place (c.args.place * 2 + 1) (c.args.place * 2 + 1 + 1) (length v)
    (left-or-right c.args.order.now c.args.place (c.args.place * 2 + 1) (c.args.place * 2 + 1 + 1) refl refl)
    (λ d. c.at_most.ensures d ∙ ap not c.if-at_most.true)

pub returns-else-at_most-clause-least : goal.returns-else-at_most-clause-least
returns-else-at_most-clause-least c =
    let v = c.args.items.now.items in
    least-of-two c.args.order.now v c.args.place (c.args.place * 2 + 1 + 1) (c.args.place * 2 + 1) (length v)
    (right-or-left c.args.order.now c.args.place (c.args.place * 2 + 1) (c.args.place * 2 + 1 + 1) refl refl)
    (λ d. at_most-less c.args.order.now (get_or v (c.args.place * 2 + 1) d) (get_or v (c.args.place * 2 + 1 + 1) d) (c.at_most.ensures d ∙ ap not c.if-at_most.false))
