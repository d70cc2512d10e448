use Rattle.std.proofs.Common.{reverse, refl, arith}
use Rattle.pair_strategy.specs.Inside.Fronts.{items_of}
use Rattle.pair_strategy.proofs.front.enter_below.Goals as goal

pub returns-then-place-len-clause-opened : goal.returns-then-place-len-clause-opened
returns-then-place-len-clause-opened c =
    let front = reverse (items_of c.args.front.now.items) in (
      front,
      (λ low. absurd (omega (arith, low, c.if-place-len.true, c.len.ensures, c.args.items.now.ok.0)), λ long. refl),
      (λ low. absurd (omega (arith, low, c.if-place-len.true, c.len.ensures, c.args.items.now.ok.0)), λ long. refl),
    )
