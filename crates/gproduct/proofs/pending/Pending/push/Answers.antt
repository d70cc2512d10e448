use Rattle.std.proofs.Common.{◌≡◌, ◌+◌, ◌∙◌, ◌++◌, length, sym, ap, arith, append_assoc, length-append}
use Rattle.gproduct.specs.Inside.Factors.{products_in, factor_count}
use Rattle.gproduct.specs.declared.pending.Open.{Open}
use Rattle.gproduct.proofs.Stacks.{factor_count-push, products_in-push}
use Rattle.gproduct.proofs.pending.Pending.push.Goals as goal
use Rattle.gproduct.proofs.pending.Pending.push.Goals.{In_ok-push}

-- all factors, with those of the new product behind
factors : (c : In_ok-push) → c.extend_from_slice-2.new.self.items ≡ c.args.self.now.factors.items ++ (c.args.tail.now ++ c.args.front.now)
factors c =
    c.in_ok-extend_from_slice-2.ensures.items
    ∙ ap (λ fs. fs ++ c.args.front.now) c.in_ok-extend_from_slice.ensures.items
    ∙ append_assoc c.args.self.now.factors.items c.args.tail.now c.args.front.now

-- the new product
abbrev new : (c : In_ok-push) → Open
new c = record { coef = c.args.coef; factors = length c.args.tail.now + length c.args.front.now }

pub returns-clause-counted : goal.returns-clause-counted
returns-clause-counted c =
    let fs = c.args.self.now.factors.items in
    omega (
      arith,
      ap factor_count c.in_ok-push.ensures.items,
      factor_count-push c.args.self.now.open.items (new c),
      ap length (factors c),
      length-append fs (c.args.tail.now ++ c.args.front.now),
      length-append c.args.tail.now c.args.front.now,
      c.requires,
    )

pub returns-clause-product : goal.returns-clause-product
returns-clause-product c =
    let fs = c.args.self.now.factors.items in
    (λ i. products_in (c.in_ok-push.ensures.items i) (factors c i))
    ∙ products_in-push c.args.self.now.open.items fs (new c) (c.args.tail.now ++ c.args.front.now)
    c.requires (sym (length-append c.args.tail.now c.args.front.now))
