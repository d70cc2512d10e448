use Rattle.std.proofs.Common.{◌≡◌, ap, ◌∙◌, arith}
use Rattle.monomials.specs.Monomials.{degree}
use Rattle.monomials.specs.Leading.{leading_monomial}
use Rattle.word_model.specs.Reduction.{element}
use Rattle.word_model.proofs.Sugars.{degree-lcm, sugar_at-most}
use Rattle.pair_strategy.proofs.keys.pair_sugar.Goals as goal

pub overflow_add-result : goal.overflow_add-result
overflow_add-result g c =
    omega (
      arith,
      c.degree.ensures.small,
      c.max.ensures,
      c.excess-first.ensures.sum,
      c.excess-second.ensures.sum,
      sugar_at-most 33554432 c.args.sugars.now c.args.i c.requires.small,
      sugar_at-most 33554432 c.args.sugars.now c.args.j c.requires.small,
    )

pub returns-clause-most : goal.returns-clause-most
returns-clause-most g c = λ b few.
    let G = g.B.Elements.elements c.args.basis.now in
    let first : degree c.lead.result.now.mono ≡ degree (leading_monomial (element G c.args.i)) = ap degree (c.lead.ensures.mono ∙ ap leading_monomial c.at.ensures) in
    let second : degree c.lead-2.result.now.mono ≡ degree (leading_monomial (element G c.args.j)) = ap degree (c.lead-2.ensures.mono ∙ ap leading_monomial c.at-2.ensures) in
    omega (
      arith,
      c.degree.ensures.value,
      ap degree c.lcm-lcm.ensures,
      degree-lcm c.lead.result.now.mono c.lead-2.result.now.mono,
      first,
      second,
      c.max.ensures,
      c.excess-first.ensures.sum,
      c.excess-first.ensures.lead,
      c.excess-second.ensures.sum,
      c.excess-second.ensures.lead,
      sugar_at-most b c.args.sugars.now c.args.i few,
      sugar_at-most b c.args.sugars.now c.args.j few,
    )
