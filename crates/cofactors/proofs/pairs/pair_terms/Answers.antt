use Rattle.std.proofs.Common.{◌≡◌, length, sym, ap, ◌∙◌, arith}
use Rattle.monomials.specs.Monomials.{lcm, minus, divides}
use Rattle.monomials.specs.Leading.{leading_monomial}
use Rattle.word_model.specs.Words.{Algebra}
use Rattle.word_model.specs.Jobs.{first_cofactor, second_cofactor}
use Rattle.word_model.proofs.PairCofactors.{Reaches, reaches}
use Rattle.cofactors.proofs.pairs.pair_terms.Goals as goal
use Rattle.cofactors.proofs.pairs.pair_terms.Given as given
use Rattle.cofactors.proofs.pairs.pair_terms.Goals.{After-lcm-reached, After-minus-a, After-minus-b}

reach : (g : given.Over) (c : After-lcm-reached g) → Reaches c.args.seat.now.algebra.order.vars c.args.f.now c.args.g.now
reach g c = reaches c.args.seat.now.algebra.order.vars c.args.f.now c.args.g.now c.requires.f_element.0.vars c.requires.g_element.0.vars c.requires.f_element.1 c.requires.g_element.1

-- the least common multiple
lcm_is : (g : given.Over) (c : After-lcm-reached g) → c.lcm-reached.result ≡ lcm (leading_monomial c.args.f.now) (leading_monomial c.args.g.now)
lcm_is g c = c.lcm-reached.ensures ∙ (λ j. lcm (c.lead-f_lead.ensures.mono j) (c.lead-g_lead.ensures.mono j))

-- the two monomials
first_is : (g : given.Over) (c : After-minus-a g) → c.minus-a.result ≡ first_cofactor c.args.f.now c.args.g.now
first_is g c =
    c.minus-a.ensures
    ∙ (λ j. minus ((c.lcm-reached.ensures ∙ (λ j. lcm (c.lead-f_lead.ensures.mono j) (c.lead-g_lead.ensures.mono j))) j) (c.lead-f_lead.ensures.mono j))

second_is : (g : given.Over) (c : After-minus-b g) → c.minus-b.result ≡ second_cofactor c.args.f.now c.args.g.now
second_is g c =
    c.minus-b.ensures
    ∙ (λ j. minus ((c.lcm-reached.ensures ∙ (λ j. lcm (c.lead-f_lead.ensures.mono j) (c.lead-g_lead.ensures.mono j))) j) (c.lead-g_lead.ensures.mono j))

pub minus-a-requires-clause-same_length : goal.minus-a-requires-clause-same_length
minus-a-requires-clause-same_length g c =
    let at = (goal.at.minus-a-requires-clause-same_length g c).After-lcm-reached in
    ap length (lcm_is g at) ∙ (reach g at).lcm_vars ∙ sym (ap length c.lead-f_lead.ensures.mono ∙ (reach g at).f_vars)

pub minus-a-requires-clause-divisible : goal.minus-a-requires-clause-divisible
minus-a-requires-clause-divisible g c =
    let at = (goal.at.minus-a-requires-clause-divisible g c).After-lcm-reached in
    (λ j. divides (c.lead-f_lead.ensures.mono j) (lcm_is g at j)) ∙ (reach g at).f_divides

pub minus-b-requires-clause-same_length : goal.minus-b-requires-clause-same_length
minus-b-requires-clause-same_length g c =
    let at = (goal.at.minus-b-requires-clause-same_length g c).After-lcm-reached in
    ap length (lcm_is g at) ∙ (reach g at).lcm_vars ∙ sym (ap length c.lead-g_lead.ensures.mono ∙ (reach g at).g_vars)

pub minus-b-requires-clause-divisible : goal.minus-b-requires-clause-divisible
minus-b-requires-clause-divisible g c =
    let at = (goal.at.minus-b-requires-clause-divisible g c).After-lcm-reached in
    (λ j. divides (c.lead-g_lead.ensures.mono j) (lcm_is g at j)) ∙ (reach g at).g_divides

pub leading_number-requires-clause-vars : goal.leading_number-requires-clause-vars
leading_number-requires-clause-vars g c =
    let at = goal.at.leading_number-requires-clause-vars g c in
    ap length (first_is g at.After-minus-a) ∙ (reach g at.After-lcm-reached).first_vars

pub leading_number-requires-2-clause-vars : goal.leading_number-requires-2-clause-vars
leading_number-requires-2-clause-vars g c =
    let at = goal.at.leading_number-requires-2-clause-vars g c in
    ap length (second_is g at.After-minus-b) ∙ (reach g at.After-lcm-reached).second_vars
    ∙ sym (ap (λ (A : Algebra). A.order.vars) c.leading_number.ensures.algebra)

pub returns-clause-first_factor : goal.returns-clause-first_factor
returns-clause-first_factor g c =
    let at = goal.at.returns-clause-first_factor g c in
    record {
      some = omega arith;
      small = omega (arith, c.in_ok-x.ensures.some, c.in_ok-x.ensures.small);
      vars = ap length (first_is g at.After-minus-a) ∙ (reach g at.After-lcm-reached).first_vars;
    }

pub returns-clause-second_factor : goal.returns-clause-second_factor
returns-clause-second_factor g c =
    let at = goal.at.returns-clause-second_factor g c in
    let prime : c.field.result ≡ c.args.seat.now.algebra.p =
    c.field.ensures ∙ ap (λ (A : Algebra). A.p) (c.algebra.ensures ∙ c.leading_number-2.ensures.algebra ∙ c.leading_number.ensures.algebra) in
    record {
      some = c.div-k.ensures.not_zero c.in_ok-x.ensures.some;
      small = omega (arith, c.div-k.ensures.in_range, prime);
      vars = ap length (second_is g at.After-minus-b) ∙ (reach g at.After-lcm-reached).second_vars;
    }
