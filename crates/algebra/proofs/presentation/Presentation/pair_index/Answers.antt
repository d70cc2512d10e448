use Rattle.std.proofs.Common.{◌≡◌, ◌-◌, ◌*◌, ◌∙◌, sym, ap, subst, arith, length}
use Rattle.word_model.specs.Conditions.{IsAlgebraData}
use Rattle.algebra.proofs.presentation.Presentation.pair_index.Goals as goal
use Rattle.algebra.proofs.presentation.Presentation.pair_index.Goals.{After-pair_index}

kept : (c : After-pair_index) → IsAlgebraData c.args.self.now
kept c = subst IsAlgebraData c.self.view_is c.self.invariant

-- the order's variables are the algebra's
pairs : (c : After-pair_index) → c.vars.result * (c.vars.result - 1) ≡ 2 * length c.args.self.now.c
pairs c =
    ap (λ n. n * (n - 1)) (c.vars.ensures.vars ∙ ap (λ a. a.order.vars) c.self.view_is)
    ∙ sym (kept c).one_number_each

pub returns-clause-number : goal.returns-clause-number
returns-clause-number c = omega (arith, c.pair_index.ensures.within, pairs c)

pub returns-clause-polynomial : goal.returns-clause-polynomial
returns-clause-polynomial c = omega (arith, returns-clause-number c, (kept c).one_polynomial_each)
