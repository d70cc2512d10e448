use Rattle.std.proofs.Common.{◌∙◌, List, sym, subst}
use Rattle.monomials.specs.Polynomials.{Polynomial, Each, HasVars}
use Rattle.monomials.proofs.Keys.{Each-weaker}
use Rattle.word_model.specs.Words.{Algebra}
use Rattle.word_model.specs.Elimination.{elimination_order}
use Rattle.algebra.specs.Reordered.{reordered}
use Rattle.script_values.specs.Values.{ArePolynomials}
use Rattle.script_functions.proofs.eliminations.without.Goals as goal

-- they have the ring's variables
have_vars : (A : Algebra) (fs : List Polynomial) → ArePolynomials A fs → Each (HasVars A.order.vars) fs
have_vars A fs sorted = Each-weaker _ _ (λ f f_is. f_is.vars) fs sorted

pub restrict-requires : goal.restrict-requires
restrict-requires c =
    let A = c.args.scope.now.ring.algebra in
    let B : Algebra = reordered (elimination_order c.args.vars.now A.order) A in
    (A.order.vars, have_vars B c.args.list.now c.requires.polynomials, c.requires.in_range)

pub returns-clause-value : goal.returns-clause-value
returns-clause-value c =
    let A = c.args.scope.now.ring.algebra in
    let B : Algebra = reordered (elimination_order c.args.vars.now A.order) A in
    c.from_vec.ensures ∙ c.in_ok-kept.ensures.list A.order.vars (have_vars B c.args.list.now c.requires.polynomials)

pub returns-clause-polynomials : goal.returns-clause-polynomials
returns-clause-polynomials c =
    let A = c.args.scope.now.ring.algebra in
    subst (ArePolynomials A) (sym c.from_vec.ensures) (c.in_ok-kept.ensures.sorted A.p A.order c.requires.polynomials)
