use Rattle.std.proofs.Common.{◌≡◌, [], sym, ◌∙◌, subst}
use Rattle.std.proofs.lemmas.Result.{err_from_is_err_and}
use Rattle.monomials.specs.Polynomials.{Each}
use Rattle.word_model.specs.Words.{Algebra}
use Rattle.algebra.proofs.MetFaults.{met_fault}
use Rattle.two_sided.specs.Checks.{IsTerm, Holds, Fails, first_answer, lines_values, lines_answers, list_answers, chain_check}
use Rattle.two_sided.proofs.ChainTests.{at_some, at_none, same_answer, chain_fails, chain_high, chain_handed}
use Rattle.two_sided.proofs.checking.both_hold.Goals as goal

pub returns-in_err-basis-clause-over : goal.returns-in_err-basis-clause-over
returns-in_err-basis-clause-over g c =
    let p = err_from_is_err_and c.from_residual.result c.from_residual.ensures.1 in
    λ e. chain_high c.args.seat.now.algebra c.args.gens.now (record { lines = c.args.lines.now; finished = c.args.list.now })
    (c.in_err-basis.ensures.over (met_fault _ p.0 _ _ p.1 p.2 e))

pub list_holds-requires-clause-terms : goal.list_holds-requires-clause-terms
list_holds-requires-clause-terms g c =
    subst (λ (B : Algebra). Each (Each (IsTerm B)) c.args.list.now.tails) (sym c.elements_of.ensures.algebra) c.requires.terms

pub returns-in-Some-clause-value : goal.returns-in-Some-clause-value
returns-in-Some-clause-value g c =
    let A = c.args.seat.now.algebra in
    let gens = c.args.gens.now in
    let lines = c.args.lines.now in
    let made = at_some c.in_ok-basis.field-0 c.in-Some.basis (first_answer (lines_answers A gens [] lines) ≡ Fails)
    (λ basis. (first_answer (lines_answers A gens [] lines) ≡ Holds) × (basis.items ≡ lines_values A gens [] lines)) c.in-Some.is c.in_ok-basis.ensures.value in
    same_answer c.list_holds.result (chain_check A gens (record { lines = lines; finished = c.args.list.now }))
    (first_answer (list_answers c.elements_of.new.seat.algebra c.deref.result.now c.args.list.now))
    (chain_handed A gens (record { lines = lines; finished = c.args.list.now }) c.elements_of.new.seat.algebra c.deref.result.now
    c.elements_of.ensures.algebra made.0 (c.deref.ensures.value ∙ made.1))
    c.list_holds.ensures.value

pub returns-in-Some-clause-over : goal.returns-in-Some-clause-over
returns-in-Some-clause-over g c =
    let A = c.args.seat.now.algebra in
    let gens = c.args.gens.now in
    let lines = c.args.lines.now in
    let made = at_some c.in_ok-basis.field-0 c.in-Some.basis (first_answer (lines_answers A gens [] lines) ≡ Fails)
    (λ basis. (first_answer (lines_answers A gens [] lines) ≡ Holds) × (basis.items ≡ lines_values A gens [] lines)) c.in-Some.is c.in_ok-basis.ensures.value in
    λ e. chain_handed A gens (record { lines = lines; finished = c.args.list.now }) c.elements_of.new.seat.algebra c.deref.result.now
    c.elements_of.ensures.algebra made.0 (c.deref.ensures.value ∙ made.1)
    ∙ c.list_holds.ensures.over e

pub returns-in-None-clause-value : goal.returns-in-None-clause-value
returns-in-None-clause-value g c =
    let A = c.args.seat.now.algebra in
    let gens = c.args.gens.now in
    let lines = c.args.lines.now in
    chain_fails A gens (record { lines = lines; finished = c.args.list.now })
    (at_none c.in_ok-basis.field-0 (first_answer (lines_answers A gens [] lines) ≡ Fails)
    (λ basis. (first_answer (lines_answers A gens [] lines) ≡ Holds) × (basis.items ≡ lines_values A gens [] lines)) c.in-None.is c.in_ok-basis.ensures.value)
