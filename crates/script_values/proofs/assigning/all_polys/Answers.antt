use Rattle.std.proofs.Common.{◌≡◌, ◌∙◌, ap, sym, subst, reverse, [], ◌∷◌}
use Rattle.std.specs.Prelude.{IfOk}
use Rattle.std.proofs.lemmas.Result.{err_from_is_err_and}
use Rattle.std.proofs.lemmas.List.{reverse-append}
use Rattle.script_model.specs.Statements.{all_polys}
use Rattle.script_values.specs.Values.{ArePolynomials}
use Rattle.script_values.proofs.Assigned.{appended, polys_go, polys_fail, polys_end, all_polys-of_ring}
use Rattle.script_values.proofs.assigning.all_polys.Goals as goal

pub returns-in_err-poly_of-clause-value : goal.returns-in_err-poly_of-clause-value
returns-in_err-poly_of-clause-value c =
    let p = err_from_is_err_and c.from_residual.result c.from_residual.ensures.1 in
    rw (p.1, p.2)
    (polys_fail (all_polys c.args.values) c.loop-value.left c.pop.new.self (reverse c.loop-value.polys) c.in-Some.value c.in-Some.ensures c.loop-value.invariant
    c.in_err-poly_of.field-0.0 c.in_err-poly_of.ensures.value)

pub loop-value-preserved : goal.loop-value-preserved
loop-value-preserved c =
    let turned : reverse c.push.new.self ≡ c.in_ok-poly_of.field-0 ∷ reverse c.loop-value.polys =
    ap reverse c.in_ok-push.ensures.ok ∙ reverse-append c.loop-value.polys (c.in_ok-poly_of.field-0 ∷ []) in
    polys_go (all_polys c.args.values) c.loop-value.left c.pop.new.self (reverse c.loop-value.polys) c.in-Some.value c.in-Some.ensures c.loop-value.invariant
    c.in_ok-poly_of.field-0 c.in_ok-poly_of.ensures.value
    ∙ ap (λ fs. appended fs (all_polys c.pop.new.self)) (sym turned)

pub returns-clause-of_ring : goal.returns-clause-of_ring
returns-clause-of_ring c = λ A h.
    subst (λ o. IfOk o (ArePolynomials A))
    (polys_end (all_polys c.args.values) c.loop-value.left (reverse c.loop-value.polys) c.in_ok-turned.field-0 c.loop-value.invariant c.in_default.ensures.0 c.in_ok-turned.ensures)
    (all_polys-of_ring A c.args.values h)
