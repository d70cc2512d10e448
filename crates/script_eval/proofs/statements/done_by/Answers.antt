use Rattle.std.proofs.Common.{◌≡◌, ◌∙◌, ap, sym, subst, []}
use Rattle.plural_syntax.specs.Words.{text_of}
use Rattle.plural_syntax.specs.declared.tree.Statement.TheVariants as statement
use Rattle.script_model.specs.declared.values.Value.TheVariants.{Poly, Module}
use Rattle.script_model.specs.Environment.{find}
use Rattle.script_model.specs.Statements.{done_by, set_ring, declared, by_value, as_poly, as_module, ideal_values}
use Rattle.script_eval.specs.Leads.{Leads}
use Rattle.script_eval.specs.Sessions.{Session}
use Rattle.script_eval.proofs.statements.done_by.Goals as goal

pub returns-in-SetRing-clause-leads : goal.returns-in-SetRing-clause-leads
unfolding done_by
returns-in-SetRing-clause-leads g c =
    let S = c.args.session.now in
    let E = c.args.environment.now in
    let r = c.set_ring.result in
    let new = c.set_ring.new.environment in
    let e : c.args.statement.now ≡ statement.SetRing c.in-SetRing.keyword c.in-SetRing.name c.in-SetRing.semicolon = c.in-SetRing.is in
    let name = c.text.ensures ∙ ap (λ (Q : Session). text_of Q.bytes c.in-SetRing.name) c.session.view_is in
    subst (λ s. Leads r new (done_by S.bytes S.budget E s)) (sym e)
    (subst (λ t. Leads r new (set_ring E t (find t E.ring_names))) name c.set_ring.ensures)

pub returns-in-Poly-clause-leads : goal.returns-in-Poly-clause-leads
unfolding done_by
returns-in-Poly-clause-leads g c =
    let S = c.args.session.now in
    let E = c.args.environment.now in
    let r = c.poly.result in
    let new = c.poly.new.environment in
    let v = c.in-Poly.value in
    let e : c.args.statement.now ≡ statement.Poly c.in-Poly.keyword c.in-Poly.name v c.in-Poly.semicolon = c.in-Poly.is in
    let name = c.text-in-Poly.ensures ∙ ap (λ (Q : Session). text_of Q.bytes c.in-Poly.name) c.session.view_is in
    subst (λ s. Leads r new (done_by S.bytes S.budget E s)) (sym e)
    (subst (λ t. Leads r new (declared S.bytes S.budget E t (λ R. by_value S.bytes S.budget E (Poly []) as_poly R v))) name c.poly.ensures.leads)

pub returns-in-Ideal-clause-leads : goal.returns-in-Ideal-clause-leads
unfolding done_by
returns-in-Ideal-clause-leads g c =
    let S = c.args.session.now in
    let E = c.args.environment.now in
    let r = c.ideal.result in
    let new = c.ideal.new.environment in
    let v = c.in-Ideal.values in
    let e : c.args.statement.now ≡ statement.Ideal c.in-Ideal.keyword c.in-Ideal.name v c.in-Ideal.semicolon = c.in-Ideal.is in
    let name = c.text-in-Ideal.ensures ∙ ap (λ (Q : Session). text_of Q.bytes c.in-Ideal.name) c.session.view_is in
    subst (λ s. Leads r new (done_by S.bytes S.budget E s)) (sym e)
    (subst (λ t. Leads r new (declared S.bytes S.budget E t (λ R. ideal_values S.bytes S.budget E R v))) name c.ideal.ensures.leads)

pub returns-in-Module-clause-leads : goal.returns-in-Module-clause-leads
unfolding done_by
returns-in-Module-clause-leads g c =
    let S = c.args.session.now in
    let E = c.args.environment.now in
    let r = c.module.result in
    let new = c.module.new.environment in
    let v = c.in-Module.value in
    let e : c.args.statement.now ≡ statement.Module c.in-Module.keyword c.in-Module.name v c.in-Module.semicolon = c.in-Module.is in
    let name = c.text-in-Module.ensures ∙ ap (λ (Q : Session). text_of Q.bytes c.in-Module.name) c.session.view_is in
    subst (λ s. Leads r new (done_by S.bytes S.budget E s)) (sym e)
    (subst (λ t. Leads r new (declared S.bytes S.budget E t (λ R. by_value S.bytes S.budget E (Module []) as_module R v))) name c.module.ensures.leads)
