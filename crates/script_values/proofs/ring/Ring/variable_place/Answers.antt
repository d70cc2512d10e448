use Rattle.std.proofs.Common.{◌≡◌, ◌∙◌, ap, subst, length, rules, tests}
use Rattle.std.specs.Prelude.{bytes_eq, position, string_bytes}
use Rattle.std.proofs.lemmas.Iterator.{YieldsList-from_slice}
use Rattle.std.proofs.lemmas.Iterator.Search.{position_from_yields_List}
use Rattle.script_model.specs.Environment.{Ring, variable_place}
use Rattle.plural_text.proofs.Steps.{position-map}
use Rattle.script_values.proofs.Places.{place_within}
use Rattle.script_values.proofs.ring.Ring.variable_place.Goals as goal

pub returns-clause-value : goal.returns-clause-value
returns-clause-value c =
    let names = c.self.inside.names.items in
    let text = c.args.name.now in
    let found : c.position.result ≡ position (λ name. bytes_eq (string_bytes name) text) names =
    position_from_yields_List (λ name. bytes_eq (string_bytes name) text) _ _ c.position.result c.position.ensures.ran (YieldsList-from_slice names cc)
    (λ x b q k. search (rules, tests)) in
    found ∙ position-map (λ name. bytes_eq name text) string_bytes names ∙ ap (λ (R : Ring). variable_place R text) c.self.view_is

pub returns-clause-place : goal.returns-clause-place
returns-clause-place c =
    let text = c.args.name.now in
    let R = c.args.self.now in
    place_within (λ name. bytes_eq name text) R.names R.algebra.order.vars c.position.result
    (subst (λ (Q : Ring). length Q.names ≡ Q.algebra.order.vars) c.self.view_is c.self.invariant.names.count) (returns-clause-value c)
