use Rattle.std.proofs.Common.{◌≡◌, ◌∙◌, suc, Some, None, sym, ap, subst}
use Rattle.plural_syntax.specs.Words.{text_of}
use Rattle.word_model.specs.Products.{variable_polynomial}
use Rattle.script_model.specs.Environment.{Scope, find, variable_place, not_here}
use Rattle.script_values.specs.Gives.{Gives, Stops}
use Rattle.script_values.proofs.Naming.{as_variable, as_value, as_ring, as_nothing}
use Rattle.script_values.proofs.Stopping.{stops_before}
use Rattle.script_values.proofs.names.named.Goals as goal

pub returns-in-Some-clause-value : goal.returns-in-Some-clause-value
returns-in-Some-clause-value c =
    let S = c.args.scope.now in
    let T = c.text-name.result.now in
    let seen = c.scope.view_is in
    let v = c.in-Some.place in
    subst (Gives c.indexed.result)
    (as_variable S c.args.name.now c.args.index.now T (c.text-name.ensures ∙ ap (λ (Q : Scope). text_of Q.bytes c.args.name.now) seen) v c.in_ok-variable.field-0
    (subst (λ (Q : Scope). Some v ≡ variable_place Q.ring T) seen c.in-Some.ensures.value)
    (c.in_ok-variable.ensures.value ∙ ap (λ A. variable_polynomial A (suc v)) (c.algebra.ensures ∙ ap (λ (Q : Scope). Q.ring.algebra) seen)))
    c.indexed.ensures.value

pub returns-in-Some-find-clause-value : goal.returns-in-Some-find-clause-value
returns-in-Some-find-clause-value c =
    let S = c.args.scope.now in
    let T = c.text-name.result.now in
    let seen = c.scope.view_is in
    let v = c.in-Some-find.value.now in
    subst (Gives c.indexed-in-Some-find.result)
    (as_value S c.args.name.now c.args.index.now T (c.text-name.ensures ∙ ap (λ (Q : Scope). text_of Q.bytes c.args.name.now) seen) v
    (subst (λ (Q : Scope). None ≡ variable_place Q.ring T) seen c.in_default.ensures.value)
    (subst (λ (Q : Scope). Some v ≡ find T Q.ring.values) seen c.in-Some-find.ensures.value))
    c.indexed-in-Some-find.ensures.value

pub returns-in-Some-ring_number-clause-value : goal.returns-in-Some-ring_number-clause-value
returns-in-Some-ring_number-clause-value c =
    let S = c.args.scope.now in
    let T = c.text-name.result.now in
    let seen = c.scope.view_is in
    let k = c.in-Some-ring_number.number in
    subst (Gives c.indexed-in-Some-ring_number.result)
    (as_ring S c.args.name.now c.args.index.now T (c.text-name.ensures ∙ ap (λ (Q : Scope). text_of Q.bytes c.args.name.now) seen) k
    (subst (λ (Q : Scope). None ≡ variable_place Q.ring T) seen c.in_default.ensures.value)
    (subst (λ (Q : Scope). None ≡ find T Q.ring.values) seen c.in_default-find.ensures.value)
    (subst (λ (Q : Scope). Some k ≡ find T Q.environment.ring_names) seen c.in-Some-ring_number.ensures))
    c.indexed-in-Some-ring_number.ensures.value

pub returns-in-None-clause-value : goal.returns-in-None-clause-value
returns-in-None-clause-value c =
    let S = c.args.scope.now in
    let T = c.text-name.result.now in
    let seen = c.scope.view_is in
    subst (Stops c.not_here.result)
    (sym (as_nothing S c.args.name.now c.args.index.now T (c.text-name.ensures ∙ ap (λ (Q : Scope). text_of Q.bytes c.args.name.now) seen)
    (subst (λ (Q : Scope). None ≡ variable_place Q.ring T) seen c.in_default.ensures.value)
    (subst (λ (Q : Scope). None ≡ find T Q.ring.values) seen c.in_default-find.ensures.value)
    (subst (λ (Q : Scope). None ≡ find T Q.environment.ring_names) seen c.in-None.ensures)))
    (stops_before c.not_here.result (not_here S.environment T) _ c.not_here.ensures)
