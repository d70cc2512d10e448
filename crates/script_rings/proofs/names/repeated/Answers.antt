use Rattle.std.proofs.Common.{sym, ap, ◌∙◌, map, string_bytes, bytes_eq}
use Rattle.std.specs.List.{list_any}
use Rattle.script_model.specs.Statements as spec
use Rattle.script_rings.proofs.Repeats.{repeated-here, repeated-behind}
use Rattle.script_rings.proofs.names.repeated.Goals as goal

pub returns-then-contains : goal.returns-then-contains
returns-then-contains c =
    sym c.loop-name.invariant ∙ ap (λ ns. spec.repeated (map string_bytes ns)) c.in-Some.ensures.cases.0
    ∙ repeated-here string_bytes c.in-Some.name.now c.in-Some.rest.now
    (ap (λ n. list_any (λ other. bytes_eq n (string_bytes other)) c.in-Some.rest.now) (sym c.as_bytes.ensures.value) ∙ sym c.if-contains.ensures)

pub loop-name-preserved : goal.loop-name-preserved
loop-name-preserved c =
    sym
    (repeated-behind string_bytes c.in-Some.name.now c.in-Some.rest.now
    (ap (λ n. list_any (λ other. bytes_eq n (string_bytes other)) c.in-Some.rest.now) (sym c.as_bytes.ensures.value) ∙ sym c.if-contains.ensures))
    ∙ sym (ap (λ ns. spec.repeated (map string_bytes ns)) c.in-Some.ensures.cases.0) ∙ c.loop-name.invariant
