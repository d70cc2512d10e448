use Rattle.std.proofs.Common.{◌≡◌, ◌∙◌, rules, tests}
use Rattle.std.specs.Prelude.{bytes_eq, position, string_bytes}
use Rattle.std.proofs.lemmas.Iterator.{YieldsList-from_slice}
use Rattle.std.proofs.lemmas.Iterator.Search.{position_from_yields_List}
use Rattle.plural_text.proofs.Steps.{position-map}
use Rattle.plural_text.proofs.reading.read_name.Goals as goal

pub returns-clause-value : goal.returns-clause-value
returns-clause-value c =
    let names = c.args.names.now in
    let text = c.args.text.now in
    let found : c.position.result ≡ position (λ name. bytes_eq (string_bytes name) text) names =
    position_from_yields_List (λ name. bytes_eq (string_bytes name) text) _ _ c.position.result c.position.ensures.ran (YieldsList-from_slice names cc)
    (λ x b q k. search (rules, tests)) in
    found ∙ position-map (λ name. bytes_eq name text) string_bytes names
