use Rattle.std.proofs.Common.{◌++◌, ◌∙◌, ap, map, string_bytes, List, ℕ}
use Rattle.std.specs.Prelude.{codes}
use Rattle.std.specs.Fmt.{decimal}
use Rattle.std.specs.List.{join_with_byte}
use Rattle.word_model.specs.RingTexts.{order_text, relation_lines}
use Rattle.plural_text.proofs.Joined.{four_written}
use Rattle.plural_text.proofs.rings.ring_text.Goals as goal

pub returns : goal.returns
returns c =
    let names : List (List ℕ) = map string_bytes c.args.names.now in
    four_written (codes "// characteristic " ++ (decimal c.args.alg.now.p ++ codes "\n"))
    (codes "// variables " ++ (join_with_byte 44 names ++ codes "\n"))
    (codes "// order " ++ (order_text c.args.blocks.now ++ codes "\n"))
    (relation_lines c.args.alg.now names 1 c.args.alg.now.order.vars)
    c.new-text.result.items c.write_characteristic.new.text.items c.write_variables.new.text.items
    c.write_order_line.new.text.items c.write_relations.new.text.items
    c.new-text.ensures.items
    (c.in_ok-write_characteristic.ensures
    ∙ ap (λ p. c.new-text.result.items ++ (codes "// characteristic " ++ (decimal p ++ codes "\n"))) c.field.ensures)
    c.in_ok-write_variables.ensures c.in_ok-write_order_line.ensures c.in_ok-write_relations.ensures
