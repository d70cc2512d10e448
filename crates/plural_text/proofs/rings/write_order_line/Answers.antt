use Rattle.std.proofs.Common.{◌++◌, ◌∙◌, ap, sym, map, append_assoc}
use Rattle.std.specs.Prelude.{codes}
use Rattle.std.specs.List.{join_with_byte}
use Rattle.word_model.specs.RingTexts.{block_text}
use Rattle.plural_text.proofs.Joined.{head_written}
use Rattle.plural_text.proofs.rings.write_order_line.Goals as goal

pub loop-index-init : goal.loop-index-init
loop-index-init c =
    head_written c.args.text.now.items c.extend_from_slice.new.self.items (codes "// order (") (codes ")\n")
    (map block_text c.args.blocks.now) c.in_ok-extend_from_slice.ensures.items
    ∙ ap (λ z. c.args.text.now.items ++ (codes "// order (" ++ z))
    (sym (append_assoc (join_with_byte 44 (map block_text c.args.blocks.now)) (codes ")") (codes "\n")))
