use Rattle.std.proofs.Common.{map, string_bytes}
use Rattle.std.specs.Prelude.{codes}
use Rattle.plural_text.proofs.Joined.{head_written}
use Rattle.plural_text.proofs.rings.write_variables.Goals as goal

pub loop-index-init : goal.loop-index-init
loop-index-init c =
    head_written c.args.text.now.items c.extend_from_slice.new.self.items (codes "// variables ") (codes "\n")
    (map string_bytes c.args.names.now) c.in_ok-extend_from_slice.ensures.items
