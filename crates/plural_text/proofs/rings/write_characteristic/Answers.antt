use Rattle.std.proofs.Common.{◌∙◌, ◌++◌, ap}
use Rattle.std.specs.Fmt.{decimal}
use Rattle.plural_text.proofs.Joined.{three_written}
use Rattle.plural_text.proofs.rings.write_characteristic.Goals as goal

pub returns : goal.returns
returns c =
    three_written c.args.text.now.items _ (decimal c.args.field) _ c.extend_from_slice.new.self.items c.write_number.new.text.items c.push.new.self.items
    c.in_ok-extend_from_slice.ensures.items
    (c.in_ok-write_number.ensures ∙ ap (λ p. c.extend_from_slice.new.self.items ++ decimal p) c.p.ensures.value)
    c.in_ok-push.ensures.items
