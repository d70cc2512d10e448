use Rattle.std.proofs.Common.{◌≡◌, ◌++◌, ◌∙◌, ap, map, append_assoc, List, ℕ}
use Rattle.std.specs.Prelude.{codes}
use Rattle.std.specs.List.{join_with_byte}
use Rattle.std.specs.Fmt.{decimal}
use Rattle.plural_text.proofs.Joined.{head_written}
use Rattle.plural_text.proofs.rings.write_named.Goals as goal

pub loop-index-init : goal.loop-index-init
loop-index-init c =
    let old : List ℕ = c.args.text.now.items in
    let name : List ℕ = c.args.name.now in
    let numbers : List (List ℕ) = map decimal c.args.numbers.now in
    let head : c.push.new.self.items ≡ old ++ (name ++ codes "(") =
    c.in_ok-push.ensures.items
    ∙ (ap (λ z. z ++ codes "(") c.in_ok-extend_from_slice.ensures.items ∙ append_assoc old name (codes "(")) in
    head_written old c.push.new.self.items (name ++ codes "(") (codes ")") numbers head
    ∙ ap (λ z. old ++ z) (append_assoc name (codes "(") (join_with_byte 44 numbers ++ codes ")"))
