use Rattle.std.proofs.Common.{◌≡◌, ◌++◌, map, length}
use Rattle.script_model.specs.Tokens.{number as number_in}
use Rattle.script_rings.proofs.blocks.push_numbers.Given as goal

abbrev pub invariant-loop-after : goal.invariant-loop-after
invariant-loop-after l =
    l.numbers.items ++ map (number_in l.bytes) (map (λ a. a.token) l.more) ≡ l.fn.numbers.items ++ map (number_in l.bytes) (map (λ a. a.token) l.fn.more)

abbrev pub decreases-loop-after : goal.decreases-loop-after
decreases-loop-after l = length l.more
