-- The items of an order, walked one after another.
use Rattle.std.specs.Prelude.{ℕ, List, ◌++◌, map, sum, Option, Some, None, option_and_then, Ok, Err, bytes_eq, codes, if◌then◌else◌}
use Rattle.std.specs.Option.{option_map}
use Rattle.monomials.specs.Blocks.{block_len}
use Rattle.monomials.specs.declared.order.Block.{Block}
use Rattle.monomials.specs.declared.order.Block.TheVariants.{Extra, WeightRev, WeightLex}
use Rattle.plural_syntax.specs.declared.tree.Item.{Item}
use Rattle.script_model.specs.declared.values.Refusal.TheVariants as refused
use Rattle.script_model.specs.Refusals.{Outcome}
use Rattle.script_model.specs.Orders.{blocks_from, checked}

-- how many variables blocks cover
abbrev pub covered_by : List Block → ℕ
covered_by blocks = sum (map block_len blocks)

-- the blocks of an order of n variables whose first blocks are these, and whose other blocks are those of the items
abbrev pub walked : List ℕ → ℕ → List Block → List Item → Option (List Block)
walked bytes n blocks items = option_and_then (checked n) (option_map (λ (more : List Block). blocks ++ more) (blocks_from bytes n (covered_by blocks) items))

-- what is no order is refused
abbrev pub ordered : Option (List Block) → Outcome (List Block)
ordered None = Err refused.BadOrder
ordered (Some blocks) = Ok blocks

-- the block of an item with weights
abbrev pub weighted_block : List ℕ → List ℕ → Option Block
weighted_block name numbers =
    if bytes_eq name (codes "wp") then Some (WeightRev numbers)
    else (if bytes_eq name (codes "Wp") then Some (WeightLex numbers)
    else (if bytes_eq name (codes "a") then Some (Extra numbers)
    else None))
