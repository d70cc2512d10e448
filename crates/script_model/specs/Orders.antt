-- The order of a ring statement, as blocks.
use Rattle.std.specs.Prelude.{ℕ, ◌+◌, ◌-◌, ◌==◌, ◌&&◌, ◌||◌, Bool, true, List, [], ◌∷◌, map, length, nat_le, nat_lt, codes, bytes_eq, Option, Some, None, option_and_then, if◌then◌else◌}
use Rattle.std.specs.List.{list_all}
use Rattle.std.specs.Option.{option_map}
use Rattle.plural_lexer.specs.declared.token.Token.{Token}
use Rattle.plural_syntax.specs.Words.{text_of}
use Rattle.plural_syntax.specs.declared.tree.TokenAfter.{TokenAfter}
use Rattle.plural_syntax.specs.declared.tree.TokenList.{TokenList}
use Rattle.plural_syntax.specs.declared.tree.TokenGroup.{TokenGroup}
use Rattle.plural_syntax.specs.declared.tree.Item.{Item}
use Rattle.plural_syntax.specs.declared.tree.ItemAfter.{ItemAfter}
use Rattle.plural_syntax.specs.declared.tree.Order.{Order}
use Rattle.plural_syntax.specs.declared.tree.Order.TheVariants as order
use Rattle.monomials.specs.Blocks.{block_len, is_extra}
use Rattle.monomials.specs.declared.order.Block.{Block}
use Rattle.monomials.specs.declared.order.Block.TheVariants.{Extra, Lex, DegRev, DegLex, WeightRev, WeightLex}
use Rattle.script_model.specs.Tokens.{number}

abbrev pub tokens_of : TokenList → List Token
tokens_of l = l.first ∷ map (λ (a : TokenAfter). a.token) l.more

abbrev pub group_tokens : Option TokenGroup → List Token
group_tokens None = []
group_tokens (Some g) = tokens_of g.list

abbrev pub items_of : Order → List Item
items_of (order.One i) = i ∷ []
items_of (order.Many opening l closing) = l.first ∷ map (λ (a : ItemAfter). a.item) l.more

-- the variables that an item covers: all that are left, or as many as it says
abbrev pub item_len : ℕ → List ℕ → Option ℕ
item_len left [] = Some left
item_len left (k ∷ []) = Some k
item_len left _ = None

-- an item's block, where `left` variables are not covered yet
abbrev pub block_of : ℕ → List ℕ → List ℕ → Option Block
block_of left name numbers =
    if bytes_eq name (codes "lp") then option_map (λ k. Lex k) (item_len left numbers)
    else (if bytes_eq name (codes "dp") then option_map (λ k. DegRev k) (item_len left numbers)
    else (if bytes_eq name (codes "Dp") then option_map (λ k. DegLex k) (item_len left numbers)
    else (if bytes_eq name (codes "wp") then Some (WeightRev numbers)
    else (if bytes_eq name (codes "Wp") then Some (WeightLex numbers)
    else (if bytes_eq name (codes "a") then Some (Extra numbers)
    else None)))))

-- an item without effect, which stands last
abbrev pub is_component : List ℕ → Bool
is_component name = bytes_eq name (codes "c") || bytes_eq name (codes "C")

abbrev pub no_more : {A B : Type 0} → List A → List B → Option (List Block)
no_more [] [] = Some []
no_more _ _ = None

module _ (bytes : List ℕ) (n : ℕ) where
  -- the blocks of items, where `covered` variables are covered before them
  abbrev pub blocks_from : ℕ → List Item → Option (List Block)
  blocks_from covered [] = Some []
  blocks_from covered (item ∷ items) =
      let name : List ℕ = text_of bytes item.name in
      let numbers : List ℕ = map (number bytes) (group_tokens item.numbers) in
      if is_component name then no_more numbers items
      else option_and_then (λ b. option_map (λ (bs : List Block). b ∷ bs) (blocks_from (covered + block_len b) items)) (block_of (n - covered) name numbers)

-- ---- whether blocks are an order

abbrev pub is_part : ℕ → Bool → Block → Bool
is_part n front (Extra weights) = front && (nat_lt 0 (length weights) && nat_le (length weights) n)
is_part n front (Lex len) = nat_lt 0 len
is_part n front (DegRev len) = nat_lt 0 len
is_part n front (DegLex len) = nat_lt 0 len
is_part n front (WeightRev weights) = nat_lt 0 (length weights)
is_part n front (WeightLex weights) = nat_lt 0 (length weights)

-- the blocks cover the variables that are left
abbrev pub cover : ℕ → Bool → ℕ → List Block → Bool
cover n front left [] = left == 0
cover n front left (b ∷ blocks) = is_part n front b && (nat_le (block_len b) left && cover n (front && is_extra b) (left - block_len b) blocks)

abbrev pub is_weight : ℕ → Bool
is_weight w = nat_lt 0 w && nat_le w 65535

abbrev pub has_weights : Block → Bool
has_weights (Extra weights) = list_all (λ w. nat_le w 65535) weights
has_weights (WeightRev weights) = list_all is_weight weights
has_weights (WeightLex weights) = list_all is_weight weights
has_weights _ = true

abbrev pub is_order : ℕ → List Block → Bool
is_order n blocks = cover n true n blocks && list_all has_weights blocks

abbrev pub checked : ℕ → List Block → Option (List Block)
checked n blocks = if is_order n blocks then Some blocks else None

-- the blocks of an order of n variables
unfoldable pub blocks_of : List ℕ → ℕ → Order → Option (List Block)
blocks_of bytes n o = option_and_then (checked n) (blocks_from bytes n 0 (items_of o))
