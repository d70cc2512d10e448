-- The blocks of items, one after another.
use Rattle.std.proofs.Common.{◌≡◌, ◌∙◌, ℕ, ◌+◌, ◌-◌, ◌<◌, true, false, List, [], ◌∷◌, ◌++◌, map, sum, Option, Some, None, Err, refl, sym, ap, arith, append_assoc, append-nil, ◌⊎◌, inl, inr}
use Rattle.std.specs.Prelude.{option_and_then}
use Rattle.std.specs.Option.{option_map}
use Rattle.std.proofs.lemmas.Bool.{cases_Bool}
use Rattle.std.proofs.lemmas.List.{map-append}
use Rattle.std.proofs.lemmas.List.Sums.{sum_by-append, sum_by-cons}
use Rattle.monomials.specs.Blocks.{AreWeighted, Covers, block_len}
use Rattle.monomials.specs.declared.order.Block.{Block}
use Rattle.plural_syntax.specs.Words.{text_of}
use Rattle.plural_syntax.specs.declared.tree.Item.{Item}
use Rattle.plural_syntax.specs.declared.tree.Order.{Order}
use Rattle.script_model.specs.declared.values.Refusal.TheVariants as refused
use Rattle.script_model.specs.Orders.{is_order, checked, blocks_from, blocks_of, block_of, group_tokens, is_component, items_of}
use Rattle.script_model.specs.Tokens.{number}
use Rattle.script_model.proofs.OrderTests.{is_order-iff}
use Rattle.script_rings.specs.Walks.{covered_by, walked, ordered}

-- ---- blocks that are an order, and others

pub checked-some : (n : ℕ) (blocks : List Block) → Covers n blocks → AreWeighted blocks → checked n blocks ≡ Some blocks
checked-some n blocks h w = let test : is_order n blocks ≡ true = (is_order-iff n blocks).1 (h, w) in rw test refl

pub checked-none : (n : ℕ) (blocks : List Block) → (Covers n blocks → AreWeighted blocks → ⊥) → checked n blocks ≡ None
checked-none n blocks h = by (cases_Bool (is_order n blocks))
  where
    by : (is_order n blocks ≡ true) ⊎ (is_order n blocks ≡ false) → checked n blocks ≡ None
    by (inl test) = let p = (is_order-iff n blocks).0 test in absurd (h p.0 p.1)
    by (inr fails) = rw fails refl

pub refused-none : (o : Option (List Block)) → o ≡ None → ordered o ≡ Err refused.BadOrder
refused-none o h = ap ordered h

-- ---- what blocks cover

pub covered-append : (bs cs : List Block) → covered_by (bs ++ cs) ≡ covered_by bs + covered_by cs
covered-append bs cs = ap sum (map-append block_len bs cs) ∙ sum_by-append (λ x. x) (map block_len bs) (map block_len cs)

covered-cons : (b : Block) (bs : List Block) → covered_by (b ∷ bs) ≡ block_len b + covered_by bs
covered-cons b bs = sum_by-cons (λ x. x) (block_len b) (map block_len bs)

pub covered-one : (bs : List Block) (b : Block) → covered_by (bs ++ b ∷ []) ≡ covered_by bs + block_len b
covered-one bs b = omega (arith, covered-append bs (b ∷ []), covered-cons b [])

-- blocks that cover more than there is are no order, whatever follows them
too_long : (n : ℕ) (bs cs : List Block) (b : Block) → n < covered_by bs + block_len b → checked n (bs ++ b ∷ cs) ≡ None
too_long n bs cs b h = checked-none n (bs ++ b ∷ cs) (λ covers w. omega (arith, h, covers.all, covered-append bs (b ∷ cs), covered-cons b cs))

-- ---- an item

module _ (bytes : List ℕ) (n : ℕ) (bs : List Block) (item : Item) (rest : List Item) (name : List ℕ) (named : name ≡ text_of bytes item.name) (other : is_component name ≡ false)
    (left : ℕ) (some : covered_by bs + left ≡ n) (b : Block) (found : Some b ≡ block_of left name (map (number bytes) (group_tokens item.numbers))) where
  following : Option (List Block)
  following = blocks_from bytes n (covered_by bs + block_len b) rest

  unfolded : blocks_from bytes n (covered_by bs) (item ∷ rest) ≡ option_map (λ (more : List Block). b ∷ more) (blocks_from bytes n (covered_by bs + block_len b) rest)
  unfolded =
      let is : n - covered_by bs ≡ left = omega arith in
      let test : is_component (text_of bytes item.name) ≡ false = ap is_component (sym named) ∙ other in
      let here : block_of (n - covered_by bs) (text_of bytes item.name) (map (number bytes) (group_tokens item.numbers)) ≡ Some b =
      ap (λ k. block_of k (text_of bytes item.name) (map (number bytes) (group_tokens item.numbers))) is
      ∙ ap (λ t. block_of left t (map (number bytes) (group_tokens item.numbers))) (sym named) ∙ sym found in
      rw (test, here) refl

  pub walked-long : left < block_len b → ordered (walked bytes n bs (item ∷ rest)) ≡ Err refused.BadOrder
  walked-long h =
      ap (λ o. ordered (option_and_then (checked n) (option_map (λ (more : List Block). bs ++ more) o))) unfolded ∙ by (blocks_from bytes n (covered_by bs + block_len b) rest)
    where
      by : (r : Option (List Block)) → ordered (option_and_then (checked n) (option_map (λ (more : List Block). bs ++ more) (option_map (λ (more : List Block). b ∷ more) r))) ≡ Err refused.BadOrder
      by None = refl
      by (Some cs) = ap ordered (too_long n bs cs b (omega arith))

  pub walked-more : walked bytes n bs (item ∷ rest) ≡ walked bytes n (bs ++ b ∷ []) rest
  walked-more =
      ap (λ o. option_and_then (checked n) (option_map (λ (more : List Block). bs ++ more) o)) unfolded
      ∙ by (blocks_from bytes n (covered_by bs + block_len b) rest)
      ∙ ap (λ k. option_and_then (checked n) (option_map (λ (more : List Block). (bs ++ b ∷ []) ++ more) (blocks_from bytes n k rest))) (sym (covered-one bs b))
    where
      by : (r : Option (List Block)) → option_and_then (checked n) (option_map (λ (more : List Block). bs ++ more) (option_map (λ (more : List Block). b ∷ more) r))
          ≡ option_and_then (checked n) (option_map (λ (more : List Block). (bs ++ b ∷ []) ++ more) r)
      by None = refl
      by (Some cs) = ap (checked n) (sym (append_assoc bs (b ∷ []) cs))

pub walked-end : (bytes : List ℕ) (n : ℕ) (bs : List Block) → walked bytes n bs [] ≡ checked n bs
walked-end bytes n bs = ap (checked n) (append-nil bs)

pub walked-start : (bytes : List ℕ) (n : ℕ) (o : Order) → blocks_of bytes n o ≡ walked bytes n [] (items_of o)
unfolding blocks_of
walked-start bytes n o = by (blocks_from bytes n 0 (items_of o))
  where
    by : (r : Option (List Block)) → option_and_then (checked n) r ≡ option_and_then (checked n) (option_map (λ (more : List Block). [] ++ more) r)
    by None = refl
    by (Some bs) = refl
