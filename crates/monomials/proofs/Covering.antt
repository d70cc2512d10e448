-- Blocks that cover variables, one block after another.
use Rattle.std.proofs.Common.{◌≡◌, ℕ, ◌+◌, ◌-◌, ◌≤◌, ◌<◌, Bool, true, ◌&&◌, List, ◌∷◌, map, sum, drop, length, get_or, arith, sym, ◌↔◌}
use Rattle.std.proofs.lemmas.List.Sums.{sum_by-cons}
use Rattle.std.proofs.lemmas.List.{drop_more, drop_all}
use Rattle.monomials.specs.Blocks.{AreParts, Covers, IsPart, block_len, is_extra}
use Rattle.monomials.specs.declared.order.Block.{Block}

-- these blocks are the rest of blocks over n variables, of which `left` are left to cover
pub record CoversRest (n : ℕ) (front : Bool) (left : ℕ) (blocks : List Block) : Type 0 where
  pub parts : AreParts n front blocks
  pub all : sum (map block_len blocks) ≡ left

pub covers_whole : (n : ℕ) (blocks : List Block) → Covers n blocks ↔ CoversRest n true n blocks
covers_whole n blocks = (λ h. record { parts = h.parts; all = h.all }, λ h. record { parts = h.parts; all = h.all })

-- what is left to cover behind the first block
module _ (n left : ℕ) (front : Bool) (b : Block) (bs : List Block) where
  covers_first : CoversRest n front left (b ∷ bs) → IsPart n front b × (block_len b ≤ left)
  covers_first h = (h.parts.0, omega (arith, h.all, sum_by-cons (λ x. x) (block_len b) (map block_len bs)))

  covers_behind : IsPart n front b → block_len b ≤ left →
      CoversRest n front left (b ∷ bs) ↔ CoversRest n (front && is_extra b) (left - block_len b) bs
  covers_behind part fits = (
    λ h. record { parts = h.parts.1; all = omega (arith, h.all, sum_by-cons (λ x. x) (block_len b) (map block_len bs)) },
    λ h. record {
      parts = (part, h.parts);
      all = omega (arith, h.all, sum_by-cons (λ x. x) (block_len b) (map block_len bs));
    },
  )

-- the same from the block at `i` on, whose length is `len`
module _ (n left len : ℕ) (front : Bool) (blocks : List Block) (i : ℕ) (d : Block) (here : i < length blocks) (is : len ≡ block_len (get_or blocks i d)) where
  pub covers_here : CoversRest n front left (drop i blocks) → IsPart n front (get_or blocks i d) × (len ≤ left)
  covers_here h = rw is (covers_first n left front (get_or blocks i d) (drop (i + 1) blocks) (rw (drop_more blocks i d here) at h))

  pub covers_next : IsPart n front (get_or blocks i d) → len ≤ left →
      CoversRest n front left (drop i blocks) ↔ CoversRest n (front && is_extra (get_or blocks i d)) (left - len) (drop (i + 1) blocks)
  covers_next part fits =
      rw (is, drop_more blocks i d here)
      (covers_behind n left front (get_or blocks i d) (drop (i + 1) blocks) part (rw is at fits))

-- no block is left
pub covers_end : (n left i : ℕ) (front : Bool) (blocks : List Block) → length blocks ≤ i →
    CoversRest n front left (drop i blocks) ↔ (left ≡ 0)
covers_end n left i front blocks past =
    rw (drop_all i blocks past) (λ h. sym h.all, λ z. record { parts = tt; all = sym z })
