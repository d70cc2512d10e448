use Rattle.std.proofs.Common.{◌≡◌, ◌+◌, ℕ, map, length}
use Rattle.script_rings.specs.Walks.{covered_by, walked}
use Rattle.script_rings.proofs.blocks.push_items.Given as goal

abbrev pub invariant-loop-after : goal.invariant-loop-after
invariant-loop-after l = record {
  covered : covered_by l.blocks.items + l.left ≡ covered_by l.fn.blocks.items + l.fn.left;
  walk : (n : ℕ) → covered_by l.fn.blocks.items + l.fn.left ≡ n
      → walked l.bytes n l.fn.blocks.items (map (λ a. a.item) l.fn.more) ≡ walked l.bytes n l.blocks.items (map (λ a. a.item) l.more);
}

abbrev pub decreases-loop-after : goal.decreases-loop-after
decreases-loop-after l = length l.more
