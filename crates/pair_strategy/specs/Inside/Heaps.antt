-- Heaps of keys, as lists: below the item at p lie those at 2 p + 1 and 2 p + 2.
use Rattle.std.specs.Prelude.{◌≡◌, ◌≢◌, ℕ, ◌+◌, ◌*◌, ◌<◌, ◌≤◌, false, List, get_or}
use Rattle.std.specs.Ordering.{is_lt}
use Rattle.monomials.specs.Orders.{RowOrder}
use Rattle.pair_strategy.specs.Queues.{keyed_cmp}
use Rattle.pair_strategy.specs.declared.keys.Keyed.{Keyed}

-- a key is at most another
abbrev pub IsAtMost : RowOrder → Keyed → Keyed → Type 0
IsAtMost o a b = is_lt (keyed_cmp o b a) ≡ false

module _ (o : RowOrder) where
  -- of the first n items none is less than the one that it lies below
  abbrev pub IsTree : List Keyed → ℕ → Type 0
  IsTree xs n = (p k : ℕ) (d : Keyed) → p * 2 + 1 ≤ k → k ≤ p * 2 + 2 → k < n → IsAtMost o (get_or xs p d) (get_or xs k d)

  -- the item that the one at j lies below is at most those below j
  abbrev pub IsSpanned : List Keyed → ℕ → ℕ → Type 0
  IsSpanned xs j n =
      (p k : ℕ) (d : Keyed) → p * 2 + 1 ≤ j → j ≤ p * 2 + 2 → j * 2 + 1 ≤ k → k ≤ j * 2 + 2 → k < n
      → IsAtMost o (get_or xs p d) (get_or xs k d)

  -- the same but for the item at j, which may be less than the one that it lies below
  abbrev pub IsTreeBelow : List Keyed → ℕ → ℕ → Type 0
  IsTreeBelow xs j n =
      ((p k : ℕ) (d : Keyed) → p * 2 + 1 ≤ k → k ≤ p * 2 + 2 → k < n → k ≢ j → IsAtMost o (get_or xs p d) (get_or xs k d))
      × IsSpanned xs j n

  -- the same but for the item at j, which may be greater than those below it
  abbrev pub IsTreeAbove : List Keyed → ℕ → ℕ → Type 0
  IsTreeAbove xs j n =
      ((p k : ℕ) (d : Keyed) → p * 2 + 1 ≤ k → k ≤ p * 2 + 2 → k < n → p ≢ j → IsAtMost o (get_or xs p d) (get_or xs k d))
      × IsSpanned xs j n

  -- the item at c is at most each of those below j
  abbrev pub IsLeastBelow : List Keyed → ℕ → ℕ → ℕ → Type 0
  IsLeastBelow xs j c n = (k : ℕ) (d : Keyed) → j * 2 + 1 ≤ k → k ≤ j * 2 + 2 → k < n → IsAtMost o (get_or xs c d) (get_or xs k d)
