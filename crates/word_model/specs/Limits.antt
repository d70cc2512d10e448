-- The limits of lists. That of degrees stands beside products.
use Rattle.std.specs.Prelude.{ℕ}

-- the most elements that a basis may have
abbrev pub most_elements : ℕ
most_elements = 2048

-- the most generators that a run may have
abbrev pub most_generators : ℕ
most_generators = 4096

-- the most items that a list may have whose items are named by 32 bits, from 1 on
abbrev pub most_items : ℕ
most_items = 4294967295
