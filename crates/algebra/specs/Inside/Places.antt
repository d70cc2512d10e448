-- Places in words.
use Rattle.std.specs.Prelude.{ℕ, suc, ◌∷◌, ◌++◌, take, drop, slice_index}
use Rattle.word_model.specs.Words.{Word, Descent}

-- the letters at place k and behind it, with what stands around them
abbrev pub descent_at : ℕ → Word → Descent
descent_at k w = record { before = take k w; high = slice_index w k; low = slice_index w (suc k); after = drop (suc (suc k)) w }

-- the word with the two letters swapped
abbrev pub with_swapped : Descent → Word
with_swapped s = s.before ++ s.low ∷ s.high ∷ s.after
