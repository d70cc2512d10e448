-- Sums of words as the program keeps them.
use Rattle.std.specs.Prelude.{ℕ, ◌*◌, ◌%◌, ◌<◌, ◌≤◌, List, [], ◌∷◌, ◌++◌, map, length}
use Rattle.monomials.specs.Polynomials.{Polynomial, Each}
use Rattle.word_model.specs.Words.{Algebra, Word, WordSum, IsWord, Descent, sorted_word, c_of, d_of}
use Rattle.word_model.specs.Conditions.{times_words}
use Rattle.algebra.specs.Inside.Places.{with_swapped}
use Rattle.algebra.specs.declared.rewriting.WordTerm.{WordTerm}

-- a word with its number
abbrev pub numbered_word : WordTerm → ℕ × Word
numbered_word t = (t.coef, t.word.items)

-- a sum of words
abbrev pub words_of : List WordTerm → WordSum
words_of ts = map numbered_word ts

-- the numbers modulo p
abbrev pub reduced : ℕ → WordSum → WordSum
reduced p f = map (λ t. (t.0 % p, t.1)) f

-- k times the polynomial f between two words
abbrev pub between : ℕ → Word → Polynomial → Word → WordSum
between k front f back = times_words k (λ m. front ++ (sorted_word m ++ back)) f

-- numbers modulo p, and words in n variables that are not too long
pub record IsPending (p n : ℕ) (f : WordSum) : Type 0 where
  pub numbers : Each (λ t. t.0 < p) f
  pub words : Each (λ t. IsWord n t.1) f
  pub short : Each (λ t. length t.1 ≤ 4095) f

-- What replaces k times a word with this descent: the terms of the relation in the place of the two letters,
-- and the word with the two letters swapped.
abbrev pub replacement : Algebra → ℕ → Descent → WordSum
replacement A k s =
    reduced A.p (between k s.before (d_of A s.low s.high) s.after)
    ++ ((k * c_of A s.low s.high) % A.p, with_swapped s) ∷ []
