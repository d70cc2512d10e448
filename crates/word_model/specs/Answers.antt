-- What bytes and words are answered.
use Rattle.std.specs.Prelude.{ℕ, List, [], ◌∷◌, ◌++◌}

-- a text and a status
pub record Answer : Type 0 where
  pub text : List ℕ
  pub status : ℕ

-- a line feed
abbrev pub line_feed : List ℕ
line_feed = 10 ∷ []

-- a text of one line
abbrev pub line : List ℕ → List ℕ
line text = text ++ line_feed

-- the most bytes that a script may have
abbrev pub most_bytes : ℕ
most_bytes = 1048576
