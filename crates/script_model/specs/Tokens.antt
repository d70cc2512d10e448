-- What the tokens of a script say.
use Rattle.std.specs.Prelude.{ℕ, Bool, List, bytes_eq, codes}
use Rattle.std.specs.Option.{unwrap_or}
use Rattle.plural_lexer.specs.declared.token.Token.{Token}
use Rattle.plural_lexer.specs.Letters.{number_of}
use Rattle.plural_syntax.specs.Words.{text_of}

-- the value of a number, which has at most 18 digits; another token has the value 0
abbrev pub number : List ℕ → Token → ℕ
number bytes t = unwrap_or (number_of 18 (text_of bytes t)) 0

abbrev pub is_minus : List ℕ → Token → Bool
is_minus bytes t = bytes_eq (text_of bytes t) (codes "-")
