-- The word of the first of some tokens.
use Rattle.std.proofs.Common.{◌≡◌, ℕ, ◌≤◌, Bool, List, [], ◌∷◌, length, get_or, refl, arith}
use Rattle.plural_lexer.specs.declared.token.Token.{Token}
use Rattle.plural_syntax.specs.declared.word.Word.{Word}
use Rattle.plural_syntax.specs.Words.{word, lexeme, lexemes, head_is}

pub first_is : (bytes : List ℕ) (ts : List Token) (d : Token) → 1 ≤ length ts → (t : Word → Bool) → head_is t (lexemes bytes ts) ≡ t (word (lexeme bytes (get_or ts 0 d)))
first_is bytes [] d h t = absurd (omega arith)
first_is bytes (x ∷ xs) d h t = refl
