-- What stands at the front of a script's bytes: as many bytes as go together.
use Rattle.std.specs.Prelude.{ℕ, ◌+◌, ◌≤◌, ◌<◌, ◌==◌, nat_le, not, ◌&&◌, ◌||◌, Bool, if◌then◌else◌, List, [], ◌∷◌, length, take, drop, slice_index, Option, Some, None, codes}
use lib.Pointwise.{pointwise}
use lib.Dec.{eqb}
use Rattle.std.specs.List.{prefix_len, list_any}
use Rattle.std.specs.Option.{option_map}
use Rattle.plural_lexer.specs.Letters.{is_letter, is_digit, is_name_byte}
use Rattle.plural_lexer.specs.declared.token.TokenKind.TheVariants.{Name, Reserved, Int, Sign}
use Rattle.plural_lexer.specs.declared.pieces.Class.{Class}
use Rattle.plural_lexer.specs.declared.pieces.Class.TheVariants.{Word, Digit, Line}
use Rattle.plural_lexer.specs.declared.pieces.Piece.{Piece}
use Rattle.plural_lexer.specs.declared.pieces.Piece.TheVariants.{Blank, Token, Fault}
use Rattle.plural_lexer.specs.declared.pieces.Cause.TheVariants.{BadByte, LongNumber, OpenComment}

-- space, tab, carriage return, line feed
abbrev pub is_blank : ℕ → Bool
is_blank b = b == 32 || b == 9 || b == 13 || b == 10

abbrev pub is_sign : ℕ → Bool
is_sign b = list_any (λ s. s == b) (codes "=,;()[]+-*/^")

-- a word goes on with letters, digits and _, a line with all but a line feed
abbrev pub is_in : Class → ℕ → Bool
is_in Word b = is_name_byte b
is_in Digit b = is_digit b
is_in Line b = not (b == 10)

-- the length up to and with the first */
abbrev pub comment_len : List ℕ → Option ℕ
comment_len [] = None
comment_len (b ∷ bs) = if b == 42 && slice_index bs 0 == 47 then Some 2 else option_map (λ n. n + 1) (comment_len bs)

abbrev pub is_one_of : List ℕ → List (List ℕ) → Bool
is_one_of word words = list_any (λ w. pointwise eqb w word) words

abbrev pub reserved_words : List (List ℕ)
reserved_words =
    codes "ring" ∷ codes "setring" ∷ codes "def" ∷ codes "poly" ∷ codes "ideal" ∷ codes "module" ∷ codes "matrix" ∷
    codes "option" ∷ codes "short" ∷ codes "quit" ∷ codes "nc_algebra" ∷ codes "std" ∷ codes "twostd" ∷ codes "NF" ∷
    codes "reduce" ∷ codes "eliminate" ∷ codes "syz" ∷ codes "cofactors" ∷ codes "twochain" ∷ codes "summary" ∷ []

unfoldable pub is_reserved : List ℕ → Bool
is_reserved word = is_one_of word reserved_words

unfoldable pub word : List ℕ → Piece
word bytes = let n = prefix_len (is_in Word) bytes in Token (if is_reserved (take n bytes) then Reserved else Name) n

unfoldable pub number : List ℕ → Piece
number bytes = let n = prefix_len (is_in Digit) bytes in if nat_le n 18 then Token Int n else Fault LongNumber

-- behind /*
abbrev pub comment : Option ℕ → Piece
comment None = Fault OpenComment
comment (Some n) = Blank (2 + n)

unfoldable pub piece : List ℕ → Piece
piece bytes =
    let first = slice_index bytes 0 in
    let second = slice_index bytes 1 in
    if is_blank first then Blank 1 else
    (if is_letter first then word bytes else
    (if is_digit first then number bytes else
    (if first == 47 && second == 47 then Blank (prefix_len (is_in Line) bytes) else
    (if first == 47 && second == 42 then comment (comment_len (drop 2 bytes)) else
    (if is_sign first then Token Sign 1 else Fault BadByte)))))

-- a piece takes at least one byte, and only bytes that are there
abbrev pub IsPieceOf : List ℕ → Piece → Type 0
IsPieceOf bytes (Blank n) = (0 < n) × (n ≤ length bytes)
IsPieceOf bytes (Token kind n) = (0 < n) × (n ≤ length bytes)
IsPieceOf bytes (Fault c) = Unit {0}
