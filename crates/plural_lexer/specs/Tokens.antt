-- The tokens of a script, or its first fault.
use Rattle.std.specs.Prelude.{◌≡◌, ℕ, ◌+◌, List, [], ◌∷◌, ◌++◌, length, take, drop, Result, Ok, Err}
use Rattle.std.specs.Global.{Vec}
use Rattle.plural_lexer.specs.declared.token.Token.{Token}
use Rattle.plural_lexer.specs.declared.token.TokenKind.{TokenKind}
use Rattle.plural_lexer.specs.declared.token.TokenKind.TheVariants.{End}
use Rattle.plural_lexer.specs.declared.fault.LexFault.{LexFault}
use Rattle.plural_lexer.specs.declared.fault.LexFault.TheVariants as fault
use Rattle.plural_lexer.specs.declared.pieces.Piece.TheVariants as piece
use Rattle.plural_lexer.specs.declared.pieces.Cause.{Cause}
use Rattle.plural_lexer.specs.declared.pieces.Cause.TheVariants as cause
use Rattle.plural_lexer.specs.declared.place.Place.{Place}
use Rattle.plural_lexer.specs.Places.{place_of}
use Rattle.plural_lexer.specs.Pieces as pieces

-- the token of a kind with n bytes, behind the bytes `front` of the script
abbrev pub token_at : TokenKind → ℕ → List ℕ → Token
token_at kind n front = record { kind = kind; start = length front; end = length front + n; line = (place_of front).line; column = (place_of front).column }

abbrev pub end_of : List ℕ → Token
end_of bytes = token_at End 0 bytes

abbrev pub fault_at : Cause → Place → LexFault
fault_at cause.BadByte p = fault.BadByte p.line p.column
fault_at cause.LongNumber p = fault.LongNumber p.line p.column
fault_at cause.OpenComment p = fault.OpenComment p.line p.column

abbrev pub behind : Token → Result (List Token) LexFault → Result (List Token) LexFault
behind t (Ok ts) = Ok (t ∷ ts)
behind t (Err e) = Err e

-- What the rest of a script gives, behind the bytes `front`: piece after piece is taken from the front of the rest.
pub data IsLexed : List ℕ → List ℕ → Result (List Token) LexFault → Type 0 where
  ends : (front : List ℕ) → IsLexed front [] (Ok (end_of front ∷ []))
  blank : (front : List ℕ) (b : ℕ) (rest : List ℕ) (n : ℕ) (r : Result (List Token) LexFault) → pieces.piece (b ∷ rest) ≡ piece.Blank n → IsLexed (front ++ take n (b ∷ rest)) (drop n (b ∷ rest)) r → IsLexed front (b ∷ rest) r
  takes : (front : List ℕ) (b : ℕ) (rest : List ℕ) (n : ℕ) (kind : TokenKind) (r : Result (List Token) LexFault) → pieces.piece (b ∷ rest) ≡ piece.Token kind n → IsLexed (front ++ take n (b ∷ rest)) (drop n (b ∷ rest)) r → IsLexed front (b ∷ rest) (behind (token_at kind n front) r)
  fails : (front : List ℕ) (b : ℕ) (rest : List ℕ) (c : Cause) → pieces.piece (b ∷ rest) ≡ piece.Fault c → IsLexed front (b ∷ rest) (Err (fault_at c (place_of front)))

abbrev pub AreTokensOf : List ℕ → List Token → Type 0
AreTokensOf bytes ts = IsLexed [] bytes (Ok ts)

-- the script's answer, unless memory runs out
abbrev pub Gives : List ℕ → Result (Vec Token) LexFault → Type 0
Gives bytes (Ok v) = AreTokensOf bytes v.items
Gives bytes (Err fault.Memory) = Unit {0}
Gives bytes (Err e) = IsLexed [] bytes (Err e)

abbrev pub HasNoEnd : List Token → Type 0
HasNoEnd [] = Unit {0}
HasNoEnd (t ∷ ts) = (t.kind ≡ End → ⊥) × HasNoEnd ts
