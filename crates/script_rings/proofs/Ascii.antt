-- Names are ASCII.
use Rattle.std.proofs.Common.{◌≡◌, ℕ, zero, suc, ◌<◌, true, List, [], ◌∷◌, arith}
use Rattle.std.proofs.lemmas.Bool.Decides.{nat_tests}
use Rattle.std.specs.Str.{IsAscii}
use Rattle.monomials.specs.Polynomials.{Each}
use Rattle.plural_lexer.specs.Letters.{is_letter, is_name_byte}
use Rattle.plural_text.specs.Names.{IsName}

letter_below : (b : ℕ) → is_letter b ≡ true → b < 128
letter_below b h = grind (arith, nat_tests, h)

byte_below : (b : ℕ) → is_name_byte b ≡ true → b < 128
byte_below b h = grind (arith, nat_tests, h)

bytes_below : (name : List ℕ) → Each (λ c. is_name_byte c ≡ true) name → IsAscii name
bytes_below [] h i = omega arith
bytes_below (b ∷ name) h zero = byte_below b h.0
bytes_below (b ∷ name) h (suc i) = bytes_below name h.1 i

pub ascii_name : (name : List ℕ) → IsName name → IsAscii name
ascii_name [] h i = absurd h
ascii_name (b ∷ name) h zero = letter_below b h.0
ascii_name (b ∷ name) h (suc i) = bytes_below name h.1 i
