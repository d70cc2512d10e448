-- The tokens of kind `Name` have texts that are names.
use Rattle.std.proofs.Common.{◌≡◌, ◌==◌, ◌&&◌, ℕ, suc, ◌+◌, ◌-◌, ◌≤◌, Bool, true, false, cond, if◌then◌else◌, List, [], ◌∷◌, ◌++◌, length, take, drop, slice_index, nat_le, Option, Some, None, Result, Ok, Err, refl, sym, ap, subst, ◌∙◌, append_assoc, arith, length-append}
use Rattle.std.specs.List.{prefix_len, slice_range}
use Rattle.std.proofs.lemmas.Bool.Decides.{nat_tests}
use Rattle.std.proofs.lemmas.List.{take-append-drop}
use Rattle.std.proofs.lemmas.List.Sums.{prefix_len-le-length}
use Rattle.std.proofs.Math.Seq.{drop-append_seam}
use Rattle.monomials.specs.Polynomials.{Each}
use Rattle.monomials.proofs.Keys.{Each-weaker}
use Rattle.plural_lexer.specs.declared.token.Token.{Token}
use Rattle.plural_lexer.specs.declared.token.TokenKind.{TokenKind}
use Rattle.plural_lexer.specs.declared.token.TokenKind.TheVariants as kind
use Rattle.plural_lexer.specs.declared.fault.LexFault.{LexFault}
use Rattle.plural_lexer.specs.declared.pieces.Piece.{Piece}
use Rattle.plural_lexer.specs.declared.pieces.Piece.TheVariants as p
use Rattle.plural_lexer.specs.declared.pieces.Cause.TheVariants as cause
use Rattle.plural_lexer.specs.declared.pieces.Class.TheVariants.{Digit, Line}
use Rattle.plural_lexer.specs.Letters.{is_letter, is_digit, is_name_byte}
use Rattle.plural_lexer.specs.Pieces.{piece, word, number, comment, comment_len, is_in, is_blank, is_sign}
use Rattle.plural_lexer.specs.Tokens.{IsLexed, AreTokensOf, behind, token_at}
use Rattle.plural_lexer.specs.Tokens.IsLexed.{ends, blank, takes, fails}
use Rattle.plural_syntax.specs.Words.{text_of}
use Rattle.plural_text.specs.Names.{IsName}
use Rattle.plural_text.proofs.Characters.{letter_in_name}

-- ---- bytes

abbrev Passes : (ℕ → Bool) → ℕ → Type 0
Passes test b = test b ≡ true

-- a byte that passes in front of the others
prefix_len-suc : (test : ℕ → Bool) (b : ℕ) (bs : List ℕ) → test b ≡ true → prefix_len test (b ∷ bs) ≡ suc (prefix_len test bs)
prefix_len-suc test b bs h =
    let one : 1 + prefix_len test bs ≡ suc (prefix_len test bs) = omega arith in
    ap (λ c. cond c (1 + prefix_len test bs) 0) h ∙ one

-- each byte up to the first that does not pass
prefix-passes : (test : ℕ → Bool) (bs : List ℕ) → Each (Passes test) (take (prefix_len test bs) bs)
prefix-passes test [] = tt
prefix-passes test (b ∷ bs) = by (test b) refl (prefix-passes test bs) where
  by : (c : Bool) → test b ≡ c → Each (Passes test) (take (prefix_len test bs) bs) → Each (Passes test) (take (prefix_len test (b ∷ bs)) (b ∷ bs))
  by true e h = subst (λ k. Each (Passes test) (take k (b ∷ bs))) (sym (prefix_len-suc test b bs e)) (e, h)
  by false e h = subst (λ c. Each (Passes test) (take (cond c (1 + prefix_len test bs) 0) (b ∷ bs))) (sym e) tt

-- by the test that a byte with which a name goes on passes first
name_byte_cases : (c : ℕ) {A : Type 0} (x y : Bool) → is_letter c ≡ x → is_digit c ≡ y → is_name_byte c ≡ true
    → (is_letter c ≡ true → A) → (is_letter c ≡ false → is_digit c ≡ true → A) → (is_letter c ≡ false → is_digit c ≡ false → c == 95 ≡ true → A) → A
name_byte_cases c true y e f h letter digit line = letter e
name_byte_cases c false true e f h letter digit line = digit e f
name_byte_cases c false false e f h letter digit line = let k = rw (e, f) at h in line e f k

-- a letter, and the bytes with which it goes on
name-taken : (b : ℕ) (bs : List ℕ) → is_letter b ≡ true → IsName (take (prefix_len is_name_byte (b ∷ bs)) (b ∷ bs))
name-taken b bs h =
    let more : Each (Passes is_name_byte) (take (prefix_len is_name_byte bs) bs) = prefix-passes is_name_byte bs in
    subst (λ k. IsName (take k (b ∷ bs))) (sym (prefix_len-suc is_name_byte b bs (letter_in_name b h)))
    (h, Each-weaker (Passes is_name_byte) _ (λ c k. name_byte_cases c (is_letter c) (is_digit c) refl refl k (λ e. rw e refl) (λ e f. rw (e, f) refl) (λ e f g. rw (e, f, g) refl)) _ more)

-- ---- pieces

-- where the piece at the front is a name, its bytes are one
abbrev IsNamed : List ℕ → Piece → Type 0
IsNamed xs (p.Blank n) = Unit {0}
IsNamed xs (p.Token k n) = k ≡ kind.Name → IsName (take n xs) × (n ≤ length xs)
IsNamed xs (p.Fault c) = Unit {0}

if_named : (xs : List ℕ) (c : Bool) (x y : Piece) → (c ≡ true → IsNamed xs x) → IsNamed xs y → IsNamed xs (if c then x else y)
if_named xs true x y h g = h refl
if_named xs false x y h g = g

comment-named : (xs : List ℕ) (o : Option ℕ) → IsNamed xs (comment o)
comment-named xs None = tt
comment-named xs (Some n) = tt

number-named : (xs : List ℕ) → IsNamed xs (number xs)
unfolding number
number-named xs = if_named xs (nat_le (prefix_len (is_in Digit) xs) 18) _ _ (λ h. λ e. cc) tt

word-named : (b : ℕ) (bs : List ℕ) → is_letter b ≡ true → IsNamed (b ∷ bs) (word (b ∷ bs))
unfolding word
word-named b bs h = λ e. (name-taken b bs h, prefix_len-le-length is_name_byte (b ∷ bs))

piece-named : (b : ℕ) (bs : List ℕ) → IsNamed (b ∷ bs) (piece (b ∷ bs))
unfolding piece
piece-named b bs =
    let xs : List ℕ = b ∷ bs in
    let second = slice_index xs 1 in
    let signs = if is_sign b then p.Token kind.Sign 1 else p.Fault cause.BadByte in
    let comments = if b == 47 && second == 42 then comment (comment_len (drop 2 xs)) else signs in
    let lines = if b == 47 && second == 47 then p.Blank (prefix_len (is_in Line) xs) else comments in
    let digits = if is_digit b then number xs else lines in
    let words = if is_letter b then word xs else digits in
    if_named xs (is_blank b) (p.Blank 1) words (λ h. tt)
    (if_named xs (is_letter b) (word xs) digits (word-named b bs)
    (if_named xs (is_digit b) (number xs) lines (λ h. number-named xs)
    (if_named xs (b == 47 && second == 47) (p.Blank (prefix_len (is_in Line) xs)) comments (λ h. tt)
    (if_named xs (b == 47 && second == 42) (comment (comment_len (drop 2 xs))) signs (λ h. comment-named xs (comment_len (drop 2 xs)))
    (if_named xs (is_sign b) (p.Token kind.Sign 1) (p.Fault cause.BadByte) (λ h. λ e. cc) tt)))))

-- ---- tokens

-- a token of kind `Name` has a name's text
abbrev pub HasName : List ℕ → Token → Type 0
HasName bytes t = t.kind ≡ kind.Name → IsName (text_of bytes t)

within : (front xs : List ℕ) (n : ℕ) → n ≤ length xs → nat_le (length front) (length front + n) && nat_le (length front + n) (length (front ++ xs)) ≡ true
within front xs n h = grind (arith, nat_tests, length-append front xs)

-- the text of a token is the bytes that it took
text-taken : (k : TokenKind) (front xs : List ℕ) (n : ℕ) → n ≤ length xs → text_of (front ++ xs) (token_at k n front) ≡ take n xs
text-taken k front xs n h =
    let at = length front in
    let size : (at + n) - at ≡ n = omega arith in
    ap (λ c. if c then slice_range (front ++ xs) at (at + n) else []) (within front xs n h)
    ∙ ap (λ m. take m (drop at (front ++ xs))) size
    ∙ ap (take n) (drop-append_seam front xs)

rejoined : (front xs : List ℕ) (n : ℕ) → (front ++ take n xs) ++ drop n xs ≡ front ++ xs
rejoined front xs n = append_assoc front (take n xs) (drop n xs) ∙ ap (λ l. front ++ l) (take-append-drop n xs)

token-named : (k : TokenKind) (front xs : List ℕ) (n : ℕ) → IsNamed xs (p.Token k n) → HasName (front ++ xs) (token_at k n front)
token-named k front xs n h e =
    let here = h e in
    subst IsName (sym (text-taken k front xs n here.1)) here.0

-- the tokens, where there are any
abbrev AllNamed : List ℕ → Result (List Token) LexFault → Type 0
AllNamed bytes (Ok ts) = Each (HasName bytes) ts
AllNamed bytes (Err e) = Unit {0}

behind-named : (bytes : List ℕ) (t : Token) (r : Result (List Token) LexFault) → HasName bytes t → AllNamed bytes r → AllNamed bytes (behind t r)
behind-named bytes t (Ok ts) h k = (h, k)
behind-named bytes t (Err e) h k = tt

lexed-named : (front xs : List ℕ) (r : Result (List Token) LexFault) → IsLexed front xs r → AllNamed (front ++ xs) r
lexed-named _ _ _ (ends front) = (λ e. cc, tt)
lexed-named _ _ _ (blank front b rest n r e d) = subst (λ l. AllNamed l r) (rejoined front (b ∷ rest) n) (lexed-named (front ++ take n (b ∷ rest)) (drop n (b ∷ rest)) r d)
lexed-named _ _ _ (takes front b rest n k r e d) =
    behind-named (front ++ b ∷ rest) (token_at k n front) r
    (token-named k front (b ∷ rest) n (subst (IsNamed (b ∷ rest)) e (piece-named b rest)))
    (subst (λ l. AllNamed l r) (rejoined front (b ∷ rest) n) (lexed-named (front ++ take n (b ∷ rest)) (drop n (b ∷ rest)) r d))
lexed-named _ _ _ (fails front b rest c e) = tt

pub tokens-named : (bytes : List ℕ) (ts : List Token) → AreTokensOf bytes ts → Each (HasName bytes) ts
tokens-named bytes ts d = lexed-named [] bytes (Ok ts) d
