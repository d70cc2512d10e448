-- A script has one answer, and its tokens end with `End`.
use Rattle.std.proofs.Common.{◌≡◌, ◌==◌, ◌&&◌, ℕ, Bool, true, false, if◌then◌else◌, List, [], ◌∷◌, ◌++◌, take, drop, slice_index, nat_le, Option, Some, None, Result, Ok, Err, refl, sym, ap, subst, ◌∙◌, append_assoc, append-nil}
use Rattle.std.proofs.lemmas.List.{take-append-drop}
use Rattle.std.specs.List.{prefix_len}
use Rattle.plural_lexer.specs.declared.token.Token.{Token}
use Rattle.plural_lexer.specs.declared.token.TokenKind.TheVariants as kind
use Rattle.plural_lexer.specs.declared.fault.LexFault.{LexFault}
use Rattle.plural_lexer.specs.declared.pieces.Piece.{Piece}
use Rattle.plural_lexer.specs.declared.pieces.Piece.TheVariants as p
use Rattle.plural_lexer.specs.declared.pieces.Cause.TheVariants as cause
use Rattle.plural_lexer.specs.declared.pieces.Class.TheVariants.{Word, Digit, Line}
use Rattle.plural_lexer.specs.Places.{place_of}
use Rattle.plural_lexer.specs.Letters.{is_letter, is_digit}
use Rattle.plural_lexer.specs.Pieces.{piece, word, number, comment, comment_len, is_reserved, is_in, is_blank, is_sign}
use Rattle.plural_lexer.specs.Tokens.{IsLexed, behind, token_at, end_of, fault_at, HasNoEnd}
use Rattle.plural_lexer.specs.Tokens.IsLexed.{ends, blank, takes, fails}

-- an answer by the piece that stands at the front
abbrev NextBy : Piece → List ℕ → List ℕ → Result (List Token) LexFault → Type 0
NextBy (p.Blank n) front xs r = IsLexed (front ++ take n xs) (drop n xs) r
NextBy (p.Token k n) front xs r = (s : Result (List Token) LexFault) × (r ≡ behind (token_at k n front) s) × IsLexed (front ++ take n xs) (drop n xs) s
NextBy (p.Fault c) front xs r = r ≡ Err (fault_at c (place_of front))

abbrev NextAt : List ℕ → List ℕ → Result (List Token) LexFault → Type 0
NextAt front [] r = r ≡ Ok (end_of front ∷ [])
NextAt front (b ∷ rest) r = NextBy (piece (b ∷ rest)) front (b ∷ rest) r

next : (front xs : List ℕ) (r : Result (List Token) LexFault) → IsLexed front xs r → NextAt front xs r
next _ _ _ (ends front) = refl
next _ _ _ (blank front b rest n r e d) = subst (λ q. NextBy q front (b ∷ rest) r) (sym e) d
next _ _ _ (takes front b rest n k r e d) = subst (λ q. NextBy q front (b ∷ rest) (behind (token_at k n front) r)) (sym e) (r, refl, d)
next _ _ _ (fails front b rest c e) = subst (λ q. NextBy q front (b ∷ rest) (Err (fault_at c (place_of front)))) (sym e) refl

pub once : (front xs : List ℕ) (r : Result (List Token) LexFault) → IsLexed front xs r → (s : Result (List Token) LexFault) → IsLexed front xs s → r ≡ s
once _ _ _ (ends front) s f = sym (next front [] s f)
once _ _ _ (blank front b rest n r e d) s f = once (front ++ take n (b ∷ rest)) (drop n (b ∷ rest)) r d s (subst (λ q. NextBy q front (b ∷ rest) s) e (next front (b ∷ rest) s f))
once _ _ _ (takes front b rest n k r e d) s f =
    let x = subst (λ q. NextBy q front (b ∷ rest) s) e (next front (b ∷ rest) s f) in
    ap (behind (token_at k n front)) (once (front ++ take n (b ∷ rest)) (drop n (b ∷ rest)) r d x.0 x.2) ∙ sym x.1
once _ _ _ (fails front b rest c e) s f = sym (subst (λ q. NextBy q front (b ∷ rest) s) e (next front (b ∷ rest) s f))

-- ---- no piece is an `End`

abbrev IsNoEnd : Piece → Type 0
IsNoEnd (p.Blank n) = Unit {0}
IsNoEnd (p.Token k n) = k ≡ kind.End → ⊥
IsNoEnd (p.Fault c) = Unit {0}

if_no_end : (c : Bool) (x y : Piece) → IsNoEnd x → IsNoEnd y → IsNoEnd (if c then x else y)
if_no_end true x y h g = h
if_no_end false x y h g = g

word_no_end : (c : Bool) (n : ℕ) → IsNoEnd (p.Token (if c then kind.Reserved else kind.Name) n)
word_no_end true n = λ e. cc
word_no_end false n = λ e. cc

comment_no_end : (o : Option ℕ) → IsNoEnd (comment o)
comment_no_end None = tt
comment_no_end (Some n) = tt

number_no_end : (xs : List ℕ) → IsNoEnd (number xs)
unfolding number
number_no_end xs = if_no_end (nat_le (prefix_len (is_in Digit) xs) 18) _ _ (λ e. cc) tt

letter_no_end : (xs : List ℕ) → IsNoEnd (word xs)
unfolding word
letter_no_end xs = word_no_end (is_reserved (take (prefix_len (is_in Word) xs) xs)) (prefix_len (is_in Word) xs)

piece_no_end : (xs : List ℕ) → IsNoEnd (piece xs)
unfolding piece
piece_no_end xs =
    let first = slice_index xs 0 in
    let second = slice_index xs 1 in
    let signs = if is_sign first then p.Token kind.Sign 1 else p.Fault cause.BadByte in
    let comments = if first == 47 && second == 42 then comment (comment_len (drop 2 xs)) else signs in
    let lines = if first == 47 && second == 47 then p.Blank (prefix_len (is_in Line) xs) else comments in
    let digits = if is_digit first then number xs else lines in
    let words = if is_letter first then word xs else digits in
    if_no_end (is_blank first) (p.Blank 1) words tt
    (if_no_end (is_letter first) (word xs) digits (letter_no_end xs)
    (if_no_end (is_digit first) (number xs) lines (number_no_end xs)
    (if_no_end (first == 47 && second == 47) (p.Blank (prefix_len (is_in Line) xs)) comments tt
    (if_no_end (first == 47 && second == 42) (comment (comment_len (drop 2 xs))) signs (comment_no_end (comment_len (drop 2 xs)))
    (if_no_end (is_sign first) (p.Token kind.Sign 1) (p.Fault cause.BadByte) (λ e. cc) tt)))))

-- ---- the last token

abbrev EndsWell : List ℕ → Result (List Token) LexFault → Type 0
EndsWell bytes (Ok ts) = (front : List Token) × (ts ≡ front ++ end_of bytes ∷ []) × HasNoEnd front
EndsWell bytes (Err e) = Unit {0}

behind_ends : (bytes : List ℕ) (t : Token) (r : Result (List Token) LexFault) → (t.kind ≡ kind.End → ⊥) → EndsWell bytes r → EndsWell bytes (behind t r)
behind_ends bytes t (Ok ts) h w = (t ∷ w.0, ap (λ l. t ∷ l) w.1, (h, w.2))
behind_ends bytes t (Err e) h w = tt

rejoined : (front xs : List ℕ) (n : ℕ) → (front ++ take n xs) ++ drop n xs ≡ front ++ xs
rejoined front xs n = append_assoc front (take n xs) (drop n xs) ∙ ap (λ l. front ++ l) (take-append-drop n xs)

pub ends_well : (front xs : List ℕ) (r : Result (List Token) LexFault) → IsLexed front xs r → EndsWell (front ++ xs) r
ends_well _ _ _ (ends front) = ([], ap (λ l. end_of l ∷ []) (sym (append-nil front)), tt)
ends_well _ _ _ (blank front b rest n r e d) = subst (λ l. EndsWell l r) (rejoined front (b ∷ rest) n) (ends_well (front ++ take n (b ∷ rest)) (drop n (b ∷ rest)) r d)
ends_well _ _ _ (takes front b rest n k r e d) =
    behind_ends (front ++ b ∷ rest) (token_at k n front) r (subst IsNoEnd e (piece_no_end (b ∷ rest)))
    (subst (λ l. EndsWell l r) (rejoined front (b ∷ rest) n) (ends_well (front ++ take n (b ∷ rest)) (drop n (b ∷ rest)) r d))
ends_well _ _ _ (fails front b rest c e) = tt
