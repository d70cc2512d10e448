use Rattle.std.proofs.Common.{◌≡◌, ℕ, zero, suc, subst, length-drop, drop-drop, length-take-le, ◌+◌, ◌≤◌, ◌<◌, ◌==◌, true, false, [], ◌∷◌, ◌++◌, List, length, take, drop, Result, Ok, Err, refl, sym, ap, arith, append_assoc}
use Rattle.plural_lexer.specs.declared.token.Token.{Token}
use Rattle.plural_lexer.specs.declared.fault.LexFault.{LexFault}
use Rattle.plural_lexer.specs.declared.place.Place.{Place}
use Rattle.plural_lexer.specs.Places.{place_after, place_of, place_next}
use Rattle.std.proofs.Math.ListN.{drop_of_length-le}
use Rattle.std.proofs.Math.Seq.{take-nil}
use Rattle.plural_lexer.specs.declared.token.TokenKind.{TokenKind}
use Rattle.plural_lexer.specs.declared.token.TokenKind.TheVariants.{End}
use Rattle.plural_lexer.specs.declared.pieces.Piece.TheVariants as piece
use Rattle.plural_lexer.specs.declared.pieces.Cause.{Cause}
use Rattle.plural_lexer.specs.declared.pieces.Cause.TheVariants as cause
use Rattle.plural_lexer.specs.declared.pieces.Piece.{Piece}
use Rattle.plural_lexer.specs.Pieces.{piece, IsPieceOf}
use Rattle.plural_lexer.specs.Tokens.{IsLexed, behind, token_at, fault_at, Gives}
use Rattle.plural_lexer.specs.Tokens.IsLexed.{ends, blank, takes, fails}

-- tokens before an answer
abbrev pub after : List Token → Result (List Token) LexFault → Result (List Token) LexFault
after ts (Ok us) = Ok (ts ++ us)
after ts (Err e) = Err e

pub after-push : (ts : List Token) (t : Token) (r : Result (List Token) LexFault) → after ts (behind t r) ≡ after (ts ++ t ∷ []) r
after-push ts t (Ok us) = ap Ok (sym (append_assoc ts (t ∷ []) us))
after-push ts t (Err e) = refl

pub place_after-append : (p : Place) (xs ys : List ℕ) → place_after p (xs ++ ys) ≡ place_after (place_after p xs) ys
place_after-append p [] ys = refl
place_after-append p (x ∷ xs) ys = place_after-append (place_next p x) xs ys

line_next : (p : Place) (b : ℕ) (t : _) → b == 10 ≡ t → ((place_next p b).line ≤ p.line + 1) × ((place_next p b).column ≤ p.column + 1)
line_next p b true e = rw e (omega arith, omega arith)
line_next p b false e = rw e (omega arith, omega arith)

pub place_after-le : (p : Place) (xs : List ℕ) → ((place_after p xs).line ≤ p.line + length xs) × ((place_after p xs).column ≤ p.column + length xs)
place_after-le p [] = (omega arith, omega arith)
place_after-le p (x ∷ xs) =
    let h = place_after-le (place_next p x) xs in
    let s = line_next p x (x == 10) refl in
    (omega (arith, h.0, s.0), omega (arith, h.1, s.1))

pub take-plus : (i n : ℕ) (xs : List ℕ) → take (i + n) xs ≡ take i xs ++ take n (drop i xs)
take-plus zero n xs = let e : 0 + n ≡ n = omega arith in ap (λ k. take k xs) e
take-plus (suc i) n [] = let e : suc i + n ≡ suc (i + n) = omega arith in rw e (sym (take-nil n))
take-plus (suc i) n (x ∷ xs) = let e : suc i + n ≡ suc (i + n) = omega arith in rw e (ap (λ l. x ∷ l) (take-plus i n xs))

blank_at : (front xs : List ℕ) (n : ℕ) (r : Result (List Token) LexFault) → 0 < length xs → piece xs ≡ piece.Blank n → IsLexed (front ++ take n xs) (drop n xs) r → IsLexed front xs r
blank_at front [] n r h p d = absurd (omega arith)
blank_at front (x ∷ xs) n r h p d = blank front x xs n r p d

token_on : (front xs : List ℕ) (n : ℕ) (kind : TokenKind) (r : Result (List Token) LexFault) → 0 < length xs → piece xs ≡ piece.Token kind n → IsLexed (front ++ take n xs) (drop n xs) r → IsLexed front xs (behind (token_at kind n front) r)
token_on front [] n kind r h p d = absurd (omega arith)
token_on front (x ∷ xs) n kind r h p d = takes front x xs n kind r p d

fault_on : (front xs : List ℕ) (c : Cause) → 0 < length xs → piece xs ≡ piece.Fault c → IsLexed front xs (Err (fault_at c (place_of front)))
fault_on front [] c h p = absurd (omega arith)
fault_on front (x ∷ xs) c h p = fails front x xs c p

-- what the rest gives, behind the tokens so far, is what the script gives
abbrev pub GoesOn : List ℕ → ℕ → List Token → Type 0
GoesOn bytes at ts = (r : Result (List Token) LexFault) → IsLexed (take at bytes) (drop at bytes) r → IsLexed [] bytes (after ts r)

pub past_blank : (bytes : List ℕ) (at n : ℕ) (ts : List Token) → at < length bytes → piece (drop at bytes) ≡ piece.Blank n → GoesOn bytes at ts → GoesOn bytes (at + n) ts
past_blank bytes at n ts h p g = λ r d.
    let here : 0 < length (drop at bytes) = omega (arith, length-drop at bytes) in
    let e : drop n (drop at bytes) ≡ drop (at + n) bytes = drop-drop n at bytes in
    g r (blank_at _ _ n r here p (rw (← take-plus at n bytes, e) d))

pub past_token : (bytes : List ℕ) (at n : ℕ) (ts : List Token) (kind : TokenKind) → at < length bytes → piece (drop at bytes) ≡ piece.Token kind n → GoesOn bytes at ts → GoesOn bytes (at + n) (ts ++ token_at kind n (take at bytes) ∷ [])
past_token bytes at n ts kind h p g = λ r d.
    let here : 0 < length (drop at bytes) = omega (arith, length-drop at bytes) in
    let e : drop n (drop at bytes) ≡ drop (at + n) bytes = drop-drop n at bytes in
    let step = token_on (take at bytes) (drop at bytes) n kind r here p (rw (← take-plus at n bytes, e) d) in
    subst (IsLexed [] bytes) (after-push ts _ r) (g _ step)

pub at_fault : (bytes : List ℕ) (at : ℕ) (ts : List Token) (c : Cause) → at < length bytes → piece (drop at bytes) ≡ piece.Fault c → GoesOn bytes at ts → IsLexed [] bytes (Err (fault_at c (place_of (take at bytes))))
at_fault bytes at ts c h p g =
    let here : 0 < length (drop at bytes) = omega (arith, length-drop at bytes) in
    g _ (fault_on (take at bytes) (drop at bytes) c here p)

pub at_end : (bytes : List ℕ) (at : ℕ) (ts : List Token) → length bytes ≤ at → GoesOn bytes at ts → IsLexed [] bytes (Ok (ts ++ token_at End 0 (take at bytes) ∷ []))
at_end bytes at ts h g = g (Ok (token_at End 0 (take at bytes) ∷ [])) (rw (drop_of_length-le bytes h) (ends (take at bytes)))

pub place_small : (p : Place) (at : ℕ) (bytes : List ℕ) → at ≤ length bytes → p ≡ place_of (take at bytes) → (p.line ≤ at + 1) × (p.column ≤ at + 1)
place_small p at bytes h e =
    let b = place_after-le (record { line = 1; column = 1 }) (take at bytes) in
    let n : length (take at bytes) ≡ at = length-take-le at bytes h in
    (rw e (omega (arith, b.0, n)), rw e (omega (arith, b.1, n)))

pub place_plus : (p : Place) (at n : ℕ) (bytes : List ℕ) → p ≡ place_of (take at bytes) → place_after p (take n (drop at bytes)) ≡ place_of (take (at + n) bytes)
place_plus p at n bytes e = rw (e, take-plus at n bytes) (sym (place_after-append _ (take at bytes) (take n (drop at bytes))))

pub gives_fault : (bytes : List ℕ) (c : Cause) (p : Place) → IsLexed [] bytes (Err (fault_at c p)) → Gives bytes (Err (fault_at c p))
gives_fault bytes cause.BadByte p d = d
gives_fault bytes cause.LongNumber p d = d
gives_fault bytes cause.OpenComment p d = d

pub same_token : (kind : TokenKind) (bytes : List ℕ) (at end n : ℕ) (p : Place) → at ≤ length bytes → end ≡ at + n → p ≡ place_of (take at bytes) → record { kind = kind; start = at; end = end; line = p.line; column = p.column } ≡ token_at kind n (take at bytes)
same_token kind bytes at end n p h i e =
    let m : length (take at bytes) ≡ at = length-take-le at bytes h in
    rw (m, i, e) refl

pub piece_within : (bytes : List ℕ) (p : Piece) (n : ℕ) → IsPieceOf bytes p → p ≡ piece.Blank n → (0 < n) × (n ≤ length bytes)
piece_within bytes p n h e = subst (IsPieceOf bytes) e h

pub token_within : (bytes : List ℕ) (p : Piece) (kind : TokenKind) (n : ℕ) → IsPieceOf bytes p → p ≡ piece.Token kind n → (0 < n) × (n ≤ length bytes)
token_within bytes p kind n h e = subst (IsPieceOf bytes) e h
