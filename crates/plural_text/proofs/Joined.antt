-- Pieces with commas between them.
use Rattle.std.proofs.Common.{◌≡◌, ℕ, suc, List, [], ◌∷◌, ◌++◌, refl, ap, sym, ◌∙◌, append-nil, append_assoc}
use Rattle.std.specs.List.{join_with_byte}
use Rattle.plural_text.specs.Pieces.{pieces_from}

-- pieces behind the first
later_joined : (i : ℕ) (piece : List ℕ) (pieces : List (List ℕ)) → piece ++ pieces_from (suc i) pieces ≡ join_with_byte 44 (piece ∷ pieces)
later_joined i piece [] = append-nil piece
later_joined i piece (next ∷ pieces) = ap (λ z. piece ++ 44 ∷ z) (later_joined (suc i) next pieces)

pub pieces_from-joined : (pieces : List (List ℕ)) → pieces_from 0 pieces ≡ join_with_byte 44 pieces
pieces_from-joined [] = refl
pieces_from-joined (piece ∷ pieces) = later_joined 0 piece pieces

-- pieces behind a head, with a tail behind them: none is written yet
pub head_written : (old new head tail : List ℕ) (pieces : List (List ℕ)) → new ≡ old ++ head
    → new ++ (pieces_from 0 pieces ++ tail) ≡ old ++ (head ++ (join_with_byte 44 pieces ++ tail))
head_written old new head tail pieces e =
    ap (λ z. z ++ (pieces_from 0 pieces ++ tail)) e
    ∙ (append_assoc old head (pieces_from 0 pieces ++ tail)
    ∙ ap (λ z. old ++ (head ++ (z ++ tail))) (pieces_from-joined pieces))

-- three parts, one after another
pub three_written : (old a b c first second third : List ℕ) → first ≡ old ++ a → second ≡ first ++ b → third ≡ second ++ c
    → third ≡ old ++ (a ++ (b ++ c))
three_written old a b c first second third e e' e'' =
    e'' ∙ (ap (λ z. z ++ c) (e' ∙ ap (λ z. z ++ b) e) ∙ (append_assoc (old ++ a) b c ∙ append_assoc old a (b ++ c)))

-- one part more of those that are still to be written
pub one_more : (text new part rest left whole : List ℕ) → new ≡ text ++ part → left ≡ part ++ rest → text ++ left ≡ whole → new ++ rest ≡ whole
one_more text new part rest left whole e split h =
    ap (λ z. z ++ rest) e ∙ (append_assoc text part rest ∙ (ap (λ z. text ++ z) (sym split) ∙ h))

-- four parts from nothing
pub four_written : (a b c d empty first second third fourth : List ℕ) → empty ≡ [] → first ≡ empty ++ a → second ≡ first ++ b → third ≡ second ++ c
    → fourth ≡ third ++ d → fourth ≡ a ++ (b ++ (c ++ d))
four_written a b c d empty first second third fourth none e e' e'' e''' =
    let one : first ≡ a = e ∙ ap (λ z. z ++ a) none in
    let rest : fourth ≡ first ++ (b ++ (c ++ d)) = three_written first b c d second third fourth e' e'' e''' in
    rest ∙ ap (λ z. z ++ (b ++ (c ++ d))) one
