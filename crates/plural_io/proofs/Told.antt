-- Bytes that are told or not: what was read and written so far, and then some more.
use Rattle.std.proofs.Common.{◌≡◌, ℕ, ◌+◌, ◌≤◌, ◌<◌, Option, Some, None, List, ◌++◌, take, drop, length, refl, sym, ◌∙◌, ap}
use Rattle.std.proofs.lemmas.List.{take_at, take-append-drop, append_assoc, length-append, length-take-le}
use Rattle.std.proofs.Math.Seq.{take-add}
use Rattle.plural_io.specs.Reads.{in_front, behind_all, HasNext}

-- bytes in front of bytes in front
pub in_front-in_front : (xs ys : List ℕ) (told : Option (List ℕ)) →
    in_front xs (in_front ys told) ≡ in_front (xs ++ ys) told
in_front-in_front xs ys None = refl
in_front-in_front xs ys (Some bytes) = ap (λ z. Some z) (sym (append_assoc xs ys bytes))

-- bytes behind bytes behind
pub behind_all-behind_all : (told : Option (List ℕ)) (xs ys : List ℕ) →
    behind_all (behind_all told xs) ys ≡ behind_all told (xs ++ ys)
behind_all-behind_all None xs ys = refl
behind_all-behind_all (Some bytes) xs ys = ap (λ z. Some z) (append_assoc bytes xs ys)

-- reading on: xs was read, and then n bytes into a buffer, which are that many more
pub read_on : (a b c : Option (List ℕ)) (xs buf : List ℕ) (n room : ℕ) →
    a ≡ in_front xs b → HasNext n room buf b c → n ≤ length buf →
    (front : List ℕ) × (length front ≡ length xs + n) × (a ≡ in_front front c)
read_on a b c xs buf n room first read fits = (
  xs ++ take n buf,
  length-append xs (take n buf) ∙ ap (λ z. length xs + z) (length-take-le n buf fits),
  first ∙ (ap (λ z. in_front xs z) read.next ∙ in_front-in_front xs (take n buf) c),
)

-- writing on: the first i bytes, and then n of the rest
pub wrote_on : (a b c : Option (List ℕ)) (bytes : List ℕ) (i n : ℕ) →
    b ≡ behind_all a (take i bytes) → c ≡ behind_all b (take n (drop i bytes)) →
    c ≡ behind_all a (take (i + n) bytes)
wrote_on a b c bytes i n first next =
    next ∙ (ap (λ z. behind_all z (take n (drop i bytes))) first
    ∙ (behind_all-behind_all a (take i bytes) (take n (drop i bytes)) ∙ ap (λ z. behind_all a z) (sym (take-add i n bytes))))

-- a buffer that begins with the first n bytes left begins with the next bytes
pub has_next : (left before after piece more : List ℕ) (n room : ℕ) →
    before ≡ left → after ≡ drop n left → piece ≡ take n left →
    n ≤ length left → n ≤ room → (0 < room → 0 < n) →
    HasNext n room (piece ++ more) (Some before) (Some after)
has_next left before after piece more n room is rests begins fits within some = record {
  some = some;
  within = within;
  next =
      let front : take n (piece ++ more) ≡ take n left = take_at piece more n (ap length begins ∙ length-take-le n left fits) ∙ begins in
      ap (λ z. Some z) (is ∙ (sym (take-append-drop n left) ∙ cc));
}
