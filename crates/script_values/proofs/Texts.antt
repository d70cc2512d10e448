-- Texts that are written in parts.
use Rattle.std.proofs.Common.{◌≡◌, ℕ, List, ◌++◌, length, take, drop, Result, Ok, Err, OnErr, sym, ap, subst, ◌∙◌, append_assoc}
use Rattle.std.proofs.lemmas.List.{take-append-drop}
use Rattle.std.proofs.Math.Seq.{take-length, take-append_seam}
use Rattle.std.specs.Io.{StartsWith}

-- three parts, of which each has two
pub six_written : (old a b c d e f first second third : List ℕ) → first ≡ old ++ (a ++ b) → second ≡ first ++ (c ++ d) → third ≡ second ++ (e ++ f)
    → third ≡ old ++ (a ++ (b ++ (c ++ (d ++ (e ++ f)))))
six_written old a b c d e f first second third p q r =
    r ∙ ap (λ z. z ++ (e ++ f)) (q ∙ ap (λ z. z ++ (c ++ d)) p)
    ∙ append_assoc (old ++ (a ++ b)) (c ++ d) (e ++ f)
    ∙ append_assoc old (a ++ b) ((c ++ d) ++ (e ++ f))
    ∙ ap (λ z. old ++ z) (append_assoc a b ((c ++ d) ++ (e ++ f)) ∙ ap (λ z. a ++ (b ++ z)) (append_assoc c d (e ++ f)))

-- a text starts with itself
pub starts_same : (old new : List ℕ) → new ≡ old → StartsWith new old
starts_same old new e = subst (λ (t : List ℕ). StartsWith t old) (sym e) (take-length old)

-- what starts with a text that was appended to starts with what stood there before
pub starts_before : (old more mid new : List ℕ) → mid ≡ old ++ more → StartsWith new mid → StartsWith new old
starts_before old more mid new e s =
    let rest = drop (length mid) new in
    let whole : new ≡ old ++ (more ++ rest) =
    sym (take-append-drop (length mid) new) ∙ ap (λ t. t ++ rest) (s ∙ e) ∙ append_assoc old more rest in
    ap (λ t. take (length old) t) whole ∙ take-append_seam old (more ++ rest)

-- what holds anyway holds where a call fails
pub on_any_err : {T E P : Type 0} (r : Result T E) → P → OnErr r P
on_any_err (Ok x) p = tt
on_any_err (Err e) p = p
