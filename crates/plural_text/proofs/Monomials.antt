-- The text of a monomial, a variable at a time.
use Rattle.std.proofs.Common.{◌≡◌, ℕ, zero, suc, ◌+◌, ◌<◌, Bool, true, false, List, [], ◌∷◌, ◌++◌, length, get_or, drop, refl, sym, ◌∙◌, ap, append_assoc, append-nil, arith}
use Rattle.std.specs.List.{join_with_byte}
use Rattle.std.proofs.lemmas.List.{drop_more}
use Rattle.monomials.specs.Monomials.{Monomial}
use Rattle.word_model.specs.Texts.{power_text, power_texts}

-- powers behind a text, with `*` in front of each
abbrev pub more_powers : List (List ℕ) → List ℕ
more_powers [] = []
more_powers (power ∷ powers) = 42 ∷ (power ++ more_powers powers)

-- powers behind a text, in which none stands yet or some do
abbrev pub powers_behind : Bool → List (List ℕ) → List ℕ
powers_behind true powers = join_with_byte 42 powers
powers_behind false powers = more_powers powers

-- the first power
pub join-first : (power : List ℕ) (powers : List (List ℕ)) → join_with_byte 42 (power ∷ powers) ≡ power ++ more_powers powers
join-first power [] = sym (append-nil power)
join-first power (next ∷ powers) = ap (λ z. power ++ 42 ∷ z) (join-first next powers)

-- the powers of the variables from a place on
abbrev pub powers_from : ℕ → List (List ℕ) → Monomial → List (List ℕ)
powers_from v names m = power_texts (drop v names) (drop v m)

-- a variable that does not occur
pub power_skipped : (names : List (List ℕ)) (m : Monomial) (v : ℕ) → v < length names → v < length m → get_or m v 0 ≡ 0
    → powers_from v names m ≡ powers_from (v + 1) names m
power_skipped names m v named there none = rw (drop_more names v [] named, drop_more m v 0 there, none) refl

-- a variable that occurs
pub power_next : (names : List (List ℕ)) (m : Monomial) (v e : ℕ) → v < length names → v < length m → get_or m v 0 ≡ e → 0 < e
    → powers_from v names m ≡ power_text (get_or names v []) e ∷ powers_from (v + 1) names m
power_next names m v zero named there is some = absurd (omega arith)
power_next names m v (suc e) named there is some = rw (drop_more names v [] named, drop_more m v 0 there, is) refl

-- a first power is written
pub first_written : (text text' power whole : List ℕ) (powers : List (List ℕ)) → text' ≡ text ++ power
    → text ++ powers_behind true (power ∷ powers) ≡ whole → text' ++ powers_behind false powers ≡ whole
first_written text text' power whole powers e h =
    rw e (append_assoc text power (more_powers powers) ∙ (ap (λ z. text ++ z) (sym (join-first power powers)) ∙ h))

-- one more is written
pub next_written : (text text' power whole : List ℕ) (powers : List (List ℕ)) → text' ≡ (text ++ 42 ∷ []) ++ power
    → text ++ powers_behind false (power ∷ powers) ≡ whole → text' ++ powers_behind false powers ≡ whole
next_written text text' power whole powers e h =
    rw (e, append_assoc (text ++ 42 ∷ []) power (more_powers powers), append_assoc text (42 ∷ []) (power ++ more_powers powers)) h
