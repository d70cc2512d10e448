-- How often variables occur in a monomial, with one variable more.
use Rattle.std.proofs.Common.{◌≡◌, ◌≢◌, ℕ, suc, ◌+◌, ◌-◌, ◌*◌, ◌≤◌, Bool, true, false, cond, ◌||◌, nat_eq, List, [], ◌∷◌, map, length, get_or, refl, sym, ap, ◌∙◌, arith}
use Rattle.std.specs.List.{list_any, range_with_len}
use Rattle.std.proofs.lemmas.Bool.Decides.{nat_tests}
use Rattle.monomials.specs.Monomials.{Monomial}
use Rattle.monomials.specs.ExtraRows.{mark}
use Rattle.monomials.specs.Rows.{weighted}
use Rattle.monomials.proofs.RowValues.{weighted-cons}
use Rattle.word_model.specs.Elimination.{occurrences}

-- those in a monomial whose first variable has number k
abbrev from : List ℕ → ℕ → Monomial → ℕ
from vars k m = weighted (map (mark vars) (range_with_len k (length m))) m

from-cons : (vars : List ℕ) (k x : ℕ) (m : Monomial) → from vars k (x ∷ m) ≡ mark vars k * x + from vars (k + 1) m
from-cons vars k x m = weighted-cons (mark vars k) x (map (mark vars) (range_with_len (k + 1) (length m))) m

of_none : (k : ℕ) (m : Monomial) → from [] k m ≡ 0
of_none k [] = refl
of_none k (x ∷ m) = from-cons [] k x m ∙ omega (arith, of_none (k + 1) m)

-- the exponent behind the first
behind_first : (x : ℕ) (m : Monomial) (k v : ℕ) → k + 1 ≤ v → get_or m (v - (k + 1)) 0 ≡ get_or (x ∷ m) (v - k) 0
behind_first x m k v le = let s : suc (v - (k + 1)) ≡ v - k = omega (arith, le) in ap (λ i. get_or (x ∷ m) i 0) s

skipped : (v : ℕ) (vs : List ℕ) (k : ℕ) (m : Monomial) → (k ≤ v → get_or m (v - k) 0 ≡ 0) → from (v ∷ vs) k m ≡ from vs k m
skipped v vs k [] none = refl
skipped v vs k (x ∷ m) none =
    from-cons (v ∷ vs) k x m
    ∙ (λ i. by (nat_eq v k) refl i + skipped v vs (k + 1) m (λ le. behind_first x m k v le ∙ none (omega (arith, le))) i)
    ∙ sym (from-cons vs k x m)
  where
    both : (a b : ℕ) → x ≡ 0 → a * x ≡ b * x
    both a b zero = ap (λ y. a * y) zero ∙ omega arith ∙ sym (ap (λ y. b * y) zero)

    by : (b : Bool) → nat_eq v k ≡ b → cond (b || list_any (λ u. nat_eq u k) vs) 1 0 * x ≡ mark vs k * x
    by true e =
        let place : v - k ≡ 0 = grind (arith, nat_tests, e) in
        let below : k ≤ v = grind (arith, nat_tests, e) in
        both 1 (mark vs k) (sym (ap (λ i. get_or (x ∷ m) i 0) place) ∙ none below)
    by false e = refl

found : (v : ℕ) (vs : List ℕ) (k : ℕ) (m : Monomial) → k ≤ v → get_or m (v - k) 0 ≢ 0 → 1 ≤ from (v ∷ vs) k m
found v vs k [] le some = absurd (some refl)
found v vs k (x ∷ m) le some = by (nat_eq v k) refl (found v vs (k + 1) m)
  where
    by : (b : Bool) → nat_eq v k ≡ b → (k + 1 ≤ v → get_or m (v - (k + 1)) 0 ≢ 0 → 1 ≤ from (v ∷ vs) (k + 1) m) → 1 ≤ from (v ∷ vs) k (x ∷ m)
    by true e later =
        let place : v - k ≡ 0 = grind (arith, nat_tests, e) in
        let one : mark (v ∷ vs) k ≡ 1 = ap (λ c. cond (c || list_any (λ u. nat_eq u k) vs) 1 0) e in
        let more : x ≢ 0 = λ zero. some (ap (λ i. get_or (x ∷ m) i 0) place ∙ zero) in
        omega (arith, from-cons (v ∷ vs) k x m, ap (λ a. a * x) one, more)
    by false e later =
        let next : k + 1 ≤ v = grind (arith, nat_tests, e, le) in
        omega (arith, from-cons (v ∷ vs) k x m, later next (λ zero. some (sym (behind_first x m k v next) ∙ zero)))

-- ---- from the first variable on

pub occurrences-none : (m : Monomial) → occurrences (length m) [] m ≡ 0
occurrences-none m = of_none 1 m

-- a variable that does not occur
pub occurrences-skipped : (v : ℕ) (vs : List ℕ) (m : Monomial) → get_or m (v - 1) 0 ≡ 0 → occurrences (length m) (v ∷ vs) m ≡ occurrences (length m) vs m
occurrences-skipped v vs m none = skipped v vs 1 m (λ le. none)

-- one that does
pub occurrences-found : (v : ℕ) (vs : List ℕ) (m : Monomial) → 1 ≤ v → get_or m (v - 1) 0 ≢ 0 → 1 ≤ occurrences (length m) (v ∷ vs) m
occurrences-found v vs m le some = found v vs 1 m le some
