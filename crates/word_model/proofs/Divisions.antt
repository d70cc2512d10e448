-- Quotients: of numbers modulo p, and of monomials.
use Rattle.std.proofs.Common.{◌≡◌, ℕ, zero, suc, ◌+◌, ◌-◌, ◌*◌, ◌%◌, ◌<◌, ◌≤◌, ◌⊎◌, inl, inr, nat_le, ◌==◌, Bool, true, false, [], ◌∷◌, length, if◌then◌else◌, refl, sym, ap, ◌∙◌, arith, mod-lt}
use Rattle.std.proofs.Math.Nat.{mod-eq_of_lt}
use Rattle.std.proofs.lemmas.Bool.{and_parts, leb-true}
use Rattle.std.proofs.lemmas.Bool.Decides.{nat_tests}
use Rattle.prime_field.specs.Modular.{inverse, inverse_from}
use Rattle.monomials.specs.Monomials.{Monomial, plus, minus, divides}
use Rattle.monomials.proofs.Modulo.{Same, same_refl, same_rest, same_mul, same_mul_right}
use Rattle.monomials.proofs.Exponents.{length-zip_with}
use Rattle.word_model.specs.Conditions.{NonZero, IsField}
use Rattle.word_model.specs.Reduction.{quotient}
use Rattle.word_model.proofs.LeastNumbers.{here_or_later}

-- ---- numbers

-- where one of the k numbers from b on has the product 1 with a, the search for it finds such a number
inverse_from-meets : (p a b k c : ℕ) → b ≤ c → c < b + k → (a * c) % p ≡ 1 → (a * inverse_from p a b k) % p ≡ 1
inverse_from-meets p a b zero c low high e = absurd (omega arith)
inverse_from-meets p a b (suc k) c low high e = by ((a * b) % p == 1) refl (here_or_later b c low) (inverse_from-meets p a (suc b) k c)
  where
    by : (found : Bool) → ((a * b) % p == 1) ≡ found → (b ≡ c) ⊎ (suc b ≤ c)
        → (suc b ≤ c → c < suc b + k → (a * c) % p ≡ 1 → (a * inverse_from p a (suc b) k) % p ≡ 1)
        → (a * (if found then b else inverse_from p a (suc b) k)) % p ≡ 1
    by true t place ih = grind (arith, nat_tests, t)
    by false t (inl here) ih = absurd (let one : (a * b) % p ≡ 1 = ap (λ x. (a * x) % p) here ∙ e in grind (arith, nat_tests, t, one))
    by false t (inr later) ih = ih later (omega arith) e

-- the inverse of a number that is not zero
pub inverse-is : (p a : ℕ) → IsField p → NonZero p a → Same p (a * inverse p a) 1
unfolding inverse
inverse-is p a field nonzero =
    let unit : (b : ℕ) × ((b * a) % p ≡ 1 % p) = field.unit a nonzero in
    let one : 1 % p ≡ 1 = mod-eq_of_lt field.more in
    let turned : a * (unit.0 % p) ≡ (unit.0 % p) * a = omega arith in
    let meets : (a * (unit.0 % p)) % p ≡ 1 = same_refl p _ _ turned ∙ same_mul_right p a (unit.0 % p) unit.0 (same_rest p unit.0) ∙ unit.1 ∙ one in
    let more : 1 < p = field.more in
    let below : unit.0 % p < p = mod-lt unit.0 (omega arith) in
    inverse_from-meets p a 0 p (unit.0 % p) (omega arith) (omega (arith, below)) meets ∙ sym one

-- the quotient by a number that is not zero, times that number
pub quotient-times : (p a b : ℕ) → IsField p → NonZero p b → Same p (quotient p a b * b) a
quotient-times p a b field nonzero =
    same_mul_right p b (quotient p a b) (a * inverse p b) (same_rest p (a * inverse p b))
    ∙ same_refl p ((a * inverse p b) * b) (a * (b * inverse p b)) (omega arith)
    ∙ same_mul p a (b * inverse p b) 1 (inverse-is p b field nonzero)
    ∙ same_refl p (a * 1) a (omega arith)

-- ---- monomials

-- a quotient has as many exponents
pub length-minus : (a b : Monomial) → length a ≡ length b → length (minus a b) ≡ length a
length-minus a b e = length-zip_with (λ x y. x - y) a b e

-- the quotient by a divisor, times the divisor
pub plus-minus : (a b : Monomial) → length a ≡ length b → divides b a ≡ true → plus (minus a b) b ≡ a
plus-minus [] b e d = refl
plus-minus (x ∷ a) [] e d = absurd (omega arith)
plus-minus (x ∷ a) (y ∷ b) e d =
    let le : y ≤ x = leb-true y x (and_parts (nat_le y x) (divides b a) d).0 in
    let first : x - y + y ≡ x = omega arith in
    λ i. first i ∷ plus-minus a b (omega arith) (and_parts (nat_le y x) (divides b a) d).1 i
