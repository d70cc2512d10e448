-- Steps of the code that reads, as equations of lists.
use Rattle.std.proofs.Common.{◌≡◌, ℕ, ◌+◌, ◌-◌, ◌<◌, List, [], ◌∷◌, ◌++◌, length, map, drop, get_or, replicate, Bool, Option, refl, sym, ◌∙◌, ap, arith, inl, inr}
use Rattle.std.specs.Prelude.{option_and_then, position}
use Rattle.std.specs.List.{position_or_len}
use Rattle.std.proofs.lemmas.Bool.{cases_Bool}
use Rattle.std.proofs.lemmas.List.{at_drop_more, length-map, length-append, length-replicate}
use Rattle.std.proofs.lemmas.List.Sums.{sum_by-append, sum_by-cons}
use Rattle.monomials.specs.Monomials.{Monomial, degree, plus}
use Rattle.monomials.specs.Polynomials.{Each}
use Rattle.monomials.proofs.Exponents.{length-zip_with, degree-plus, sum-zeros}
use Rattle.plural_text.specs.Readings.{PolyTerm, power_of, times_factor, times_factors}

-- the first that passes, among the values of a function
position_or_len-map : {X Y : Type 0} (test : Y → Bool) (f : X → Y) (xs : List X) → position_or_len (λ x. test (f x)) xs ≡ position_or_len test (map f xs)
position_or_len-map test f [] = refl
position_or_len-map test f (x ∷ xs) =
    elim (cases_Bool (test (f x))) [
      | inl passes ↦ rw passes refl
      | inr fails ↦ rw fails (ap (λ n. 1 + n) (position_or_len-map test f xs))
    ]

pub position-map : {X Y : Type 0} (test : Y → Bool) (f : X → Y) (xs : List X) → position (λ x. test (f x)) xs ≡ position test (map f xs)
position-map test f xs = rw (position_or_len-map test f xs, length-map xs f) refl

-- one more factor
pub times_factors_more : (p : ℕ) (names : List (List ℕ)) (t : PolyTerm) (all : List (List ℕ)) (i : ℕ) (text : List ℕ) (r : Option PolyTerm)
    → i < length all → text ≡ get_or all i text → times_factor p names t text ≡ r
    → times_factors p names t (drop i all) ≡ option_and_then (λ u. times_factors p names u (drop (i + 1) all)) r
times_factors_more p names t all i text r within is times =
    at_drop_more (times_factors p names t) all i text within
    ∙ (ap (λ w. times_factors p names t (w ∷ drop (i + 1) all)) (sym is)
    ∙ ap (option_and_then (λ (u : PolyTerm). times_factors p names u (drop (i + 1) all))) times)

-- a power, as the exponent among zeros
pub power_of-zeros : (n k e : ℕ) → power_of n (k, e) ≡ replicate k 0 ++ (e ∷ replicate (n - k - 1) 0)
power_of-zeros n k e =
    let front : k + 1 - 1 ≡ k = omega arith in
    let back : n - (k + 1) ≡ n - k - 1 = omega arith in
    rw (front, back) refl

length-power_of : (n k e : ℕ) → k < n → length (power_of n (k, e)) ≡ n
length-power_of n k e h =
    ap length (power_of-zeros n k e)
    ∙ (length-append (replicate k 0) (e ∷ replicate (n - k - 1) 0)
    ∙ omega (arith, length-replicate {A = ℕ} k 0, length-replicate {A = ℕ} (n - k - 1) 0))

degree-power_of : (n k e : ℕ) → degree (power_of n (k, e)) ≡ e
degree-power_of n k e =
    ap degree (power_of-zeros n k e)
    ∙ (sum_by-append (λ x. x) (replicate k 0) (e ∷ replicate (n - k - 1) 0)
    ∙ omega (arith, sum-zeros k, sum-zeros (n - k - 1), sum_by-cons (λ x. x) e (replicate (n - k - 1) 0)))

-- a monomial times a power
pub length-times : (m : Monomial) (k e : ℕ) → k < length m → length (plus m (power_of (length m) (k, e))) ≡ length m
length-times m k e h = length-zip_with (λ x y. x + y) m (power_of (length m) (k, e)) (sym (length-power_of (length m) k e h))

pub degree-times : (m : Monomial) (k e : ℕ) → k < length m → degree (plus m (power_of (length m) (k, e))) ≡ degree m + e
degree-times m k e h =
    degree-plus m (power_of (length m) (k, e)) (sym (length-power_of (length m) k e h)) ∙ ap (λ n. degree m + n) (degree-power_of (length m) k e)

-- what each of a list has, each has with one more
pub each_more : {X : Type 0} (P : X → Type 0) (xs : List X) (x : X) → Each P xs → P x → Each P (xs ++ x ∷ [])
each_more P [] x h last = (last, tt)
each_more P (y ∷ xs) x h last = (h.0, each_more P xs x h.1 last)
