-- Lists place by place.
use Rattle.std.proofs.Common.{◌≡◌, ℕ, zero, suc, ◌+◌, ◌-◌, ◌≤◌, ◌<◌, nat_le, IsTrue, List, [], ◌∷◌, length, replicate, ◌++◌, sum, take, get_or, arith, refl, sym, ap, inl, inr}
use Rattle.std.specs.Bool.{Decides}
use Rattle.std.proofs.Math.ListN.{set}
use Rattle.std.proofs.lemmas.Bool.{and_parts, and_from, leb-true, le-leb, cases_lt}
use Rattle.std.proofs.lemmas.List.{get_or_past, get_or-replicate, length-replicate, take-replicate}
use Rattle.std.proofs.lemmas.List.Sums.{sum_by-cons}
use Rattle.std.proofs.lemmas.List.Folds.{sum_by-replicate}
use Rattle.monomials.specs.Monomials.{Monomial, degree, plus, minus, zip_with, divides}

module _ (f : ℕ → ℕ → ℕ) where
  -- two lists of one length give as long a list
  pub length-zip_with : (xs ys : List ℕ) → length xs ≡ length ys → length (zip_with f xs ys) ≡ length xs
  length-zip_with [] ys e = refl
  length-zip_with (x ∷ xs) [] e = sym e
  length-zip_with (x ∷ xs) (y ∷ ys) e = ap suc (length-zip_with xs ys (omega arith))

  -- the value of `f` at a place
  pub get_or-zip_with : (xs ys : List ℕ) (k : ℕ) → length xs ≡ length ys → k < length xs →
      get_or (zip_with f xs ys) k 0 ≡ f (get_or xs k 0) (get_or ys k 0)
  get_or-zip_with [] ys k e h = absurd (omega arith)
  get_or-zip_with (x ∷ xs) [] k e h = absurd (omega arith)
  get_or-zip_with (x ∷ xs) (y ∷ ys) zero e h = refl
  get_or-zip_with (x ∷ xs) (y ∷ ys) (suc k) e h = get_or-zip_with xs ys k (omega arith) (omega arith)

  -- the front is made of the fronts
  pub take-zip_with : (n : ℕ) (xs ys : List ℕ) → take n (zip_with f xs ys) ≡ zip_with f (take n xs) (take n ys)
  take-zip_with zero xs ys = refl
  take-zip_with (suc n) [] ys = refl
  take-zip_with (suc n) (x ∷ xs) [] = refl
  take-zip_with (suc n) (x ∷ xs) (y ∷ ys) = ap (λ zs. f x y ∷ zs) (take-zip_with n xs ys)

  -- an `f` of at most the sum adds up to at most the sums
  pub sum-zip_with-le : (xs ys : List ℕ) → ((x y : ℕ) → f x y ≤ x + y) → sum (zip_with f xs ys) ≤ sum xs + sum ys
  sum-zip_with-le [] ys h = omega arith
  sum-zip_with-le (x ∷ xs) [] h = omega arith
  sum-zip_with-le (x ∷ xs) (y ∷ ys) h =
      omega (
        arith,
        h x y,
        sum-zip_with-le xs ys h,
        sum_by-cons (λ x. x) x xs,
        sum_by-cons (λ x. x) y ys,
        sum_by-cons (λ x. x) (f x y) (zip_with f xs ys),
      )

-- the degree of a product is the sum of the degrees
pub degree-plus : (a b : Monomial) → length a ≡ length b → degree (plus a b) ≡ degree a + degree b
degree-plus [] [] e = refl
degree-plus [] (y ∷ b) e = absurd (omega arith)
degree-plus (x ∷ a) [] e = absurd (omega arith)
degree-plus (x ∷ a) (y ∷ b) e =
    omega (
      arith,
      degree-plus a b (omega arith),
      sum_by-cons (λ x. x) x a,
      sum_by-cons (λ x. x) y b,
      sum_by-cons (λ x. x) (x + y) (plus a b),
    )

-- the first divides the second where no exponent of it is greater
pub divides_decides : (xs ys : List ℕ) → length xs ≡ length ys → Decides (divides xs ys) ((k : ℕ) → get_or xs k 0 ≤ get_or ys k 0)
divides_decides [] ys e = (λ h k. omega arith, λ h. refl)
divides_decides (x ∷ xs) [] e = absurd (omega arith)
divides_decides (x ∷ xs) (y ∷ ys) e =
    let ih : Decides (divides xs ys) ((k : ℕ) → get_or xs k 0 ≤ get_or ys k 0) = divides_decides xs ys (omega arith) in (
      λ h. at_each (leb-true x y (and_parts _ _ h).0) (ih.0 (and_parts (nat_le x y) _ h).1),
      λ h. and_from _ _ (le-leb x y (h 0)) (ih.1 (λ k. h (suc k))),
    )
  where
    at_each : x ≤ y → ((k : ℕ) → get_or xs k 0 ≤ get_or ys k 0) → (k : ℕ) → get_or (x ∷ xs) k 0 ≤ get_or (y ∷ ys) k 0
    at_each h t zero = h
    at_each h t (suc k) = t k

-- zeros at every place, also past the end
pub get_or-zeros : (n k : ℕ) → get_or {A = ℕ} (replicate n 0) k 0 ≡ 0
get_or-zeros n k =
    elim (cases_lt k n) [
      | inl below ↦ get_or-replicate n k 0 0 below
      | inr past ↦ get_or_past (replicate n 0) k 0 (omega (arith, length-replicate {A = ℕ} n 0))
    ]

-- zeros sum to zero
pub sum-zeros : (n : ℕ) → sum (replicate n 0) ≡ 0
sum-zeros n = omega (arith, sum_by-replicate (λ x. x) n 0)

-- a place is at most the sum
pub place-le_sum : (xs : List ℕ) (k : ℕ) → get_or xs k 0 ≤ sum xs
place-le_sum [] k = omega arith
place-le_sum (x ∷ xs) zero = omega (arith, sum_by-cons (λ x. x) x xs)
place-le_sum (x ∷ xs) (suc k) = omega (arith, sum_by-cons (λ x. x) x xs, place-le_sum xs k)

-- the degree of a quotient
pub degree-minus : (a b : Monomial) → length a ≡ length b → IsTrue (divides b a) → degree (minus a b) + degree b ≡ degree a
degree-minus [] [] e h = refl
degree-minus [] (y ∷ b) e h = absurd (omega arith)
degree-minus (x ∷ a) [] e h = absurd (omega arith)
degree-minus (x ∷ a) (y ∷ b) e h =
    omega (
      arith,
      leb-true y x (and_parts _ (divides b a) h).0,
      degree-minus a b (omega arith) (and_parts (nat_le y x) _ h).1,
      sum_by-cons (λ x. x) x a,
      sum_by-cons (λ x. x) y b,
      sum_by-cons (λ x. x) (x - y) (minus a b),
    )

-- a 1 among zeros
pub take-set_zeros : (n k m : ℕ) → k < n → n ≤ m → take {A = ℕ} n (set (replicate m 0) k 1) ≡ replicate k 0 ++ (1 ∷ replicate (n - suc k) 0)
take-set_zeros zero k m h le = absurd (omega arith)
take-set_zeros (suc n) k zero h le = absurd (omega arith)
take-set_zeros (suc n) zero (suc m) h le =
    let e : suc n - 1 ≡ n = omega arith in rw e (ap (λ z. 1 ∷ z) (take-replicate n m 0 (omega arith)))
take-set_zeros (suc n) (suc k) (suc m) h le =
    let e : suc n - suc (suc k) ≡ n - suc k = omega arith in
    rw e (ap (λ z. 0 ∷ z) (take-set_zeros n k m (omega arith) (omega arith)))
