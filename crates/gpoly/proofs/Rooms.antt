-- How many terms buckets have.
use Rattle.std.proofs.Common.{◌≡◌, ℕ, zero, suc, ◌+◌, ◌-◌, ◌%◌, ◌^◌, ◌<◌, ◌≤◌, List, [], ◌∷◌, ◌++◌, length, get_or, set, refl, sym, ap, subst, arith}
use Rattle.std.proofs.Common.{Ordering, Less, Equal, Greater}
use Rattle.std.proofs.lemmas.List.{length-set, length-append, get_or_default}
use Rattle.monomials.specs.Monomials.{Monomial}
use Rattle.monomials.specs.Polynomials.{Polynomial, cons_nonzero, insert_term, poly_add}
use Rattle.gpoly.specs.Sums.{HasRoom}
use Rattle.gpoly.specs.Inside.Spilling.{Fits, Takes}

cons_nonzero-longer : (c : ℕ) (m : Monomial) (f : Polynomial) → length (cons_nonzero c m f) ≤ suc (length f)
cons_nonzero-longer zero m f = omega arith
cons_nonzero-longer (suc c) m f = omega arith

module _ (cmp : Monomial → Monomial → Ordering) (p : ℕ) where
  insert_term-longer : (c : ℕ) (m : Monomial) (f : Polynomial) → length (insert_term cmp p c m f) ≤ suc (length f)
  insert_term-longer c m [] = cons_nonzero-longer (c % p) m []
  insert_term-longer c m (t ∷ f) = by (cmp m t.1) (insert_term-longer c m f)
    where
      by : (o : Ordering) → length (insert_term cmp p c m f) ≤ suc (length f)
          → length (elim o as (λ o. Polynomial) [
            | Greater ↦ cons_nonzero (c % p) m (t ∷ f)
            | Equal ↦ cons_nonzero ((c + t.0) % p) m f
            | Less ↦ t ∷ insert_term cmp p c m f
          ])
          ≤ suc (suc (length f))
      by Less h = omega (arith, h)
      by Equal h = omega (arith, cons_nonzero-longer ((c + t.0) % p) m f)
      by Greater h = cons_nonzero-longer (c % p) m (t ∷ f)

  -- a sum has no more terms than its parts
  pub poly_add-longer : (f g : Polynomial) → length (poly_add cmp p f g) ≤ length f + length g
  poly_add-longer [] g = omega arith
  poly_add-longer (t ∷ f) g = omega (arith, insert_term-longer t.0 t.1 (poly_add cmp p f g), poly_add-longer f g)

-- one more bucket without terms
pub get_or-more : (fs : List Polynomial) (j : ℕ) → get_or (fs ++ [] ∷ []) j [] ≡ get_or fs j []
get_or-more [] zero = refl
get_or-more [] (suc j) = refl
get_or-more (f ∷ fs) zero = refl
get_or-more (f ∷ fs) (suc j) = get_or-more fs j

pub HasRoom-more : (fs : List Polynomial) → length fs ≤ 13 → HasRoom fs → HasRoom (fs ++ [] ∷ [])
HasRoom-more fs few h = record {
  few = omega (arith, few, length-append fs ([] ∷ []));
  short = λ k l. subst (λ f. length f ≤ 4 ^ (k + 1)) (sym (get_or-more fs k)) (h.short k l);
}

-- what holds at each index, where an element is replaced
at_each-set : {X : Type 0} (P : ℕ → X → Type 0) (xs : List X) (k : ℕ) (x d : X) → ((j : ℕ) → P j (get_or xs j d)) → P k x
    → (j : ℕ) → P j (get_or (set xs k x) j d)
at_each-set P [] k x d h p j = h j
at_each-set P (y ∷ xs) zero x d h p zero = p
at_each-set P (y ∷ xs) zero x d h p (suc j) = h (suc j)
at_each-set P (y ∷ xs) (suc k) x d h p zero = h zero
at_each-set P (y ∷ xs) (suc k) x d h p (suc j) = at_each-set (λ i y. P (suc i) y) xs k x d (λ i. h (suc i)) p j

-- a bucket that is replaced by one that fits
pub HasRoom-set : (fs : List Polynomial) (k : ℕ) (f : Polynomial) → HasRoom fs → Fits k (length f) → HasRoom (set fs k f)
HasRoom-set fs k f h fits = record {
  few = omega (arith, h.few, length-set fs k f);
  short = at_each-set (λ j g. Fits j (length g)) fs k f [] h.short fits;
}

-- f is added to a bucket that has room for it
pub HasRoom-added : (cmp : Monomial → Monomial → Ordering) (p : ℕ) (fs : List Polynomial) (k : ℕ) (f d : Polynomial) → k < length fs → HasRoom fs
    → Fits k (length (get_or fs k []) + length f) → HasRoom (set fs k (poly_add cmp p (get_or fs k d) f))
HasRoom-added cmp p fs k f d inside h fits =
    let same : length (get_or fs k d) ≡ length (get_or fs k []) = ap length (get_or_default fs k d [] inside) in
    HasRoom-set fs k (poly_add cmp p (get_or fs k d) f) h (λ l. omega (arith, fits l, poly_add-longer cmp p (get_or fs k d) f, same))

-- a bucket goes into the next one, which has room for it
pub HasRoom-raised : (cmp : Monomial → Monomial → Ordering) (p : ℕ) (fs : List Polynomial) (k : ℕ) (d e : Polynomial) → k + 1 < length fs → HasRoom fs
    → Fits (k + 1) (length (get_or fs k []) + length (get_or fs (k + 1) []))
    → HasRoom (set (set fs (k + 1) (poly_add cmp p (get_or fs k d) (get_or fs (k + 1) e))) k [])
HasRoom-raised cmp p fs k d e inside h fits =
    let low : length (get_or fs k d) ≡ length (get_or fs k []) = ap length (get_or_default fs k d [] (omega (arith, inside))) in
    let high : length (get_or fs (k + 1) e) ≡ length (get_or fs (k + 1) []) = ap length (get_or_default fs (k + 1) e [] inside) in
    let sum : Polynomial = poly_add cmp p (get_or fs k d) (get_or fs (k + 1) e) in
    HasRoom-set (set fs (k + 1) sum) k []
    (HasRoom-set fs (k + 1) sum h (λ l. omega (arith, fits l, poly_add-longer cmp p (get_or fs k d) (get_or fs (k + 1) e), low, high)))
    (λ l. omega arith)

-- the bucket below one that takes what goes into it
pub Takes-below : (k n top : ℕ) (fs : List Polynomial) → k < top → Takes k n fs top
    → Fits ((top - 1) + 1) (length (get_or fs (top - 1) []) + length (get_or fs ((top - 1) + 1) []))
Takes-below k n top fs above h =
    let same : top ≡ (top - 1) + 1 = omega (arith, above) in
    subst (λ i. Fits i (length (get_or fs (top - 1) []) + length (get_or fs i []))) same (h.later (top - 1) (omega (arith, above)) same)
