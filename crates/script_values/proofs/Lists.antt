-- Lists that are filled up.
use Rattle.std.proofs.Common.{◌≡◌, ℕ, zero, suc, ◌+◌, ◌<◌, List, [], ◌∷◌, ◌++◌, length, take, drop, replicate, get_or, refl, sym, ap, subst, ◌∙◌, arith}
use Rattle.std.proofs.lemmas.List.{take_more, length-append, length-replicate, drop-drop, take-append-drop}
use Rattle.monomials.specs.Polynomials.{Each}
use Rattle.monomials.proofs.Keys.{Each-first}

module _ {X : Type 0} where
  get_or-nothing : (k n : ℕ) (d : X) → get_or (replicate n d) k d ≡ d
  get_or-nothing k zero d = refl
  get_or-nothing zero (suc n) d = refl
  get_or-nothing (suc k) (suc n) d = get_or-nothing k n d

  -- behind the elements of a list stands the one that is read where there is none
  get_or-filled : (xs : List X) (k n : ℕ) (d : X) → get_or (xs ++ replicate n d) k d ≡ get_or (drop k xs) 0 d
  get_or-filled [] zero n d = get_or-nothing zero n d
  get_or-filled [] (suc k) n d = get_or-nothing (suc k) n d
  get_or-filled (x ∷ xs) zero n d = refl
  get_or-filled (x ∷ xs) (suc k) n d = get_or-filled xs k n d

  -- one element more of a list that is filled up
  pub filled_more : (xs rest : List X) (k n : ℕ) (d x : X) (some : List X) → k < n → rest ≡ drop k xs → x ≡ get_or rest 0 d
      → some ≡ take k (xs ++ replicate n d) → some ++ x ∷ [] ≡ take (k + 1) (xs ++ replicate n d)
  filled_more xs rest k n d x some less e is so_far =
      let long : length (xs ++ replicate n d) ≡ length xs + n = length-append xs (replicate n d) ∙ ap (λ m. length xs + m) (length-replicate n d) in
      let next : x ≡ get_or (xs ++ replicate n d) k d = is ∙ ap (λ ys. get_or ys 0 d) e ∙ sym (get_or-filled xs k n d) in
      ap (λ ys. ys ++ x ∷ []) so_far ∙ ap (λ y. take k (xs ++ replicate n d) ++ y ∷ []) next
      ∙ sym (take_more (xs ++ replicate n d) k d (subst (λ m. k < m) (sym long) (omega (arith, less))))

  -- one element less
  pub drop_one : (xs rest after : List X) (k : ℕ) → rest ≡ drop k xs → after ≡ drop 1 rest → after ≡ drop (k + 1) xs
  drop_one xs rest after k e h = h ∙ ap (drop 1) e ∙ drop-drop 1 k xs

  -- ---- what holds of each

  pub Each-take : (P : X → Type 0) (k : ℕ) (xs : List X) → Each P xs → Each P (take k xs)
  Each-take P k xs h = Each-first P (take k xs) (drop k xs) (subst (Each P) (sym (take-append-drop k xs)) h)

  pub Each-replicate : (P : X → Type 0) (n : ℕ) (x : X) → P x → Each P (replicate n x)
  Each-replicate P zero x h = tt
  Each-replicate P (suc n) x h = (h, Each-replicate P n x h)
