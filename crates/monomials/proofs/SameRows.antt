-- When rows that code keeps have the same entries.
use Rattle.std.proofs.Common.{◌≡◌, ◌↔◌, ℕ, zero, suc, ◌+◌, ◌-◌, ◌≤◌, ◌<◌, Bool, true, false, List, [], ◌∷◌, ◌++◌, length, map, replicate, take, get_or, set, arith, refl, sym, ◌∙◌, ap, ◌⊎◌, inl, inr, ℤ, pos, negsuc}
use Rattle.std.specs.List.{list_any}
use Rattle.std.proofs.lemmas.List.{map-append, map_push, length-map, get_or-map, take_more}
use Rattle.monomials.specs.Orders.{RowOrder}
use Rattle.monomials.specs.Blocks.{row_of}
use Rattle.monomials.specs.Rows.{row_entries, IsWithin, falls, signed, kept_order}
use Rattle.monomials.specs.declared.order.Order.TheInside.{Inside}
use Rattle.monomials.specs.declared.row.Row.{Row}
use Rattle.monomials.specs.declared.row.Row.TheVariants.{Weights, Rising, Falling}
use Rattle.monomials.proofs.Exponents.{take-set_zeros}
use Rattle.monomials.proofs.GradedRows.{map-replicate}

-- ---- the sign of a row

is_negative : ℤ → Bool
is_negative (pos n) = false
is_negative (negsuc n) = true

any_negative : List ℤ → Bool
any_negative r = list_any is_negative r

none_negative : (xs : List ℕ) → any_negative (map pos xs) ≡ false
unfolding any_negative is_negative
none_negative [] = refl
none_negative (x ∷ xs) = none_negative xs

zeros_positive : (n : ℕ) → any_negative (replicate n (pos 0)) ≡ false
unfolding any_negative is_negative
zeros_positive zero = refl
zeros_positive (suc n) = zeros_positive n

rising_positive : (at n : ℕ) → any_negative (replicate at (pos 0) ++ (pos 1 ∷ replicate n (pos 0))) ≡ false
unfolding any_negative is_negative
rising_positive zero n = zeros_positive n
rising_positive (suc at) n = rising_positive at n

falling_negative : (at n : ℕ) → any_negative (replicate at (pos 0) ++ (negsuc 0 ∷ replicate n (pos 0))) ≡ true
unfolding any_negative is_negative
falling_negative zero n = refl
falling_negative (suc at) n = falling_negative at n

falls_is : (n : ℕ) (r : Row) → any_negative (row_entries n r) ≡ falls r
falls_is n (Weights weights) = none_negative (take n weights)
falls_is n (Rising place) = rising_positive place (n - (place + 1))
falls_is n (Falling place) = falling_negative place (n - (place + 1))

-- rows of the same entries have one sign
pub falls_same : (n : ℕ) (r s : Row) → row_entries n r ≡ row_entries n s → falls r ≡ falls s
falls_same n r s e = sym (falls_is n r) ∙ (ap any_negative e ∙ falls_is n s)

-- ---- entries without their sign

size : ℤ → ℕ
size (pos n) = n
size (negsuc n) = suc n

size-signed : (b : Bool) (k : ℕ) → size (signed b k) ≡ k
unfolding size
size-signed true zero = refl
size-signed true (suc k) = refl
size-signed false k = refl

sizes-signed : (b : Bool) (xs : List ℕ) → map size (map (signed b) xs) ≡ xs
sizes-signed b [] = refl
sizes-signed b (x ∷ xs) = λ i. size-signed b x i ∷ sizes-signed b xs i

-- rows of one sign have the same entries where these are the same without their sign
pub entries_same : (n : ℕ) (r s : Row) (xs ys : List ℕ) → row_entries n r ≡ map (signed (falls r)) (take n xs) →
    row_entries n s ≡ map (signed (falls s)) (take n ys) → falls r ≡ falls s →
    (take n xs ≡ take n ys) ↔ (row_entries n r ≡ row_entries n s)
entries_same n r s xs ys er es f = (
  λ e. er ∙ ((λ i. map (signed (f i)) (e i)) ∙ sym es),
  λ e.
      sym (sizes-signed (falls r) (take n xs))
      ∙ (ap (λ zs. map size zs) (sym er ∙ (e ∙ es)) ∙ sizes-signed (falls s) (take n ys)),
)

signed-zero : (b : Bool) → signed b 0 ≡ pos 0
signed-zero true = refl
signed-zero false = refl

-- a row of one entry
pub one_entry : (b : Bool) (n place : ℕ) → place < n → n ≤ 16 → row_of (signed b 1) n place 1 ≡ map (signed b) (take n (set (replicate 16 0) place 1))
one_entry b n place here few =
    let f : ℕ → ℤ = signed b in
    let m : n - (place + 1) ≡ n - suc place = omega arith in
    let zeros : (k : ℕ) → replicate k (pos 0) ≡ map f (replicate k 0) = λ k. sym (map-replicate f k 0 ∙ ap (λ z. replicate k z) (signed-zero b)) in
    (λ i. zeros place i ++ (signed b 1 ∷ zeros (n - (place + 1)) i))
    ∙ (sym (map-append f (replicate place 0) (1 ∷ replicate (n - (place + 1)) 0))
    ∙ (ap (λ k. map f (replicate place 0 ++ (1 ∷ replicate k 0))) m
    ∙ ap (λ zs. map f zs) (sym (take-set_zeros n place 16 here few))))

pub one_entry_of : (r : Row) (n place : ℕ) → (r ≡ Rising place) ⊎ (r ≡ Falling place) → n ≤ 16 → IsWithin n r →
    row_entries n r ≡ map (signed (falls r)) (take n (set (replicate 16 0) place 1))
one_entry_of r n place (inl is) few within =
    let h : place < n = rw is at within in
    rw is (one_entry false n place h few)
one_entry_of r n place (inr is) few within =
    let h : place < n = rw is at within in
    rw is (one_entry true n place h few)

-- a row within n variables is one within sixteen
pub within_more : (n : ℕ) (r : Row) → n ≤ 16 → IsWithin n r → IsWithin 16 r
within_more n (Weights weights) few h = tt
within_more n (Rising place) few h = omega arith
within_more n (Falling place) few h = omega arith

-- ---- lists of rows

module _ {X Y : Type 0} (f : X → Y) (d : X) where
  -- the images are the same so far
  pub map_more : (xs ys : List X) (i : ℕ) → i < length xs → length xs ≡ length ys → map f (take i xs) ≡ map f (take i ys) →
      f (get_or xs i d) ≡ f (get_or ys i d) → map f (take (i + 1) xs) ≡ map f (take (i + 1) ys)
  map_more xs ys i l e h same =
      ap (λ zs. map f zs) (take_more xs i d l)
      ∙ (map_push f (take i xs) (get_or xs i d)
      ∙ ((λ j. h j ++ same j ∷ [])
      ∙ (sym (map_push f (take i ys) (get_or ys i d)) ∙ sym (ap (λ zs. map f zs) (take_more ys i d (omega arith))))))

  -- the same images have the same length
  pub map_length : (xs ys : List X) → map f xs ≡ map f ys → length xs ≡ length ys
  map_length xs ys e = sym (length-map xs f) ∙ (ap (λ zs. length zs) e ∙ length-map ys f)

  -- and are the same at each place
  pub map_at : (xs ys : List X) (i : ℕ) → map f xs ≡ map f ys → i < length xs → f (get_or xs i d) ≡ f (get_or ys i d)
  map_at xs ys i e l =
      let m : length xs ≡ length ys = map_length xs ys e in
      sym (get_or-map f xs i d (f d) l) ∙ (ap (λ zs. get_or zs i (f d)) e ∙ get_or-map f ys i d (f d) (omega arith))

-- orders of the same variables are equal where their rows have the same entries
pub orders_same : (o o' : Inside) (a b : RowOrder) → kept_order o ≡ a → kept_order o' ≡ b → o.vars ≡ o'.vars →
    (map (row_entries o.vars) o.rows.items ≡ map (row_entries o.vars) o'.rows.items) ↔ (a ≡ b)
orders_same o o' a b va vb e =
    let moved : map (row_entries o.vars) o'.rows.items ≡ map (row_entries o'.vars) o'.rows.items =
    ap (λ n. map (row_entries n) o'.rows.items) e in (
      λ h.
          let rows : map (row_entries o.vars) o.rows.items ≡ map (row_entries o'.vars) o'.rows.items = h ∙ moved in
          let same : kept_order o ≡ kept_order o' = λ i. record { vars = e i; rows = rows i } in
          sym va ∙ (same ∙ vb),
      λ h. ap (λ (x : RowOrder). x.rows) (va ∙ (h ∙ sym vb)) ∙ sym moved,
    )
