-- The order of rows is total, tells any two monomials apart, and is kept by multiplying.
use Rattle.std.proofs.Common.{◌≡◌, ℕ, ◌+◌, List, [], ◌∷◌, length, refl, ap, ◌∙◌, arith, ℤ, pos, ◌+ℤ◌, ◌*ℤ◌}
use Rattle.std.proofs.Common.{Ordering, Less, Equal, Greater, nat_cmp, int_cmp}
use Rattle.std.specs.Ordering.{ordering_then}
use Rattle.std.specs.Cmp.{IsTotalOrder, then_total, on_total, int_cmp_total, nat_cmp_is}
use Rattle.std.specs.Cmp.Lexicographic.{slice_cmp, nat_list_cmp_total}
use Rattle.std.specs.FinMap.{slice_cmp-IsAntisymmetric, nat_cmp-IsAntisymmetric}
use borrow.Author.Differences.{ints}
use Rattle.monomials.specs.Monomials.{Monomial, plus}
use Rattle.monomials.specs.Orders.{row_value, rows_cmp, order_cmp}

always_tied_total : {K : Type 0} → IsTotalOrder {K = K} (λ x y. Equal)
always_tied_total = record { antisymm = λ x y. refl; trans = λ x y z h k. h; congr = λ x y z h. refl }

rows_cmp_total : (rows : List (List ℤ)) → IsTotalOrder (rows_cmp rows)
rows_cmp_total [] = always_tied_total
rows_cmp_total (r ∷ rows) = then_total (on_total (row_value r) int_cmp_total) (rows_cmp_total rows)

-- rows order all lists totally
pub order_cmp_total : (rows : List (List ℤ)) → IsTotalOrder (order_cmp rows)
order_cmp_total rows = then_total (rows_cmp_total rows) nat_list_cmp_total

-- equal lists alone tie in the order of entries
pub slice_cmp_tied : (a b : Monomial) → slice_cmp nat_cmp a b ≡ Equal → a ≡ b
slice_cmp_tied a b e = slice_cmp-IsAntisymmetric nat_cmp-IsAntisymmetric a b e

-- equal lists alone tie
pub order_cmp_tied : (rows : List (List ℤ)) (a b : Monomial) → order_cmp rows a b ≡ Equal → a ≡ b
order_cmp_tied rows a b e = slice_cmp_tied a b (second_tied (rows_cmp rows a b) (slice_cmp nat_cmp a b) e)
  where
    second_tied : (o r : Ordering) → ordering_then o r ≡ Equal → r ≡ Equal
    second_tied Less r e = cc
    second_tied Equal r e = e
    second_tied Greater r e = cc

-- multiples add up
pub times_sum : (r : ℤ) (x y : ℕ) → r *ℤ pos (x + y) ≡ (r *ℤ pos x) +ℤ (r *ℤ pos y)
times_sum r x y = omega (arith, ints)

regroup : (a b c d : ℤ) → (a +ℤ b) +ℤ (c +ℤ d) ≡ (a +ℤ c) +ℤ (b +ℤ d)
regroup a b c d = omega (arith, ints)

-- a row is additive
pub row_value-plus : (r : List ℤ) (a b : Monomial) → length a ≡ length b → row_value r (plus a b) ≡ row_value r a +ℤ row_value r b
row_value-plus [] a b e = refl
row_value-plus (z ∷ r) [] [] e = refl
row_value-plus (z ∷ r) [] (y ∷ b) e = absurd (omega arith)
row_value-plus (z ∷ r) (x ∷ a) [] e = absurd (omega arith)
row_value-plus (z ∷ r) (x ∷ a) (y ∷ b) e =
    let h : length a ≡ length b = omega arith in
    ap (λ v. v +ℤ row_value r (plus a b)) (times_sum z x y)
    ∙ ap (λ v. ((z *ℤ pos x) +ℤ (z *ℤ pos y)) +ℤ v) (row_value-plus r a b h)
    ∙ regroup (z *ℤ pos x) (z *ℤ pos y) (row_value r a) (row_value r b)

-- adding one number keeps the order of integers
pub int_cmp-add : (x y z : ℤ) → int_cmp (x +ℤ z) (y +ℤ z) ≡ int_cmp x y
int_cmp-add x y z = grind (arith, ints)

nat_cmp-add : (x y z : ℕ) → nat_cmp (x + z) (y + z) ≡ nat_cmp x y
nat_cmp-add x y z = grind (arith, nat_cmp_is)

-- multiplying by one monomial keeps what the rows say
pub rows_cmp-plus : (rows : List (List ℤ)) (a b c : Monomial) → length a ≡ length c → length b ≡ length c
    → rows_cmp rows (plus a c) (plus b c) ≡ rows_cmp rows a b
rows_cmp-plus [] a b c ea eb = refl
rows_cmp-plus (r ∷ rows) a b c ea eb =
    let first : int_cmp (row_value r (plus a c)) (row_value r (plus b c)) ≡ int_cmp (row_value r a) (row_value r b) =
    ap (λ v. int_cmp v (row_value r (plus b c))) (row_value-plus r a c ea)
    ∙ ap (λ v. int_cmp (row_value r a +ℤ row_value r c) v) (row_value-plus r b c eb)
    ∙ int_cmp-add (row_value r a) (row_value r b) (row_value r c) in
    λ i. ordering_then (first i) (rows_cmp-plus rows a b c ea eb i)

slice_cmp-plus : (a b c : Monomial) → length a ≡ length c → length b ≡ length c
    → slice_cmp nat_cmp (plus a c) (plus b c) ≡ slice_cmp nat_cmp a b
slice_cmp-plus [] [] c ea eb = refl
slice_cmp-plus [] (y ∷ b) [] ea eb = absurd (omega arith)
slice_cmp-plus [] (y ∷ b) (z ∷ c) ea eb = absurd (omega arith)
slice_cmp-plus (x ∷ a) b [] ea eb = absurd (omega arith)
slice_cmp-plus (x ∷ a) [] (z ∷ c) ea eb = absurd (omega arith)
slice_cmp-plus (x ∷ a) (y ∷ b) (z ∷ c) ea eb =
    let ha : length a ≡ length c = omega arith in
    let hb : length b ≡ length c = omega arith in
    λ i. ordering_then (nat_cmp-add x y z i) (slice_cmp-plus a b c ha hb i)

-- the order is kept where both sides are multiplied by one monomial
pub order_cmp-plus : (rows : List (List ℤ)) (a b c : Monomial) → length a ≡ length c → length b ≡ length c
    → order_cmp rows (plus a c) (plus b c) ≡ order_cmp rows a b
order_cmp-plus rows a b c ea eb i = ordering_then (rows_cmp-plus rows a b c ea eb i) (slice_cmp-plus a b c ea eb i)
