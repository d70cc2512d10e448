-- A finished list is no longer than its basis.
use Rattle.std.proofs.Common.{◌≡◌, ℕ, suc, ◌≤◌, Bool, true, false, List, [], ◌∷◌, length, Option, Some, None, if◌then◌else◌, refl, ap, subst, arith}
use Rattle.std.specs.Ordering.{is_lt}
use Rattle.std.proofs.lemmas.List.{length-map}
use Rattle.monomials.specs.Leading.{leading_monomial}
use Rattle.monomials.specs.Orders.{order_cmp}
use Rattle.monomials.specs.Polynomials.{Polynomial}
use Rattle.word_model.specs.Words.{Algebra}
use Rattle.word_model.specs.Reduction.{Reduced, reduce_tail}
use Rattle.word_model.specs.Finished.{kept, Final, insert_final, with_final, finals_from, FinishedList, list_of, option_list, finished}
use Rattle.word_model.proofs.Kept.{length-kept}

length-insert_final : (A : Algebra) (x : Final) (L : List Final) → length (insert_final A x L) ≡ suc (length L)
length-insert_final A x [] = refl
length-insert_final A x (y ∷ L) = by (is_lt (order_cmp A.order.rows (leading_monomial x.polynomial) (leading_monomial y.polynomial))) (length-insert_final A x L)
  where
    by : (b : Bool) → length (insert_final A x L) ≡ suc (length L) → length (if b then x ∷ y ∷ L else y ∷ insert_final A x L) ≡ suc (suc (length L))
    by true ih = refl
    by false ih = ap suc ih

-- one element more
one_more : (A : Algebra) (i : ℕ) (r : Reduced) (L M : List Final) → with_final A i r (Some L) ≡ Some M → length M ≤ suc (length L)
one_more A i r L M e = by r.over e
  where
    x : Final
    x = record { polynomial = r.rest; origin = i; tail = r.trace }

    by : (over : Bool) → (if over then None else Some (insert_final A x L)) ≡ Some M → length M ≤ suc (length L)
    by true e = absurd cc
    by false e = let same : insert_final A x L ≡ M = cc in omega (arith, ap length same, length-insert_final A x L)

few_finals : (A : Algebra) (K : List Polynomial) (i : ℕ) (H : List Polynomial) (L : List Final) → finals_from A K i H ≡ Some L → length L ≤ length H
few_finals A K i [] L e = let same : [] ≡ L = cc in subst (λ (M : List Final). length M ≤ 0) same (omega arith)
few_finals A K i ([] ∷ H) L e = omega (arith, few_finals A K (suc i) H L e)
few_finals A K i ((t ∷ h) ∷ H) L e = by (finals_from A K (suc i) H) (few_finals A K (suc i) H) e
  where
    by : (o : Option (List Final)) → ((M : List Final) → o ≡ Some M → length M ≤ length H) → with_final A i (reduce_tail A K (t ∷ h)) o ≡ Some L → length L ≤ suc (length H)
    by None ih e = absurd cc
    by (Some M) ih e = omega (arith, ih M refl, one_more A i (reduce_tail A K (t ∷ h)) M L e)

pub short_list : (A : Algebra) (G : List Polynomial) (F : FinishedList) → finished A G ≡ Some F → length F.list ≤ length G
unfolding finished
short_list A G F e = by (finals_from A (kept G) 1 (kept G)) (few_finals A (kept G) 1 (kept G)) e
  where
    by : (o : Option (List Final)) → ((L : List Final) → o ≡ Some L → length L ≤ length (kept G)) → option_list o ≡ Some F → length F.list ≤ length G
    by None few e = absurd cc
    by (Some L) few e =
        let same : list_of L ≡ F = cc in
        omega (arith, few L refl, length-kept G, length-map L (λ (x : Final). x.polynomial), ap (λ (f : FinishedList). length f.list) same)
