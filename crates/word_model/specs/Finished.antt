-- The finished list of a basis: what is left of it when no element is needed less, and all tails are reduced.
use Rattle.std.specs.Prelude.{ℕ, suc, Bool, ◌&&◌, ◌||◌, not, ◌==◌, nat_lt, List, [], ◌∷◌, length, map, Option, Some, None, is_none, if◌then◌else◌}
use Rattle.std.specs.Ordering.{is_lt}
use Rattle.monomials.specs.Monomials.{divides}
use Rattle.monomials.specs.Orders.{order_cmp}
use Rattle.monomials.specs.Polynomials.{Polynomial}
use Rattle.monomials.specs.Leading.{leading_monomial}
use Rattle.word_model.specs.Words.{Algebra}
use Rattle.word_model.specs.Reduction.{element, least_number, lead_divides, Reduced, reduce_tail}
use Rattle.word_model.specs.declared.records.TraceStep.{TraceStep}

-- whether the element of number j makes that of number i needless: its leading monomial divides the other's, and where
-- the two are equal it is the earlier
abbrev pub displaces : List Polynomial → ℕ → ℕ → Bool
displaces G i j =
    not (i == j) && lead_divides (element G j) (leading_monomial (element G i))
    && (nat_lt j i || not (divides (leading_monomial (element G i)) (leading_monomial (element G j))))

-- whether the element of number i is kept
abbrev pub is_kept : List Polynomial → ℕ → Bool
is_kept G i = is_none (least_number (displaces G i) 1 (length G))

-- the elements H from number i on, with zero in place of those that are not kept
abbrev pub kept_from : List Polynomial → ℕ → List Polynomial → List Polynomial
kept_from G i [] = []
kept_from G i (g ∷ H) = (if is_kept G i then g else []) ∷ kept_from G (suc i) H

-- The kept elements of a basis, each at its number, with zero in the other places: zero divides nothing.
unfoldable pub kept : List Polynomial → List Polynomial
kept G = kept_from G 1 G

-- an element of the finished list, with its number in the basis and the steps that reduced its tail
pub record Final : Type 0 where
  pub polynomial : Polynomial
  pub origin : ℕ
  pub tail : List TraceStep

-- a list that ascends by leading monomials, with one element more
abbrev pub insert_final : Algebra → Final → List Final → List Final
insert_final A x [] = x ∷ []
insert_final A x (y ∷ ys) =
    if is_lt (order_cmp A.order.rows (leading_monomial x.polynomial) (leading_monomial y.polynomial)) then x ∷ y ∷ ys
    else y ∷ insert_final A x ys

-- the element of number i, with its reduced tail, among the others: none where a step is undefined
abbrev pub with_final : Algebra → ℕ → Reduced → Option (List Final) → Option (List Final)
with_final A i r None = None
with_final A i r (Some finals) =
    if r.over then None else Some (insert_final A (record { polynomial = r.rest; origin = i; tail = r.trace }) finals)

-- the elements H of K from number i on, but for zeros, with their tails reduced by K
abbrev pub finals_from : Algebra → List Polynomial → ℕ → List Polynomial → Option (List Final)
finals_from A K i [] = Some []
finals_from A K i ([] ∷ H) = finals_from A K (suc i) H
finals_from A K i ((t ∷ h) ∷ H) = with_final A i (reduce_tail A K (t ∷ h)) (finals_from A K (suc i) H)

-- a finished list, with the numbers in the basis from which its elements come, and the steps that reduced their tails
pub record FinishedList : Type 0 where
  pub list : List Polynomial
  pub origin : List ℕ
  pub tails : List (List TraceStep)

abbrev pub list_of : List Final → FinishedList
list_of finals = record {
  list = map (λ (x : Final). x.polynomial) finals;
  origin = map (λ (x : Final). x.origin) finals;
  tails = map (λ (x : Final). x.tail) finals;
}

abbrev pub option_list : Option (List Final) → Option FinishedList
option_list None = None
option_list (Some finals) = Some (list_of finals)

-- The finished list of a basis: its kept elements, ascending by leading monomials, each with its tail reduced by the
-- kept elements as they stand in the basis. There is none where a step is undefined.
unfoldable pub finished : Algebra → List Polynomial → Option FinishedList
finished A G = option_list (finals_from A (kept G) 1 (kept G))
