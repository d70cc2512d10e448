-- Cofactors: how the elements of a left run are left combinations of its generators.
use Rattle.std.specs.Prelude.{ℕ, ◌-◌, Bool, true, ◌&&◌, List, [], ◌∷◌, ◌++◌, map, length, replicate, slice_set, slice_index_or, Option, Some, None, if◌then◌else◌}
use Rattle.monomials.specs.Monomials.{Monomial, one}
use Rattle.monomials.specs.Orders.{order_cmp}
use Rattle.monomials.specs.Polynomials.{Polynomial, poly_add, poly_sub, poly_scale}
use Rattle.word_model.specs.Words.{Algebra}
use Rattle.word_model.specs.Products.{product, in_reach}
use Rattle.word_model.specs.Reduction.{element, multiple}
use Rattle.word_model.specs.Jobs.{first_cofactor, second_cofactor, second_number}
use Rattle.word_model.specs.Machine.{Journal}
use Rattle.word_model.specs.Finished.{FinishedList}
use Rattle.word_model.specs.declared.records.Job.{Job}
use Rattle.word_model.specs.declared.records.Job.TheVariants.{Seed, Pair, Right}
use Rattle.word_model.specs.declared.records.TraceStep.{TraceStep}
use Rattle.word_model.specs.declared.records.Entry.{Entry}
use Rattle.word_model.specs.declared.records.Entry.TheVariants.{Skipped, Zero, New}

-- ---- rows

-- A row of cofactors: a polynomial for each generator. It stands for the sum of each times its generator.
abbrev pub Row : Type 0
Row = List Polynomial

-- that sum
abbrev pub row_value : Algebra → Row → List Polynomial → Polynomial
row_value A [] gens = []
row_value A (q ∷ row) [] = []
row_value A (q ∷ row) (f ∷ gens) = poly_add (order_cmp A.order.rows) A.p (product A q f) (row_value A row gens)

-- the row of the generator of number s among g: 1 in its place
abbrev pub unit_row : Algebra → ℕ → ℕ → Row
unit_row A g s = slice_set (replicate g []) (s - 1) ((1, one A.order.vars) ∷ [])

-- the difference of two rows
abbrev pub row_sub : Algebra → Row → Row → Row
row_sub A [] other = []
row_sub A (q ∷ row) [] = []
row_sub A (q ∷ row) (r ∷ other) = poly_sub (order_cmp A.order.rows) A.p q r ∷ row_sub A row other

-- c m times a row
abbrev pub row_multiple : Algebra → ℕ → Monomial → Row → Row
row_multiple A c m row = map (multiple A c m) row

-- the row of number i in a list, which counts from 1
abbrev pub row_at : List Row → ℕ → Row
row_at R i = slice_index_or R (i - 1) []

-- The row of a job's start, made as the start is, with the rows R of the elements G in place of the elements. Left runs
-- have no products on the right.
abbrev pub start_row : Algebra → ℕ → List Polynomial → List Row → Job → Row
start_row A g G R (Seed s) = unit_row A g s
start_row A g G R (Pair i j) =
    let f : Polynomial = element G i in
    let h : Polynomial = element G j in
    row_sub A (row_multiple A 1 (first_cofactor f h) (row_at R i))
    (row_multiple A (second_number A f h) (second_cofactor f h) (row_at R j))
start_row A g G R (Right i v) = []

-- a row less the multiples of the rows R that the steps name
abbrev pub less_steps : Algebra → List Row → Row → List TraceStep → Row
less_steps A R row [] = row
less_steps A R row (s ∷ trace) = less_steps A R (row_sub A row (row_multiple A s.coef s.mono (row_at R s.index))) trace

-- the row of a new element: scale times the row of its start less the steps
abbrev pub new_row : Algebra → ℕ → List Polynomial → List Row → Job → List TraceStep → ℕ → Row
new_row A g G R job trace scale = map (poly_scale A.p scale) (less_steps A R (start_row A g G R job) trace)

-- the rows R, and behind them those of the elements that these entries add
abbrev pub rows_after : Algebra → ℕ → List Polynomial → List Row → List Entry → List Row
rows_after A g G R [] = R
rows_after A g G R (Skipped job k ∷ entries) = rows_after A g G R entries
rows_after A g G R (Zero job trace ∷ entries) = rows_after A g G R entries
rows_after A g G R (New job trace scale ∷ entries) = rows_after A g G (R ++ new_row A g G R job trace scale ∷ []) entries

-- The rows of all elements of a run over g generators.
unfoldable pub basis_rows : Algebra → ℕ → Journal → List Row
basis_rows A g J = rows_after A g J.basis [] J.entries

-- the rows of finished elements: each goes on from that of its origin through its tail
abbrev pub finished_rows : Algebra → List Row → List ℕ → List (List TraceStep) → List Row
finished_rows A R [] tails = []
finished_rows A R (o ∷ origin) [] = []
finished_rows A R (o ∷ origin) (tail ∷ tails) = less_steps A R (row_at R o) tail ∷ finished_rows A R origin tails

-- ---- where they are computed

-- whether the products of a monomial with the entries of a row are computed
abbrev pub multiple_reaches : Monomial → Row → Bool
multiple_reaches m [] = true
multiple_reaches m (q ∷ row) = in_reach ((1, m) ∷ []) q && multiple_reaches m row

-- whether the products of all steps are
abbrev pub steps_reach : List Row → List TraceStep → Bool
steps_reach R [] = true
steps_reach R (s ∷ trace) = multiple_reaches s.mono (row_at R s.index) && steps_reach R trace

-- whether those of a start are
abbrev pub start_reaches : List Polynomial → List Row → Job → Bool
start_reaches G R (Pair i j) =
    multiple_reaches (first_cofactor (element G i) (element G j)) (row_at R i)
    && multiple_reaches (second_cofactor (element G i) (element G j)) (row_at R j)
start_reaches G R _ = true

-- whether those of all elements are that these entries add, where R are the rows of all
abbrev pub entries_reach : List Polynomial → List Row → List Entry → Bool
entries_reach G R [] = true
entries_reach G R (New job trace scale ∷ entries) = start_reaches G R job && steps_reach R trace && entries_reach G R entries
entries_reach G R (_ ∷ entries) = entries_reach G R entries

-- whether the products of a row's entries with their generators are computed
abbrev pub value_reaches : Row → List Polynomial → Bool
value_reaches [] gens = true
value_reaches (q ∷ row) [] = true
value_reaches (q ∷ row) (f ∷ gens) = in_reach q f && value_reaches row gens

-- whether those of all rows are
abbrev pub values_reach : List Row → List Polynomial → Bool
values_reach [] gens = true
values_reach (row ∷ rows) gens = value_reaches row gens && values_reach rows gens

-- whether the products of all tails are
abbrev pub tails_reach : List Row → List (List TraceStep) → Bool
tails_reach R [] = true
tails_reach R (tail ∷ tails) = steps_reach R tail && tails_reach R tails

-- ---- the rows of a finished list

-- The rows of the finished list F of a left run J over these generators. There are none where a product by which a row
-- of an element, finished or not, is made has too high a degree, or one of a finished row's entries with their
-- generators.
unfoldable pub cofactor_rows : Algebra → List Polynomial → Journal → FinishedList → Option (List Row)
cofactor_rows A gens J F =
    let R : List Row = basis_rows A (length gens) J in
    let rows : List Row = finished_rows A R F.origin F.tails in
    if entries_reach J.basis R J.entries && tails_reach R F.tails && values_reach rows gens then Some rows else None
