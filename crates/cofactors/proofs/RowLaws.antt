-- Rows and their sums from one place on, as the program's loops walk through them.
use Rattle.std.proofs.Common.{◌≡◌, ◌≢◌, ℕ, zero, suc, ◌-◌, ◌<◌, ◌≤◌, Bool, true, false, ◌&&◌, if◌then◌else◌, List, [], ◌∷◌, ◌++◌, map, length, take, drop, slice_index_or, slice_set, replicate, Option, Some, None, refl, sym, ap, ◌∙◌, subst, arith, append_assoc, append-nil, length-append}
use lib.ListN.{get_or-append}
use Rattle.std.proofs.Math.Seq.{drop-cons}
use Rattle.std.proofs.lemmas.Bool.{and_left}
use Rattle.monomials.specs.Monomials.{Monomial, one}
use Rattle.monomials.specs.Orders.{order_cmp}
use Rattle.monomials.specs.Polynomials.{Polynomial, Each, IsCanonical, IsPolynomial, poly_add, poly_sub, poly_scale}
use Rattle.monomials.proofs.Keys.{Each-set}
use Rattle.monomials.proofs.OrderLaws.{order_cmp_total, order_cmp_tied}
use Rattle.monomials.proofs.Merge.{poly_add-nil}
use Rattle.word_model.specs.Words.{Algebra}
use Rattle.word_model.specs.Products.{product, in_reach}
use Rattle.word_model.specs.Reduction.{element, multiple}
use Rattle.word_model.specs.Jobs.{s_polynomial, pair_within, start_of, first_cofactor, second_cofactor}
use Rattle.word_model.specs.Machine.{Journal}
use Rattle.word_model.specs.Finished.{FinishedList}
use Rattle.word_model.specs.Cofactors.{Row, unit_row, row_value, row_sub, row_multiple, row_at, start_row, less_steps, new_row, rows_after, basis_rows, finished_rows, multiple_reaches, steps_reach, start_reaches, entries_reach, value_reaches, values_reach, tails_reach, cofactor_rows}
use Rattle.word_model.specs.declared.records.Job.{Job}
use Rattle.word_model.specs.declared.records.Job.TheVariants.{Seed, Pair, Right}
use Rattle.word_model.specs.declared.records.Mode.{Mode}
use Rattle.word_model.specs.declared.records.TraceStep.{TraceStep}
use Rattle.word_model.specs.declared.records.Entry.{Entry}
use Rattle.word_model.specs.declared.records.Entry.TheVariants.{Skipped, Zero, New}
use Rattle.word_model.proofs.TermProducts.{product-zero}
use Rattle.word_model.specs.Inside.Sound.{IsStep, IsNamed, IsSound, behind, behind_all, AreSound}
use Rattle.cofactors.specs.Rows.{IsRow}

-- ---- tests

and_true : (a b : Bool) → a ≡ true → (a && b) ≡ b
and_true a b e = ap (λ a. a && b) e

-- ---- one entry

-- the number of a term has no degree
pub term_reach : (c : ℕ) (m : Monomial) (f : Polynomial) → in_reach ((c, m) ∷ []) f ≡ in_reach ((1, m) ∷ []) f
term_reach c m [] = refl
term_reach c m (u ∷ f) = refl

pub reach-zero : (m : Monomial) (f : Polynomial) → f ≡ [] → in_reach ((1, m) ∷ []) f ≡ true
reach-zero m f e = ap (in_reach ((1, m) ∷ [])) e

pub multiple-zero : (A : Algebra) (c : ℕ) (m : Monomial) (f : Polynomial) → f ≡ [] → multiple A c m f ≡ []
multiple-zero A c m f e = ap (multiple A c m) e ∙ product-zero A ((c, m) ∷ [])

-- a multiple of zero is subtracted at no cost
pub sub-zero : (A : Algebra) (c : ℕ) (m : Monomial) (f g : Polynomial) → IsPolynomial A.p A.order f → g ≡ []
    → f ≡ poly_sub (order_cmp A.order.rows) A.p f (multiple A c m g)
sub-zero A c m f g f_is e =
    sym (ap (poly_sub (order_cmp A.order.rows) A.p f) (multiple-zero A c m g e) ∙ nothing f f_is.canonical)
  where
    nothing : (f : Polynomial) → IsCanonical (order_cmp A.order.rows) A.p f → poly_add (order_cmp A.order.rows) A.p f [] ≡ f
    nothing [] h = refl
    nothing (t ∷ f) h = poly_add-nil (order_cmp A.order.rows) (order_cmp_total A.order.rows) (order_cmp_tied A.order.rows) A.p (omega (arith, h.1)) (t ∷ f) h

-- a product with zero is added at no cost
pub add-zero : (A : Algebra) (f g s : Polynomial) → f ≡ [] → s ≡ poly_add (order_cmp A.order.rows) A.p (product A f g) s
unfolding product
add-zero A f g s e = ap (λ f. poly_add (order_cmp A.order.rows) A.p (product A f g) s) (sym e)

pub add-zero_right : (A : Algebra) (f g s : Polynomial) → g ≡ [] → s ≡ poly_add (order_cmp A.order.rows) A.p (product A f g) s
add-zero_right A f g s e =
    sym (ap (λ q. poly_add (order_cmp A.order.rows) A.p q s) (ap (product A f) e ∙ product-zero A f))

-- ---- multiples and differences

module _ (A : Algebra) (c : ℕ) (m : Monomial) where
  -- one more product
  pub row_multiple-step : (entries done : Row) (k j : ℕ) (r : Polynomial) → k < length entries → j ≡ suc k → r ≡ multiple A c m (slice_index_or entries k [])
      → (done ++ r ∷ []) ++ row_multiple A c m (drop j entries) ≡ done ++ row_multiple A c m (drop k entries)
  row_multiple-step entries done k j r below next is =
      append_assoc done (r ∷ []) (row_multiple A c m (drop j entries))
      ∙ ap (λ j. done ++ r ∷ row_multiple A c m (drop j entries)) next
      ∙ ap (λ r. done ++ r ∷ row_multiple A c m (drop (suc k) entries)) is
      ∙ ap (λ e. done ++ row_multiple A c m e) (sym (drop-cons entries k [] below))

  -- one more difference, in place
  pub row_sub-step : (row other : Row) (k j : ℕ) (v : Polynomial) → k < length row → length row ≡ length other → j ≡ suc k
      → v ≡ poly_sub (order_cmp A.order.rows) A.p (slice_index_or row k []) (multiple A c m (slice_index_or other k []))
      → take j (slice_set row k v) ++ row_sub A (drop j (slice_set row k v)) (row_multiple A c m (drop j other))
      ≡ take k row ++ row_sub A (drop k row) (row_multiple A c m (drop k other))
  row_sub-step row other k j v below same next is =
      ap (λ j. take j (slice_set row k v) ++ row_sub A (drop j (slice_set row k v)) (row_multiple A c m (drop j other))) next ∙ at row other k below same is
    where
      at : (row other : Row) (k : ℕ) → k < length row → length row ≡ length other
          → v ≡ poly_sub (order_cmp A.order.rows) A.p (slice_index_or row k []) (multiple A c m (slice_index_or other k []))
          → take (suc k) (slice_set row k v) ++ row_sub A (drop (suc k) (slice_set row k v)) (row_multiple A c m (drop (suc k) other))
          ≡ take k row ++ row_sub A (drop k row) (row_multiple A c m (drop k other))
      at [] other k below same is = absurd (omega arith)
      at (q ∷ row) [] k below same is = absurd (omega arith)
      at (q ∷ row) (r ∷ other) zero below same is = ap (λ v. v ∷ row_sub A row (row_multiple A c m other)) is
      at (q ∷ row) (r ∷ other) (suc k) below same is = ap (λ rest. q ∷ rest) (at row other k (omega arith) (omega arith) is)

-- the whole row is done
pub row_sub-done : (A : Algebra) (row other : Row) (k : ℕ) → k ≡ length row → take k row ++ row_sub A (drop k row) other ≡ row
row_sub-done A [] other zero e = refl
row_sub-done A [] other (suc k) e = absurd (omega arith)
row_sub-done A (q ∷ row) other zero e = absurd (omega arith)
row_sub-done A (q ∷ row) other (suc k) e = ap (λ r. q ∷ r) (row_sub-done A row other k (omega arith))

-- ---- tests of rows

module _ (m : Monomial) (entries : Row) (k : ℕ) (below : k < length entries) where
  pub multiple_reaches-step : (j : ℕ) → j ≡ suc k → in_reach ((1, m) ∷ []) (slice_index_or entries k []) ≡ true
      → multiple_reaches m (drop k entries) ≡ multiple_reaches m (drop j entries)
  multiple_reaches-step j next here =
      ap (multiple_reaches m) (drop-cons entries k [] below) ∙ and_true _ _ here ∙ ap (λ j. multiple_reaches m (drop j entries)) (sym next)

  pub multiple_reaches-over : in_reach ((1, m) ∷ []) (slice_index_or entries k []) ≡ false → multiple_reaches m (drop k entries) ≡ false
  multiple_reaches-over here = ap (multiple_reaches m) (drop-cons entries k [] below) ∙ and_left _ _ here

module _ (R : List Row) (trace : List TraceStep) (k : ℕ) (below : k < length trace) (s : TraceStep) (s_is : slice_index_or trace k s ≡ s) where
  from_here : drop k trace ≡ s ∷ drop (suc k) trace
  from_here = drop-cons trace k s below ∙ ap (λ s. s ∷ drop (suc k) trace) s_is

  pub steps_reach-step : (j : ℕ) → j ≡ suc k → multiple_reaches s.mono (row_at R s.index) ≡ true → steps_reach R (drop k trace) ≡ steps_reach R (drop j trace)
  steps_reach-step j next here = ap (steps_reach R) from_here ∙ and_true _ _ here ∙ ap (λ j. steps_reach R (drop j trace)) (sym next)

  pub steps_reach-over : multiple_reaches s.mono (row_at R s.index) ≡ false → steps_reach R (drop k trace) ≡ false
  steps_reach-over here = ap (steps_reach R) from_here ∙ and_left _ _ here

  pub less_steps-step : (A : Algebra) (row row' : Row) (j : ℕ) → j ≡ suc k → row' ≡ row_sub A row (row_multiple A s.coef s.mono (row_at R s.index))
      → less_steps A R row' (drop j trace) ≡ less_steps A R row (drop k trace)
  less_steps-step A row row' j next is =
      ap (λ j. less_steps A R row' (drop j trace)) next ∙ ap (λ row. less_steps A R row (drop (suc k) trace)) is ∙ ap (less_steps A R row) (sym from_here)

-- ---- values

module _ (entries gens : Row) (k : ℕ) (below : k < length entries) (below_gens : k < length gens) where
  pub value_reaches-step : (j : ℕ) → j ≡ suc k → in_reach (slice_index_or entries k []) (slice_index_or gens k []) ≡ true
      → value_reaches (drop k entries) (drop k gens) ≡ value_reaches (drop j entries) (drop j gens)
  value_reaches-step j next here =
      (λ i. value_reaches (drop-cons entries k [] below i) (drop-cons gens k [] below_gens i)) ∙ and_true _ _ here
      ∙ ap (λ j. value_reaches (drop j entries) (drop j gens)) (sym next)

  pub value_reaches-over : in_reach (slice_index_or entries k []) (slice_index_or gens k []) ≡ false → value_reaches (drop k entries) (drop k gens) ≡ false
  value_reaches-over here = (λ i. value_reaches (drop-cons entries k [] below i) (drop-cons gens k [] below_gens i)) ∙ and_left _ _ here

  pub row_value-step : (A : Algebra) (v v' : Polynomial) (j : ℕ) → j ≡ suc k → v ≡ row_value A (drop j entries) (drop j gens)
      → v' ≡ poly_add (order_cmp A.order.rows) A.p (product A (slice_index_or entries k []) (slice_index_or gens k [])) v
      → v' ≡ row_value A (drop k entries) (drop k gens)
  row_value-step A v v' j next v_is v'_is =
      v'_is
      ∙ ap (poly_add (order_cmp A.order.rows) A.p (product A (slice_index_or entries k []) (slice_index_or gens k []))) (v_is ∙ ap (λ j. row_value A (drop j entries) (drop j gens)) next)
      ∙ (λ i. row_value A (sym (drop-cons entries k [] below) i) (sym (drop-cons gens k [] below_gens) i))

-- where the product at a place is over the limit, so is the row
pub value_reaches-at : (entries gens : Row) (k : ℕ) → k < length entries → k < length gens
    → in_reach (slice_index_or entries k []) (slice_index_or gens k []) ≡ false → value_reaches entries gens ≡ false
value_reaches-at [] gens k below below_gens e = absurd (omega arith)
value_reaches-at (q ∷ row) [] k below below_gens e = absurd (omega arith)
value_reaches-at (q ∷ row) (f ∷ gens) zero below below_gens e = and_left _ _ e
value_reaches-at (q ∷ row) (f ∷ gens) (suc k) below below_gens e =
    ap (λ b. in_reach q f && b) (value_reaches-at row gens k (omega arith) (omega arith) e) ∙ none (in_reach q f)
  where
    none : (a : Bool) → (a && false) ≡ false
    none true = refl
    none false = refl

module _ (rows : List Row) (gens : List Polynomial) (k : ℕ) (below : k < length rows) (row : Row) (row_is : slice_index_or rows k row ≡ row) where
  pub values_reach-step : (j : ℕ) → j ≡ suc k → value_reaches row gens ≡ true → values_reach (drop k rows) gens ≡ values_reach (drop j rows) gens
  values_reach-step j next here =
      ap (λ rows. values_reach rows gens) (drop-cons rows k row below ∙ ap (λ row. row ∷ drop (suc k) rows) row_is) ∙ and_true _ _ here
      ∙ ap (λ j. values_reach (drop j rows) gens) (sym next)

  pub values_reach-over : value_reaches row gens ≡ false → values_reach (drop k rows) gens ≡ false
  values_reach-over here =
      ap (λ rows. values_reach rows gens) (drop-cons rows k row below ∙ ap (λ row. row ∷ drop (suc k) rows) row_is) ∙ and_left _ _ here

-- ---- finished rows

module _ (A : Algebra) (R : List Row) (origin : List ℕ) (tails : List (List TraceStep)) (k : ℕ) (below : k < length origin) (same : length origin ≡ length tails)
    (o : ℕ) (o_is : slice_index_or origin k o ≡ o) (tail : List TraceStep) (tail_is : slice_index_or tails k tail ≡ tail) where
  tails_from : drop k tails ≡ tail ∷ drop (suc k) tails
  tails_from = drop-cons tails k tail (omega arith) ∙ ap (λ tail. tail ∷ drop (suc k) tails) tail_is

  pub finished_rows-step : (done : List Row) (row : Row) (j : ℕ) → j ≡ suc k → row ≡ less_steps A R (row_at R o) tail
      → (done ++ row ∷ []) ++ finished_rows A R (drop j origin) (drop j tails) ≡ done ++ finished_rows A R (drop k origin) (drop k tails)
  finished_rows-step done row j next is =
      let origin_from : drop k origin ≡ o ∷ drop (suc k) origin = drop-cons origin k o below ∙ ap (λ o. o ∷ drop (suc k) origin) o_is in
      append_assoc done (row ∷ []) (finished_rows A R (drop j origin) (drop j tails))
      ∙ ap (λ j. done ++ row ∷ finished_rows A R (drop j origin) (drop j tails)) next
      ∙ ap (λ row. done ++ row ∷ finished_rows A R (drop (suc k) origin) (drop (suc k) tails)) is
      ∙ (λ i. done ++ finished_rows A R (sym origin_from i) (sym tails_from i))

  pub tails_reach-step : (j : ℕ) → j ≡ suc k → steps_reach R tail ≡ true → tails_reach R (drop k tails) ≡ tails_reach R (drop j tails)
  tails_reach-step j next here = ap (tails_reach R) tails_from ∙ and_true _ _ here ∙ ap (λ j. tails_reach R (drop j tails)) (sym next)

  pub tails_reach-over : steps_reach R tail ≡ false → tails_reach R (drop k tails) ≡ false
  tails_reach-over here = ap (tails_reach R) tails_from ∙ and_left _ _ here

-- ---- rows of all elements

module _ (A : Algebra) (g : ℕ) (G : List Polynomial) where
  pub rows_after-cons : (R : List Row) (e : Entry) (entries : List Entry) → rows_after A g G R (e ∷ entries) ≡ rows_after A g G (rows_after A g G R (e ∷ [])) entries
  rows_after-cons R (Skipped job k) entries = refl
  rows_after-cons R (Zero job trace) entries = refl
  rows_after-cons R (New job trace scale) entries = refl

  pub length-rows_after : (R : List Row) (e : Entry) → length (rows_after A g G R (e ∷ [])) ≡ behind (length R) e
  length-rows_after R (Skipped job k) = refl
  length-rows_after R (Zero job trace) = refl
  length-rows_after R (New job trace scale) = length-append R (new_row A g G R job trace scale ∷ []) ∙ omega arith

  -- later entries leave the rows so far
  pub rows_after-longer : (R : List Row) (entries : List Entry) → (more : List Row) × (rows_after A g G R entries ≡ R ++ more)
  rows_after-longer R [] = ([], sym (append-nil R))
  rows_after-longer R (Skipped job k ∷ entries) = rows_after-longer R entries
  rows_after-longer R (Zero job trace ∷ entries) = rows_after-longer R entries
  rows_after-longer R (New job trace scale ∷ entries) =
      let row : Row = new_row A g G R job trace scale in
      let later : (more : List Row) × (rows_after A g G (R ++ row ∷ []) entries ≡ (R ++ row ∷ []) ++ more) = rows_after-longer (R ++ row ∷ []) entries in
      (row ∷ later.0, later.1 ∙ append_assoc R (row ∷ []) later.0)

pub row_at-longer : (R more : List Row) (i : ℕ) → 1 ≤ i → i ≤ length R → row_at (R ++ more) i ≡ row_at R i
row_at-longer R more i low high = get_or-append R more [] (i - 1) (omega arith)

module _ (A : Algebra) (gens G : List Polynomial) (mode : Mode) (R more : List Row) where
  steps_reach-longer : (trace : List TraceStep) → Each (IsStep A (length R)) trace → steps_reach (R ++ more) trace ≡ steps_reach R trace
  steps_reach-longer [] h = refl
  steps_reach-longer (s ∷ trace) h =
      (λ i. multiple_reaches s.mono (row_at-longer R more s.index h.0.first h.0.last i) && steps_reach-longer trace h.1 i)

  start_reaches-longer : (job : Job) → IsNamed A gens G mode (length R) job → start_reaches G (R ++ more) job ≡ start_reaches G R job
  start_reaches-longer (Seed s) h = refl
  start_reaches-longer (Pair i j) h =
      let at_i : row_at (R ++ more) i ≡ row_at R i = row_at-longer R more i h.numbers.0 (omega (arith, h.numbers.1, h.numbers.2)) in
      let at_j : row_at (R ++ more) j ≡ row_at R j = row_at-longer R more j (omega (arith, h.numbers.0, h.numbers.1)) h.numbers.2 in
      (λ k. multiple_reaches (first_cofactor (element G i) (element G j)) (at_i k) && multiple_reaches (second_cofactor (element G i) (element G j)) (at_j k))
  start_reaches-longer (Right i v) h = refl

  -- the test of an entry is one of the rows that stood before it
  pub entry_reaches-longer : (e : Entry) → IsSound A gens G mode (length R) e → entries_reach G (R ++ more) (e ∷ []) ≡ entries_reach G R (e ∷ [])
  entry_reaches-longer (Skipped job k) h = refl
  entry_reaches-longer (Zero job trace) h = refl
  entry_reaches-longer (New job trace scale) h = (λ i. start_reaches-longer job h.0 i && steps_reach-longer trace h.2 i && true)

pub entries_reach-cons : (G : List Polynomial) (R : List Row) (e : Entry) (entries : List Entry)
    → entries_reach G R (e ∷ entries) ≡ (entries_reach G R (e ∷ []) && entries_reach G R entries)
entries_reach-cons G R (Skipped job k) entries = refl
entries_reach-cons G R (Zero job trace) entries = refl
entries_reach-cons G R (New job trace scale) entries = regroup (start_reaches G R job) (steps_reach R trace) (entries_reach G R entries)
  where
    regroup : (a b c : Bool) → (a && b && c) ≡ ((a && b && true) && c)
    regroup true true c = refl
    regroup true false c = refl
    regroup false b c = refl

module _ (A : Algebra) (gens G : List Polynomial) (mode : Mode) (g : ℕ) (entries : List Entry) (k : ℕ) (below : k < length entries) (e : Entry)
    (e_is : slice_index_or entries k e ≡ e) (R : List Row) where
  entries_from : drop k entries ≡ e ∷ drop (suc k) entries
  entries_from = drop-cons entries k e below ∙ ap (λ e. e ∷ drop (suc k) entries) e_is

  pub rows_after-step : (R' : List Row) (j : ℕ) → j ≡ suc k → R' ≡ rows_after A g G R (e ∷ []) → rows_after A g G R' (drop j entries) ≡ rows_after A g G R (drop k entries)
  rows_after-step R' j next is =
      ap (λ j. rows_after A g G R' (drop j entries)) next ∙ ap (λ R. rows_after A g G R (drop (suc k) entries)) is
      ∙ sym (rows_after-cons A g G R e (drop (suc k) entries)) ∙ ap (rows_after A g G R) (sym entries_from)

  -- the tests of the final rows F agree with those of the rows so far
  module _ (F : List Row) (F_is : rows_after A g G R (drop k entries) ≡ F) (sound : IsSound A gens G mode (length R) e) where
    same_test : entries_reach G F (e ∷ []) ≡ entries_reach G R (e ∷ [])
    same_test =
        let longer : (more : List Row) × (rows_after A g G R (drop k entries) ≡ R ++ more) = rows_after-longer A g G R (drop k entries) in
        ap (λ F. entries_reach G F (e ∷ [])) (sym F_is ∙ longer.1) ∙ entry_reaches-longer A gens G mode R longer.0 e sound

    pub entries_reach-step : (j : ℕ) → j ≡ suc k → entries_reach G R (e ∷ []) ≡ true → entries_reach G F (drop k entries) ≡ entries_reach G F (drop j entries)
    entries_reach-step j next here =
        ap (entries_reach G F) entries_from ∙ entries_reach-cons G F e (drop (suc k) entries) ∙ and_true _ _ (same_test ∙ here)
        ∙ ap (λ j. entries_reach G F (drop j entries)) (sym next)

    pub entries_reach-over : entries_reach G R (e ∷ []) ≡ false → entries_reach G F (drop k entries) ≡ false
    entries_reach-over here =
        ap (entries_reach G F) entries_from ∙ entries_reach-cons G F e (drop (suc k) entries) ∙ and_left _ _ (same_test ∙ here)

  pub sound-step : (j : ℕ) → j ≡ suc k → AreSound A gens G mode (length R) (drop k entries)
      → IsSound A gens G mode (length R) e × AreSound A gens G mode (behind (length R) e) (drop j entries)
  sound-step j next sound =
      let here : IsSound A gens G mode (length R) e × AreSound A gens G mode (behind (length R) e) (drop (suc k) entries) =
      subst (AreSound A gens G mode (length R)) entries_from sound in
      (here.0, subst (λ j. AreSound A gens G mode (behind (length R) e) (drop j entries)) (sym next) here.1)

  pub behind-step : (j : ℕ) → j ≡ suc k → behind_all (behind (length R) e) (drop j entries) ≡ behind_all (length R) (drop k entries)
  behind-step j next = ap (λ j. behind_all (behind (length R) e) (drop j entries)) next ∙ ap (behind_all (length R)) (sym entries_from)

-- the rows of all entries are as many as the elements behind them
pub length-all_rows : (A : Algebra) (g : ℕ) (G : List Polynomial) (R : List Row) (entries : List Entry)
    → length (rows_after A g G R entries) ≡ behind_all (length R) entries
length-all_rows A g G R [] = refl
length-all_rows A g G R (e ∷ entries) =
    ap length (rows_after-cons A g G R e entries) ∙ length-all_rows A g G (rows_after A g G R (e ∷ [])) entries
    ∙ ap (λ m. behind_all m entries) (length-rows_after A g G R e)

-- the row of a new element, added to those so far
pub rows_after-new : (A B : Algebra) (g : ℕ) (G : List Polynomial) (R R₁ R₂ after : List Row) (job : Job) (trace : List TraceStep) (scale : ℕ) (e : Entry) (start row : Row)
    → B ≡ A → R₁ ≡ R → R₂ ≡ R → e ≡ New job trace scale → start ≡ start_row A g G R₁ job → row ≡ map (poly_scale B.p scale) (less_steps B R₂ start trace)
    → after ≡ R ++ row ∷ [] → after ≡ rows_after A g G R (e ∷ [])
rows_after-new A B g G R R₁ R₂ after job trace scale e start row same first second e_is start_is row_is after_is =
    let start_here : start ≡ start_row A g G R job = start_is ∙ ap (λ R. start_row A g G R job) first in
    let row_here : row ≡ new_row A g G R job trace scale =
    row_is ∙ (λ i. map (poly_scale (same i).p scale) (less_steps (same i) (second i) (start_here i) trace)) in
    after_is ∙ ap (λ row. R ++ row ∷ []) row_here ∙ ap (λ e. rows_after A g G R (e ∷ [])) (sym e_is)

-- ---- starts

-- the row of a generator
pub unit_row-is : (A : Algebra) (g s : ℕ) → IsPolynomial A.p A.order ((1, one A.order.vars) ∷ []) → IsRow A g (unit_row A g s)
unit_row-is A g s unit_is = record {
  one_each = length-slice_set (replicate g []) (s - 1) ((1, one A.order.vars) ∷ []) ∙ length-zeros g;
  sorted = Each-set (IsPolynomial A.p A.order) (replicate g []) (s - 1) ((1, one A.order.vars) ∷ []) (zeros-are g) unit_is;
}
  where
    length-slice_set : (xs : Row) (k : ℕ) (x : Polynomial) → length (slice_set xs k x) ≡ length xs
    length-slice_set [] k x = refl
    length-slice_set (y ∷ xs) zero x = refl
    length-slice_set (y ∷ xs) (suc k) x = ap suc (length-slice_set xs k x)

    length-zeros : (g : ℕ) → length (replicate {A = Polynomial} g []) ≡ g
    length-zeros zero = refl
    length-zeros (suc g) = ap suc (length-zeros g)

    zeros-are : (g : ℕ) → Each (IsPolynomial A.p A.order) (replicate {A = Polynomial} g [])
    zeros-are zero = tt
    zeros-are (suc g) = (record { canonical = tt; vars = tt }, zeros-are g)

-- the products of a pair whose start is computed are within the limit
pub pair_within-started : (A : Algebra) (gens G : List Polynomial) (i j : ℕ) → start_of A gens G (Pair i j) ≢ None → pair_within G i j ≡ true
unfolding start_of
pair_within-started A gens G i j started = by (pair_within G i j) started
  where
    by : (b : Bool) → ((if b then Some (s_polynomial A (element G i) (element G j)) else None) ≢ None) → b ≡ true
    by true h = refl
    by false h = absurd (h refl)

-- ---- all of them

module _ (A : Algebra) (gens : List Polynomial) (J : Journal) (F : FinishedList) (R rows : List Row)
    (R_is : R ≡ rows_after A (length gens) J.basis [] J.entries) where
  pub cofactor_rows-is : entries_reach J.basis R J.entries ≡ true → tails_reach R F.tails ≡ true → rows ≡ finished_rows A R F.origin F.tails → values_reach rows gens ≡ true
      → cofactor_rows A gens J F ≡ Some rows
  unfolding cofactor_rows basis_rows
  cofactor_rows-is entries tails rows_is values =
      ap (λ R. made R (finished_rows A R F.origin F.tails)) (sym R_is) ∙ ap (made R) (sym rows_is)
      ∙ (λ i. if entries i && tails i && values i then Some rows else None)
    where
      made : List Row → List Row → Option (List Row)
      made R rows = if entries_reach J.basis R J.entries && tails_reach R F.tails && values_reach rows gens then Some rows else None

  cofactor_rows-over : (a b c : Bool) → entries_reach J.basis R J.entries ≡ a → tails_reach R F.tails ≡ b
      → values_reach (finished_rows A R F.origin F.tails) gens ≡ c → (a && b && c) ≡ false → cofactor_rows A gens J F ≡ None
  unfolding cofactor_rows basis_rows
  cofactor_rows-over a b c entries tails values over =
      ap (λ R. made R (finished_rows A R F.origin F.tails)) (sym R_is)
      ∙ ap (λ x. if x then Some (finished_rows A R F.origin F.tails) else None) ((λ i. entries i && tails i && values i) ∙ over)
    where
      made : List Row → List Row → Option (List Row)
      made R rows = if entries_reach J.basis R J.entries && tails_reach R F.tails && values_reach rows gens then Some rows else None

  -- there are no rows where one of the three tests fails
  pub cofactor_rows-entries : entries_reach J.basis R J.entries ≡ false → cofactor_rows A gens J F ≡ None
  cofactor_rows-entries over = cofactor_rows-over false _ _ over refl refl refl

  pub cofactor_rows-tails : tails_reach R F.tails ≡ false → cofactor_rows A gens J F ≡ None
  cofactor_rows-tails over = cofactor_rows-over _ false _ refl over refl (none (entries_reach J.basis R J.entries))
    where
      none : (a : Bool) → (a && false && values_reach (finished_rows A R F.origin F.tails) gens) ≡ false
      none true = refl
      none false = refl

  pub cofactor_rows-values : rows ≡ finished_rows A R F.origin F.tails → values_reach rows gens ≡ false → cofactor_rows A gens J F ≡ None
  cofactor_rows-values rows_is over =
      cofactor_rows-over _ _ false refl refl (ap (λ rows. values_reach rows gens) (sym rows_is) ∙ over) (none (entries_reach J.basis R J.entries) (tails_reach R F.tails))
    where
      none : (a b : Bool) → (a && b && false) ≡ false
      none true true = refl
      none true false = refl
      none false b = refl
