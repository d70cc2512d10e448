-- Syzygies from one entry on, as the program's loops walk through them.
use Rattle.std.proofs.Common.{◌≡◌, ◌≢◌, ℕ, suc, ◌<◌, ◌≤◌, inl, inr, Bool, true, false, ◌&&◌, if◌then◌else◌, List, [], ◌∷◌, ◌++◌, length, drop, slice_index_or, Some, None, refl, sym, ap, ◌∙◌, subst, arith, append_assoc, append-nil}
use Rattle.std.proofs.Math.Seq.{drop-cons}
use Rattle.std.proofs.lemmas.Bool.{and_left}
use Rattle.monomials.specs.WellFounded.{IsWellFounded}
use Rattle.monomials.specs.Polynomials.{Polynomial, Each, IsPolynomial}
use Rattle.monomials.proofs.Keys.{Each-append, Each-weaker}
use Rattle.word_model.specs.Words.{Algebra}
use Rattle.word_model.specs.Conditions.{IsGAlgebra}
use Rattle.word_model.specs.Machine.{Journal, machine}
use Rattle.word_model.specs.Ideals.{IsOneOf}
use Rattle.word_model.specs.Jobs.{IsJob}
use Rattle.word_model.specs.Cofactors.{Row, row_value, unit_row, start_row, less_steps, rows_after, basis_rows, steps_reach, start_reaches, entries_reach}
use Rattle.word_model.specs.Syzygies.{is_zero_row, cons_row, entry_syzygies, zero_units, syzygies, all_reach, syzygy_rows, IsRowCombination}
use Rattle.word_model.specs.Inside.Sound.{IsStep, IsNamed, IsSound, AreSound, behind, behind_all}
use Rattle.word_model.specs.declared.records.Job.{Job}
use Rattle.word_model.specs.declared.records.Job.TheVariants.{Seed, Pair, Right}
use Rattle.word_model.specs.declared.records.Mode.{Mode}
use Rattle.word_model.specs.declared.records.Mode.TheVariants.{Left}
use Rattle.word_model.specs.declared.records.Outcome.TheVariants.{Finished}
use Rattle.word_model.specs.declared.records.TraceStep.{TraceStep}
use Rattle.word_model.specs.declared.records.Entry.{Entry}
use Rattle.word_model.specs.declared.records.Entry.TheVariants.{Skipped, Zero, New}
use Rattle.word_model.proofs.Journals.{behind_all-least}
use Rattle.word_model.proofs.SyzygyRows.{syzygy_value}
use Rattle.word_model.proofs.KnownRows.{relation_sum}
use Rattle.word_model.proofs.Columns.{row_sum-combination}
use Rattle.syzygies.specs.Zeros.{zeros_reach}

-- ---- entries, before which fewer elements stood

module _ (A : Algebra) (gens G : List Polynomial) (mode : Mode) (n : ℕ) where
  numbers-longer : (m : ℕ) → m ≤ n → (job : Job) → IsJob (length gens) m A.order.vars job → IsJob (length gens) n A.order.vars job
  numbers-longer m more (Seed s) h = h
  numbers-longer m more (Pair i j) h = (h.0, h.1, omega (arith, h.2, more))
  numbers-longer m more (Right i v) h = (h.0, omega (arith, h.1, more), h.2, h.3)

  named-longer : (m : ℕ) → m ≤ n → (job : Job) → IsNamed A gens G mode m job → IsNamed A gens G mode n job
  named-longer m more job h = record { numbers = numbers-longer m more job h.numbers; nonzero = h.nonzero; of_mode = h.of_mode }

  steps-longer : (m : ℕ) → m ≤ n → (trace : List TraceStep) → Each (IsStep A m) trace → Each (IsStep A n) trace
  steps-longer m more trace h =
      Each-weaker (IsStep A m) (IsStep A n)
      (λ s h. record { some = h.some; small = h.small; vars = h.vars; within = h.within; first = h.first; last = omega (arith, h.last, more) }) trace h

  sound-longer : (m : ℕ) → m ≤ n → (e : Entry) → IsSound A gens G mode m e → IsSound A gens G mode n e
  sound-longer m more (Skipped job k) h = (named-longer m more job h.0, h.1, omega (arith, h.2, more))
  sound-longer m more (Zero job trace) h = (named-longer m more job h.0, h.1, steps-longer m more trace h.2)
  sound-longer m more (New job trace scale) h = (named-longer m more job h.0, h.1, steps-longer m more trace h.2, h.3, h.4)

  -- each entry is sound over all elements
  pub each-sound : (m : ℕ) (entries : List Entry) → behind_all m entries ≤ n → AreSound A gens G mode m entries → Each (IsSound A gens G mode n) entries
  each-sound m [] all h = tt
  each-sound m (e ∷ entries) all h =
      let here : m ≤ n = omega (arith, behind_all-least m (e ∷ entries), all) in
      (sound-longer m here e h.0, each-sound (behind m e) entries all h.1)

-- ---- tests

-- the products of all entries are those of the elements and those of the entries reduced to zero
pub all_reach-is : (G : List Polynomial) (R : List Row) (entries : List Entry) → all_reach G R entries ≡ (entries_reach G R entries && zeros_reach G R entries)
all_reach-is G R [] = refl
all_reach-is G R (Skipped job k ∷ entries) = all_reach-is G R entries
all_reach-is G R (Zero job trace ∷ entries) =
    ap (λ x. start_reaches G R job && steps_reach R trace && x) (all_reach-is G R entries)
    ∙ regroup (start_reaches G R job) (steps_reach R trace) (entries_reach G R entries) (zeros_reach G R entries)
  where
    regroup : (a b c d : Bool) → (a && b && (c && d)) ≡ (c && (a && b && d))
    regroup true true c d = refl
    regroup true false true d = refl
    regroup true false false d = refl
    regroup false b true d = refl
    regroup false b false d = refl
all_reach-is G R (New job trace scale ∷ entries) =
    ap (λ x. start_reaches G R job && steps_reach R trace && x) (all_reach-is G R entries)
    ∙ regroup (start_reaches G R job) (steps_reach R trace) (entries_reach G R entries) (zeros_reach G R entries)
  where
    regroup : (a b c d : Bool) → (a && b && (c && d)) ≡ ((a && b && c) && d)
    regroup true true c d = refl
    regroup true false c d = refl
    regroup false b c d = refl

pub all_reach-both : (G : List Polynomial) (R : List Row) (entries : List Entry) → entries_reach G R entries ≡ true → zeros_reach G R entries ≡ true → all_reach G R entries ≡ true
all_reach-both G R entries first second = all_reach-is G R entries ∙ (λ i. first i && second i)

pub all_reach-first : (G : List Polynomial) (R : List Row) (entries : List Entry) → entries_reach G R entries ≡ false → all_reach G R entries ≡ false
all_reach-first G R entries over = all_reach-is G R entries ∙ and_left _ _ over

pub all_reach-second : (G : List Polynomial) (R : List Row) (entries : List Entry) → zeros_reach G R entries ≡ false → all_reach G R entries ≡ false
all_reach-second G R entries over = all_reach-is G R entries ∙ ap (λ x. entries_reach G R entries && x) over ∙ none (entries_reach G R entries)
  where
    none : (a : Bool) → (a && false) ≡ false
    none true = refl
    none false = refl

zeros_reach-cons : (G : List Polynomial) (R : List Row) (e : Entry) (entries : List Entry)
    → zeros_reach G R (e ∷ entries) ≡ (zeros_reach G R (e ∷ []) && zeros_reach G R entries)
zeros_reach-cons G R (Skipped job k) entries = refl
zeros_reach-cons G R (New job trace scale) entries = refl
zeros_reach-cons G R (Zero job trace) entries = regroup (start_reaches G R job) (steps_reach R trace) (zeros_reach G R entries)
  where
    regroup : (a b c : Bool) → (a && b && c) ≡ ((a && b && true) && c)
    regroup true true c = refl
    regroup true false c = refl
    regroup false b c = refl

-- ---- rows of entries

cons_row-append : (row : Row) (rows : List Row) → cons_row row rows ≡ cons_row row [] ++ rows
cons_row-append row rows = by (is_zero_row row)
  where
    by : (zero_row : Bool) → (if zero_row then rows else row ∷ rows) ≡ (if zero_row then [] else row ∷ []) ++ rows
    by true = refl
    by false = refl

pub cons_row-each : (P : Row → Type 0) (rows : List Row) (row : Row) → Each P rows → P row → Each P (rows ++ cons_row row [])
cons_row-each P rows row h here = Each-append P rows (cons_row row []) h (by (is_zero_row row))
  where
    by : (zero_row : Bool) → Each P (if zero_row then [] else row ∷ [])
    by true = tt
    by false = (here, tt)

-- a row that is zero is left out, and another is added
pub cons_row-zero : (rows : List Row) (row : Row) → is_zero_row row ≡ true → rows ≡ rows ++ cons_row row []
cons_row-zero rows row none = sym (append-nil rows) ∙ ap (λ x. rows ++ (if x then [] else row ∷ [])) (sym none)

pub cons_row-some : (rows more : List Row) (row : Row) → is_zero_row row ≡ false → more ≡ rows ++ row ∷ [] → more ≡ rows ++ cons_row row []
cons_row-some rows more row some is = is ∙ ap (λ x. rows ++ (if x then [] else row ∷ [])) (sym some)

-- what an entry adds
pub entry-zero : (A B : Algebra) (g : ℕ) (G : List Polynomial) (R rows more : List Row) (job : Job) (trace : List TraceStep) (e : Entry) (start row : Row)
    → B ≡ A → e ≡ Zero job trace → start ≡ start_row A g G R job → row ≡ less_steps B R start trace → more ≡ rows ++ cons_row row []
    → more ≡ rows ++ entry_syzygies A g G R (e ∷ [])
entry-zero A B g G R rows more job trace e start row same e_is start_is row_is is =
    is ∙ ap (λ row. rows ++ cons_row row []) (row_is ∙ (λ i. less_steps (same i) R (start_is i) trace))
    ∙ ap (λ e. rows ++ entry_syzygies A g G R (e ∷ [])) (sym e_is)

pub entry-skipped : (A : Algebra) (g : ℕ) (G : List Polynomial) (R rows : List Row) (job : Job) (k : ℕ) (e : Entry) → e ≡ Skipped job k
    → rows ≡ rows ++ entry_syzygies A g G R (e ∷ [])
entry-skipped A g G R rows job k e e_is = sym (append-nil rows) ∙ ap (λ e. rows ++ entry_syzygies A g G R (e ∷ [])) (sym e_is)

pub entry-new : (A : Algebra) (g : ℕ) (G : List Polynomial) (R rows : List Row) (job : Job) (trace : List TraceStep) (scale : ℕ) (e : Entry) → e ≡ New job trace scale
    → rows ≡ rows ++ entry_syzygies A g G R (e ∷ [])
entry-new A g G R rows job trace scale e e_is = sym (append-nil rows) ∙ ap (λ e. rows ++ entry_syzygies A g G R (e ∷ [])) (sym e_is)

module _ (A : Algebra) (g : ℕ) (G : List Polynomial) (R : List Row) where
  syzygies-cons : (e : Entry) (entries : List Entry) → entry_syzygies A g G R (e ∷ entries) ≡ entry_syzygies A g G R (e ∷ []) ++ entry_syzygies A g G R entries
  syzygies-cons (Skipped job k) entries = refl
  syzygies-cons (New job trace scale) entries = refl
  syzygies-cons (Zero job trace) entries = cons_row-append (less_steps A R (start_row A g G R job) trace) (entry_syzygies A g G R entries)

  module _ (entries : List Entry) (k : ℕ) (below : k < length entries) (e : Entry) (e_is : slice_index_or entries k e ≡ e) where
    entries_from : drop k entries ≡ e ∷ drop (suc k) entries
    entries_from = drop-cons entries k e below ∙ ap (λ e. e ∷ drop (suc k) entries) e_is

    pub syzygies-step : (done more : List Row) (j : ℕ) → j ≡ suc k → more ≡ done ++ entry_syzygies A g G R (e ∷ [])
        → more ++ entry_syzygies A g G R (drop j entries) ≡ done ++ entry_syzygies A g G R (drop k entries)
    syzygies-step done more j next is =
        (λ i. is i ++ entry_syzygies A g G R (drop (next i) entries))
        ∙ append_assoc done (entry_syzygies A g G R (e ∷ [])) (entry_syzygies A g G R (drop (suc k) entries))
        ∙ ap (λ rows. done ++ rows) (sym (syzygies-cons e (drop (suc k) entries)) ∙ ap (entry_syzygies A g G R) (sym entries_from))

    pub zeros_reach-step : (j : ℕ) → j ≡ suc k → zeros_reach G R (e ∷ []) ≡ true → zeros_reach G R (drop k entries) ≡ zeros_reach G R (drop j entries)
    zeros_reach-step j next here =
        ap (zeros_reach G R) entries_from ∙ zeros_reach-cons G R e (drop (suc k) entries)
        ∙ ap (λ x. x && zeros_reach G R (drop (suc k) entries)) here ∙ ap (λ j. zeros_reach G R (drop j entries)) (sym next)

    pub zeros_reach-over : zeros_reach G R (e ∷ []) ≡ false → zeros_reach G R (drop k entries) ≡ false
    zeros_reach-over here = ap (zeros_reach G R) entries_from ∙ zeros_reach-cons G R e (drop (suc k) entries) ∙ and_left _ _ here

-- ---- zero entries and zero generators

module _ (row : Row) (k : ℕ) (below : k < length row) (f : Polynomial) (f_is : slice_index_or row k f ≡ f) where
  row_from : drop k row ≡ f ∷ drop (suc k) row
  row_from = drop-cons row k f below ∙ ap (λ f. f ∷ drop (suc k) row) f_is

  pub zero_row-step : (j : ℕ) → j ≡ suc k → f ≡ [] → is_zero_row (drop k row) ≡ is_zero_row (drop j row)
  zero_row-step j next none = ap is_zero_row row_from ∙ ap (λ f. is_zero_row (f ∷ drop (suc k) row)) none ∙ ap (λ j. is_zero_row (drop j row)) (sym next)

  pub zero_row-over : f ≢ [] → is_zero_row (drop k row) ≡ false
  zero_row-over some = ap is_zero_row row_from ∙ by f some
    where
      by : (f : Polynomial) → f ≢ [] → is_zero_row (f ∷ drop (suc k) row) ≡ false
      by [] some = absurd (some refl)
      by (t ∷ f) some = refl

module _ (A : Algebra) (g : ℕ) (gens : List Polynomial) (k : ℕ) (below : k < length gens) (f : Polynomial) (f_is : slice_index_or gens k f ≡ f) where
  pub units-zero : (done more : List Row) (j : ℕ) → j ≡ suc k → f ≡ [] → more ≡ done ++ unit_row A g (suc k) ∷ []
      → more ++ zero_units A g (suc j) (drop j gens) ≡ done ++ zero_units A g (suc k) (drop k gens)
  units-zero done more j next none is =
      (λ i. is i ++ zero_units A g (suc (next i)) (drop (next i) gens))
      ∙ append_assoc done (unit_row A g (suc k) ∷ []) (zero_units A g (suc (suc k)) (drop (suc k) gens))
      ∙ ap (λ rows. done ++ rows)
      (ap (λ f. zero_units A g (suc k) (f ∷ drop (suc k) gens)) (sym none) ∙ ap (zero_units A g (suc k)) (sym (row_from gens k below f f_is)))

  pub units-some : (done : List Row) (j : ℕ) → j ≡ suc k → f ≢ []
      → done ++ zero_units A g (suc j) (drop j gens) ≡ done ++ zero_units A g (suc k) (drop k gens)
  units-some done j next some =
      (λ i. done ++ zero_units A g (suc (next i)) (drop (next i) gens))
      ∙ ap (λ rows. done ++ rows) (by f some ∙ ap (zero_units A g (suc k)) (sym (row_from gens k below f f_is)))
    where
      by : (f : Polynomial) → f ≢ [] → zero_units A g (suc (suc k)) (drop (suc k) gens) ≡ zero_units A g (suc k) (f ∷ drop (suc k) gens)
      by [] some = absurd (some refl)
      by (t ∷ f) some = refl

-- ---- the syzygies

pub syzygy_rows-is : (A : Algebra) (gens : List Polynomial) (J : Journal) (G : List Polynomial) (E : List Entry) (rows : List Row) → G ≡ J.basis → E ≡ J.entries
    → rows ≡ entry_syzygies A (length gens) G (rows_after A (length gens) G [] E) E ++ zero_units A (length gens) 1 gens
    → all_reach G (rows_after A (length gens) G [] E) E ≡ true → (syzygy_rows A gens J ≡ Some rows) × (rows ≡ syzygies A gens J)
unfolding syzygy_rows syzygies basis_rows
syzygy_rows-is A gens J G E rows basis entries is reach =
    let n : ℕ = length gens in
    let R : List Row = rows_after A n J.basis [] J.entries in
    let Z : List Row = entry_syzygies A n J.basis R J.entries ++ zero_units A n 1 gens in
    let rows_are : rows ≡ entry_syzygies A (length gens) J.basis (rows_after A (length gens) J.basis [] J.entries) J.entries ++ zero_units A (length gens) 1 gens =
    is ∙ (λ i. entry_syzygies A n (basis i) (rows_after A n (basis i) [] (entries i)) (entries i) ++ zero_units A n 1 gens) in
    let on : all_reach J.basis (rows_after A (length gens) J.basis [] J.entries) J.entries ≡ true =
    (λ i. all_reach (sym basis i) (rows_after A n (sym basis i) [] (sym entries i)) (sym entries i)) ∙ reach in
    (ap (λ x. if x then Some Z else None) on ∙ ap (λ rows. Some rows) (sym rows_are), rows_are)

pub syzygy_rows-none : (A : Algebra) (gens : List Polynomial) (J : Journal) (G : List Polynomial) (E : List Entry) → G ≡ J.basis → E ≡ J.entries
    → all_reach G (rows_after A (length gens) G [] E) E ≡ false → syzygy_rows A gens J ≡ None
unfolding syzygy_rows basis_rows
syzygy_rows-none A gens J G E basis entries over =
    let n : ℕ = length gens in
    ap (λ x. if x then Some (syzygies A gens J) else None)
    ((λ i. all_reach (sym basis i) (rows_after A n (sym basis i) [] (sym entries i)) (sym entries i)) ∙ over)

-- what holds of one of a list holds of each
pub each-one_of : {X : Type 0} (P : X → Type 0) (xs : List X) → ((x : X) → IsOneOf x xs → P x) → Each P xs
each-one_of P [] h = tt
each-one_of P (x ∷ xs) h = (h x (inl refl), each-one_of P xs (λ y m. h y (inr m)))

module _ (A : Algebra) (ok : IsGAlgebra A) (gens : List Polynomial) (sorted : Each (IsPolynomial A.p A.order) gens) (J : Journal)
    (run : (budget : ℕ) × (J ≡ machine A gens Left budget)) (rows : List Row) (rows_are : rows ≡ syzygies A gens J) where
  of_run : rows ≡ syzygies A gens (machine A gens Left run.0)
  of_run = rows_are ∙ ap (λ (J : Journal). syzygies A gens J) run.1

  pub each-relation : Each (λ row. row_value A row gens ≡ []) rows
  each-relation =
      each-one_of (λ row. row_value A row gens ≡ []) rows
      (λ row m. syzygy_value A ok gens sorted run.0 row (subst (λ rows. IsOneOf row rows) of_run m))

  pub all-relations : J.outcome ≡ Finished → IsWellFounded A.order → (q : Row) → length q ≡ length gens → Each (IsPolynomial A.p A.order) q → row_value A q gens ≡ []
      → IsRowCombination A rows q
  all-relations end well q len q_is none =
      subst (λ rows. IsRowCombination A rows q) (sym of_run)
      (row_sum-combination A ok (syzygies A gens (machine A gens Left run.0)) q q_is
      (relation_sum A ok gens sorted run.0 (ap (λ (J : Journal). J.outcome) (sym run.1) ∙ end) well q len
      (Each-weaker _ _ (λ f h. h.vars) q q_is) none))
