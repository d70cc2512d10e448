-- Values that statements give a name.
use Rattle.std.proofs.Common.{◌≡◌, ℕ, zero, suc, ◌+◌, ◌-◌, ◌<◌, List, [], ◌∷◌, ◌++◌, length, take, drop, replicate, get_or, slice_set, Ok, Err, refl, sym, ap, subst, ◌∙◌, append_assoc, arith}
use Rattle.std.specs.Prelude.{IfOk}
use Rattle.std.proofs.lemmas.List.{set_split}
use Rattle.monomials.specs.Polynomials.{Polynomial, Each, IsPolynomial}
use Rattle.monomials.proofs.Keys.{Each-append}
use Rattle.gpoly.proofs.Gathered.{Each-drop, Each-set}
use Rattle.word_model.specs.Words.{Algebra}
use Rattle.word_model.proofs.Acceptance.{Each-get_or}
use Rattle.script_model.specs.declared.values.Value.{Value}
use Rattle.script_model.specs.declared.values.Value.TheVariants as value
use Rattle.script_model.specs.declared.values.Refusal.{Refusal}
use Rattle.script_model.specs.declared.values.Refusal.TheVariants as refused
use Rattle.script_model.specs.Refusals.{Outcome, ◌>>=◌}
use Rattle.script_model.specs.Operations.{poly_of}
use Rattle.script_model.specs.Statements.{all_polys, matrix_rows, with_entry}
use Rattle.script_values.specs.Values.{ArePolynomials, IsValueOf}
use Rattle.script_values.specs.declared.stop.Stop.{Stop}
use Rattle.script_values.specs.Gives.{Stops}
use Rattle.script_values.proofs.Lists.{Each-take, Each-replicate}
use Rattle.script_values.proofs.Stopping.{stops_through}

-- ---- all values are polys

-- what is found in front of what was found
abbrev pub appended : List Polynomial → Outcome (List Polynomial) → Outcome (List Polynomial)
appended found o = o >>= λ before. Ok (before ++ found)

-- the only refusal there is
abbrev OnlyKind : {A : Type 0} → Outcome A → Type 0
OnlyKind (Ok a) = Unit {0}
OnlyKind (Err r) = r ≡ refused.Kind

poly_of-kind : (v : Value) → OnlyKind (poly_of v)
poly_of-kind (value.Poly f) = tt
poly_of-kind (value.Ideal gens) = refl
poly_of-kind (value.Module rows) = refl
poly_of-kind (value.Matrix rows) = refl
poly_of-kind (value.Lines text) = refl
poly_of-kind (value.Ring k) = refl

with_first-kind : (o : Outcome Polynomial) (p : Outcome (List Polynomial)) → OnlyKind o → OnlyKind p → OnlyKind (o >>= λ f. p >>= λ fs. Ok (f ∷ fs))
with_first-kind (Err r) p h k = h
with_first-kind (Ok f) (Err r) h k = k
with_first-kind (Ok f) (Ok fs) h k = tt

all_polys-kind : (vs : List Value) → OnlyKind (all_polys vs)
all_polys-kind [] = tt
all_polys-kind (v ∷ vs) = with_first-kind (poly_of v) (all_polys vs) (poly_of-kind v) (all_polys-kind vs)

with_last : (o : Outcome Polynomial) (p : Outcome (List Polynomial)) (q : Outcome Polynomial)
    → (o >>= λ f. (p >>= λ fs. q >>= λ g. Ok (fs ++ g ∷ [])) >>= λ fs. Ok (f ∷ fs)) ≡ ((o >>= λ f. p >>= λ fs. Ok (f ∷ fs)) >>= λ fs. q >>= λ g. Ok (fs ++ g ∷ []))
with_last (Err r) p q = refl
with_last (Ok f) (Err r) q = refl
with_last (Ok f) (Ok fs) (Err r) = refl
with_last (Ok f) (Ok fs) (Ok g) = refl

alone : (o : Outcome Polynomial) → (o >>= λ f. Ok (f ∷ [])) ≡ (o >>= λ g. Ok ([] ++ g ∷ []))
alone (Err r) = refl
alone (Ok f) = refl

all_polys-last : (vs : List Value) (v : Value) → all_polys (vs ++ v ∷ []) ≡ (all_polys vs >>= λ fs. poly_of v >>= λ g. Ok (fs ++ g ∷ []))
all_polys-last [] v = alone (poly_of v)
all_polys-last (u ∷ vs) v =
    ap (λ p. poly_of u >>= λ f. p >>= λ fs. Ok (f ∷ fs)) (all_polys-last vs v) ∙ with_last (poly_of u) (all_polys vs) (poly_of v)

appended_more : (o : Outcome (List Polynomial)) (g : Polynomial) (found : List Polynomial) → appended found (o >>= λ fs. Ok (fs ++ g ∷ [])) ≡ appended (g ∷ found) o
appended_more (Err r) g found = refl
appended_more (Ok fs) g found = ap Ok (append_assoc fs (g ∷ []) found)

refused_last : (p : Outcome (List Polynomial)) (r : Refusal) (found : List Polynomial) → OnlyKind p → r ≡ refused.Kind
    → appended found (p >>= λ fs. Err r >>= λ g. Ok (fs ++ g ∷ [])) ≡ Err r
refused_last (Ok fs) r found h k = refl
refused_last (Err s) r found h k = ap Err (h ∙ sym k)

module _ (all : Outcome (List Polynomial)) (left rest : List Value) (found : List Polynomial) (v : Value) (e : left ≡ rest ++ v ∷ []) (so_far : all ≡ appended found (all_polys left)) where
  last_step : (o : Outcome Polynomial) → poly_of v ≡ o → all ≡ appended found (all_polys rest >>= λ fs. o >>= λ g. Ok (fs ++ g ∷ []))
  last_step o s =
      so_far ∙ ap (λ vs. appended found (all_polys vs)) e ∙ ap (appended found) (all_polys-last rest v)
      ∙ ap (λ q. appended found (all_polys rest >>= λ fs. q >>= λ g. Ok (fs ++ g ∷ []))) s

  pub polys_go : (f : Polynomial) → poly_of v ≡ Ok f → all ≡ appended (f ∷ found) (all_polys rest)
  polys_go f s = last_step (Ok f) s ∙ appended_more (all_polys rest) f found

  pub polys_fail : (stop : Stop) → Stops stop (poly_of v) → Stops stop all
  polys_fail stop s =
      stops_through stop (poly_of v) all
      (λ r t. last_step (Err r) t ∙ refused_last (all_polys rest) r found (all_polys-kind rest) (subst OnlyKind t (poly_of-kind v))) s

-- no value is left
pub polys_end : (all : Outcome (List Polynomial)) (left : List Value) (found fs : List Polynomial) → all ≡ appended found (all_polys left) → left ≡ [] → fs ≡ found → all ≡ Ok fs
polys_end all left found fs so_far e is = so_far ∙ ap (λ vs. appended found (all_polys vs)) e ∙ ap Ok (sym is)

-- ---- values of a ring

zero_polynomial : (A : Algebra) → IsPolynomial A.p A.order []
zero_polynomial A = record { canonical = tt; vars = tt }

module _ (A : Algebra) where
  poly_of-of_ring : (v : Value) → IsValueOf A v → IfOk (poly_of v) (IsPolynomial A.p A.order)
  poly_of-of_ring (value.Poly f) h = h
  poly_of-of_ring (value.Ideal gens) h = tt
  poly_of-of_ring (value.Module rows) h = tt
  poly_of-of_ring (value.Matrix rows) h = tt
  poly_of-of_ring (value.Lines text) h = tt
  poly_of-of_ring (value.Ring k) h = tt

  with_first-of_ring : (o : Outcome Polynomial) (p : Outcome (List Polynomial)) → IfOk o (IsPolynomial A.p A.order) → IfOk p (ArePolynomials A)
      → IfOk (o >>= λ f. p >>= λ fs. Ok (f ∷ fs)) (ArePolynomials A)
  with_first-of_ring (Err r) p h k = tt
  with_first-of_ring (Ok f) (Err r) h k = tt
  with_first-of_ring (Ok f) (Ok fs) h k = (h, k)

  pub all_polys-of_ring : (vs : List Value) → Each (IsValueOf A) vs → IfOk (all_polys vs) (ArePolynomials A)
  all_polys-of_ring [] h = tt
  all_polys-of_ring (v ∷ vs) h = with_first-of_ring (poly_of v) (all_polys vs) (poly_of-of_ring v h.0) (all_polys-of_ring vs h.1)

  pub matrix_rows-of_ring : (r c : ℕ) (fs : List Polynomial) → ArePolynomials A fs → Each (ArePolynomials A) (matrix_rows r c fs)
  matrix_rows-of_ring zero c fs h = tt
  matrix_rows-of_ring (suc r) c fs h =
      let P = IsPolynomial A.p A.order in (
        Each-take P c (fs ++ replicate c []) (Each-append P fs (replicate c []) h (Each-replicate P c [] (zero_polynomial A))),
        matrix_rows-of_ring r c (drop c fs) (Each-drop P c fs h),
      )

  pub with_entry-of_ring : (rows : List (List Polynomial)) (i j : ℕ) (f : Polynomial) → Each (ArePolynomials A) rows → IsPolynomial A.p A.order f
      → Each (ArePolynomials A) (with_entry rows i j f)
  with_entry-of_ring rows i j f all h =
      let P = IsPolynomial A.p A.order in
      let Q = ArePolynomials A in
      Each-set Q rows (i - 1) _ all (Each-set P _ (j - 1) f (Each-get_or Q rows (i - 1) [] all tt) h)

-- ---- rows of a matrix

-- one row more
pub rows_more : (c r k : ℕ) (left rest : List Polynomial) (row : List Polynomial) (done all : List (List Polynomial)) → k < r
    → all ≡ done ++ matrix_rows (r - k) c left → row ≡ take c (left ++ replicate c []) → rest ≡ drop c left
    → all ≡ (done ++ row ∷ []) ++ matrix_rows (r - (k + 1)) c rest
rows_more c r k left rest row done all less so_far is e =
    let one_less : r - k ≡ suc (r - (k + 1)) = omega (arith, less) in
    so_far ∙ ap (λ n. done ++ matrix_rows n c left) one_less
    ∙ ap (λ fs. done ++ take c (left ++ replicate c []) ∷ matrix_rows (r - (k + 1)) c fs) (sym e)
    ∙ ap (λ ys. done ++ ys ∷ matrix_rows (r - (k + 1)) c rest) (sym is)
    ∙ sym (append_assoc done (row ∷ []) (matrix_rows (r - (k + 1)) c rest))

-- ---- an entry of a matrix

pub with_entry_is : (rows before behind all : List (List Polynomial)) (row changed : List Polynomial) (i j : ℕ) (f : Polynomial) → i - 1 < length rows
    → row ≡ get_or rows (i - 1) [] → changed ≡ slice_set row (j - 1) f → before ≡ take (i - 1) rows → behind ≡ drop (i - 1 + 1) rows
    → all ≡ (before ++ changed ∷ []) ++ behind → all ≡ with_entry rows i j f
with_entry_is rows before behind all row changed i j f within e is first last whole =
    let next : i - 1 + 1 ≡ suc (i - 1) = omega arith in
    whole ∙ append_assoc before (changed ∷ []) behind
    ∙ ap (λ xs. xs ++ changed ∷ behind) first
    ∙ ap (λ y. take (i - 1) rows ++ y ∷ behind) (is ∙ ap (λ y. slice_set y (j - 1) f) e)
    ∙ ap (λ xs. take (i - 1) rows ++ slice_set (get_or rows (i - 1) []) (j - 1) f ∷ xs) (last ∙ ap (λ n. drop n rows) next)
    ∙ sym (set_split rows (i - 1) (slice_set (get_or rows (i - 1) []) (j - 1) f) within)
