-- The entries of a value for all pairs of variables.
use Rattle.std.proofs.Common.{◌≡◌, ◌∙◌, ◌<◌, ℕ, Bool, true, false, List, [], ◌∷◌, map, Ok, Err, refl, ap}
use Rattle.std.specs.List.{list_all}
use Rattle.std.proofs.lemmas.Bool.{false≢true}
use Rattle.std.proofs.lemmas.List.Folds.{list_all-map}
use Rattle.monomials.specs.Orders.{RowOrder}
use Rattle.monomials.specs.Polynomials.{Each, IsPolynomial, Polynomial}
use Rattle.monomials.specs.Leading.{leading_coefficient}
use Rattle.word_model.specs.Words.{Algebra}
use Rattle.word_model.proofs.Acceptance.{Each-get_or}
use Rattle.script_model.specs.declared.values.Value.{Value}
use Rattle.script_model.specs.declared.values.Value.TheVariants.{Poly, Ideal, Module, Matrix, Lines, Ring}
use Rattle.script_model.specs.declared.values.Refusal.TheVariants as refused
use Rattle.script_model.specs.Refusals.{◌>>=◌}
use Rattle.script_model.specs.Statements.{all_pairs, constants_for, entries_for, is_constant, is_varying, numbers_for}
use Rattle.script_values.specs.Values.{ArePolynomials, IsValueOf}
use Rattle.script_rings.specs.Entries.{entry_for, has_entries}

-- ---- polynomials for all pairs

pub entries-are : (n : ℕ) (v : Value) → has_entries n v ≡ true → entries_for n v ≡ Ok (map (entry_for v) (all_pairs n))
entries-are n (Poly f) h = refl
entries-are n (Matrix rows) h = rw h refl
entries-are n (Ideal gens) h = absurd (false≢true h)
entries-are n (Module rows) h = absurd (false≢true h)
entries-are n (Lines text) h = absurd (false≢true h)
entries-are n (Ring k) h = absurd (false≢true h)

-- ---- numbers for all pairs

module _ (n : ℕ) (v : Value) (constant : is_varying v ≡ false) (entries : has_entries n v ≡ true) where
  begun : constants_for n v ≡ numbers_for (map (entry_for v) (all_pairs n))
  begun = rw constant (ap (λ o. o >>= numbers_for) (entries-are n v entries))

  test-is : (b : Bool) → list_all (λ ij. is_constant (entry_for v ij)) (all_pairs n) ≡ b → list_all is_constant (map (entry_for v) (all_pairs n)) ≡ b
  test-is b h = list_all-map is_constant (entry_for v) (all_pairs n) ∙ h

  pub constants-are : list_all (λ ij. is_constant (entry_for v ij)) (all_pairs n) ≡ true
      → constants_for n v ≡ Ok (map (λ ij. leading_coefficient (entry_for v ij)) (all_pairs n))
  constants-are h = begun ∙ rw (test-is true h) (ap Ok (maps (all_pairs n)))
    where
      maps : (ps : List (ℕ × ℕ)) → map leading_coefficient (map (entry_for v) ps) ≡ map (λ ij. leading_coefficient (entry_for v ij)) ps
      maps [] = refl
      maps (ij ∷ ps) = ap (λ ks. leading_coefficient (entry_for v ij) ∷ ks) (maps ps)

  pub constants-vary : list_all (λ ij. is_constant (entry_for v ij)) (all_pairs n) ≡ false → constants_for n v ≡ Err refused.Kind
  constants-vary h = begun ∙ rw (test-is false h) refl

-- ---- what entries are

zero-is : (p : ℕ) (o : RowOrder) → IsPolynomial p o []
zero-is p o = record { canonical = tt; vars = tt }

entry-is : (A : Algebra) (v : Value) → IsValueOf A v → (ij : ℕ × ℕ) → IsPolynomial A.p A.order (entry_for v ij)
entry-is A (Poly f) h ij = h
entry-is A (Matrix rows) h ij = Each-get_or (IsPolynomial A.p A.order) _ _ [] (Each-get_or (ArePolynomials A) rows _ [] h tt) (zero-is A.p A.order)
entry-is A (Ideal gens) h ij = zero-is A.p A.order
entry-is A (Module rows) h ij = zero-is A.p A.order
entry-is A (Lines text) h ij = zero-is A.p A.order
entry-is A (Ring k) h ij = zero-is A.p A.order

leading-below : (p : ℕ) (o : RowOrder) (f : Polynomial) → 0 < p → IsPolynomial p o f → leading_coefficient f < p
leading-below p o [] some h = some
leading-below p o (t ∷ f) some h = h.canonical.1

Each-map : {X Y : Type 0} (P : Y → Type 0) (f : X → Y) → ((x : X) → P (f x)) → (xs : List X) → Each P (map f xs)
Each-map P f h [] = tt
Each-map P f h (x ∷ xs) = (h x, Each-map P f h xs)

module _ (A : Algebra) (v : Value) (is : IsValueOf A v) (ps : List (ℕ × ℕ)) where
  pub entries-polynomials : Each (IsPolynomial A.p A.order) (map (entry_for v) ps)
  entries-polynomials = Each-map (IsPolynomial A.p A.order) (entry_for v) (entry-is A v is) ps

  pub constants-below : 0 < A.p → Each (λ k. k < A.p) (map (λ ij. leading_coefficient (entry_for v ij)) ps)
  constants-below some =
      Each-map (λ k. k < A.p) (λ ij. leading_coefficient (entry_for v ij)) (λ ij. leading-below A.p A.order (entry_for v ij) some (entry-is A v is ij)) ps
