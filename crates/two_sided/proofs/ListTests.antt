-- The tests of a finished list, as the program makes them.
use Rattle.std.proofs.Common.{◌≡◌, ℕ, ◌+◌, ◌<◌, ◌&&◌, ◌==◌, nat_le, nat_eq, Bool, true, false, IsTrue, ◌↔◌, List, [], ◌∷◌, ◌++◌, length, drop, get_or, refl, sym, ap, ◌∙◌}
use Rattle.std.specs.Bool.{Decides}
use Rattle.std.specs.Cmp.Lexicographic.{pointwise}
use Rattle.std.proofs.lemmas.Bool.{and_parts, and_from}
use Rattle.std.proofs.lemmas.Bool.Decides.{Decides-eqb, same_from_decides}
use Rattle.std.proofs.lemmas.Slice.Eq.{slice_eq-Decides, bytes_eq-Decides}
use Rattle.std.proofs.lemmas.List.{drop_more}
use Rattle.monomials.specs.Monomials.{Monomial}
use Rattle.monomials.specs.Polynomials.{Polynomial}
use Rattle.word_model.specs.Words.{Algebra}
use Rattle.word_model.specs.Reduction.{element}
use Rattle.word_model.specs.Finished.{FinishedList}
use Rattle.word_model.specs.Certificates.{less_trace}
use Rattle.word_model.specs.declared.records.TraceStep.{TraceStep}
use Rattle.two_sided.specs.Checks.{Holds, Fails, TooHigh, first_answer, tested, reached, names_elements, trace_within, same_polynomial, one_each, final_answers, finals_answers, list_answers}
use Rattle.two_sided.proofs.Firsts.{first_more, first_fails, first_high, last_test}

-- the test of polynomials decides their equality
same_term : (t u : ℕ × Monomial) → Decides (nat_eq t.0 u.0 && pointwise nat_eq t.1 u.1) (t ≡ u)
same_term t u = (
  λ e.
      let parts = and_parts (nat_eq t.0 u.0) (pointwise nat_eq t.1 u.1) e in
      let number : t.0 ≡ u.0 = (Decides-eqb t.0 u.0).0 parts.0 in
      let mono : t.1 ≡ u.1 = (bytes_eq-Decides t.1 u.1).0 parts.1 in
      λ i. (number i, mono i),
  λ e.
      and_from (nat_eq t.0 u.0) (pointwise nat_eq t.1 u.1) ((Decides-eqb t.0 u.0).1 (ap (λ (v : ℕ × Monomial). v.0) e))
      ((bytes_eq-Decides t.1 u.1).1 (ap (λ (v : ℕ × Monomial). v.1) e)),
)

pub same_polynomial-Decides : (f g : Polynomial) → Decides (same_polynomial f g) (f ≡ g)
same_polynomial-Decides f g = slice_eq-Decides same_term f g (same_polynomial f g) refl

module _ (A : Algebra) (G : List Polynomial) (f : Polynomial) (o : ℕ) (tail : List TraceStep) where
  abbrev pub named : Bool
  named = (nat_le 1 o && nat_le o (length G)) && names_elements (length G) tail

  abbrev pub left : Polynomial
  left = less_trace A G (element G o) tail

  pub unnamed : named ≡ false → first_answer (final_answers A G f o tail) ≡ Fails
  unnamed h = ap (λ b. first_answer (tested b ∷ reached (trace_within G tail) ∷ tested (same_polynomial left f) ∷ [])) h

  pub too_high : named ≡ true → trace_within G tail ≡ false → first_answer (final_answers A G f o tail) ≡ TooHigh
  too_high names over = (λ k. first_answer (tested (names k) ∷ reached (over k) ∷ tested (same_polynomial left f) ∷ []))

  pub answered : named ≡ true → trace_within G tail ≡ true → (g : Polynomial) → g ≡ left → (r : Bool) → IsTrue r ↔ (g ≡ f)
      → first_answer (final_answers A G f o tail) ≡ tested r
  answered names low g is r same =
      (λ k. first_answer (tested (names k) ∷ reached (low k) ∷ tested (same_polynomial (sym is k) f) ∷ []))
      ∙ ap (λ b. first_answer (tested b ∷ [])) (same_from_decides (same_polynomial g f) r (same_polynomial-Decides g f) same)
      ∙ last_test r

-- ---- one element of several

module _ (A : Algebra) (G list : List Polynomial) (origin : List ℕ) (tails : List (List TraceStep)) (k : ℕ) (f : Polynomial) (o : ℕ) (tail : List TraceStep)
    (f_below : k < length list) (o_below : k < length origin) (tail_below : k < length tails)
    (f_is : get_or list k f ≡ f) (o_is : get_or origin k o ≡ o) (tail_is : get_or tails k tail ≡ tail) where
  here : first_answer (finals_answers A G (drop k list) (drop k origin) (drop k tails))
      ≡ first_answer (final_answers A G f o tail ++ finals_answers A G (drop (k + 1) list) (drop (k + 1) origin) (drop (k + 1) tails))
  here =
      let fs : drop k list ≡ f ∷ drop (k + 1) list = drop_more list k f f_below ∙ ap (λ x. x ∷ drop (k + 1) list) f_is in
      let os : drop k origin ≡ o ∷ drop (k + 1) origin = drop_more origin k o o_below ∙ ap (λ x. x ∷ drop (k + 1) origin) o_is in
      let ts : drop k tails ≡ tail ∷ drop (k + 1) tails = drop_more tails k tail tail_below ∙ ap (λ x. x ∷ drop (k + 1) tails) tail_is in
      λ i. first_answer (finals_answers A G (fs i) (os i) (ts i))

  pub final_fails : first_answer (final_answers A G f o tail) ≡ Fails → first_answer (finals_answers A G (drop k list) (drop k origin) (drop k tails)) ≡ Fails
  final_fails e = here ∙ first_fails (final_answers A G f o tail) _ e

  pub final_high : first_answer (final_answers A G f o tail) ≡ TooHigh → first_answer (finals_answers A G (drop k list) (drop k origin) (drop k tails)) ≡ TooHigh
  final_high e = here ∙ first_high (final_answers A G f o tail) _ e

  pub final_more : first_answer (final_answers A G f o tail) ≡ Holds
      → first_answer (finals_answers A G (drop k list) (drop k origin) (drop k tails))
      ≡ first_answer (finals_answers A G (drop (k + 1) list) (drop (k + 1) origin) (drop (k + 1) tails))
  final_more e = here ∙ first_more (final_answers A G f o tail) _ e

-- lengths that are told apart
pub lengths_differ : (A : Algebra) (G : List Polynomial) (F : FinishedList) → one_each F ≡ false → first_answer (list_answers A G F) ≡ Fails
lengths_differ A G F h = ap (λ b. first_answer (tested b ∷ finals_answers A G F.list F.origin F.tails)) h

pub lengths_agree : (A : Algebra) (G : List Polynomial) (F : FinishedList) → one_each F ≡ true
    → first_answer (list_answers A G F) ≡ first_answer (finals_answers A G F.list F.origin F.tails)
lengths_agree A G F h = ap (λ b. first_answer (tested b ∷ finals_answers A G F.list F.origin F.tails)) h

pub lengths_are : (F : FinishedList) → one_each F ≡ true → (length F.origin ≡ length F.list) × (length F.tails ≡ length F.list)
lengths_are F e =
    let p = and_parts (length F.origin == length F.list) (length F.tails == length F.list) e in
    ((Decides-eqb (length F.origin) (length F.list)).0 p.0, (Decides-eqb (length F.tails) (length F.list)).0 p.1)
