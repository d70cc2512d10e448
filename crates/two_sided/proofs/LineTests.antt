-- The tests of a line, as the program makes them.
use Rattle.std.proofs.Common.{◌≡◌, ◌≢◌, ℕ, ◌+◌, ◌<◌, ◌&&◌, ◌==◌, nat_le, nat_lt, Bool, true, false, List, [], ◌∷◌, ◌++◌, length, drop, get_or, Option, Some, None, MatchOption, IfSome, is_some, refl, sym, ap, ◌∙◌, subst, arith}
use Rattle.std.specs.Option.{unwrap_or}
use Rattle.std.proofs.lemmas.Bool.{and_parts, leb-true}
use Rattle.std.proofs.lemmas.Bool.Decides.{nat_tests}
use Rattle.std.proofs.lemmas.List.{drop_more}
use Rattle.monomials.specs.Leading.{leading_coefficient}
use Rattle.monomials.specs.Polynomials.{Polynomial, Each, IsPolynomial, poly_scale}
use Rattle.word_model.specs.Words.{Algebra}
use Rattle.word_model.specs.Jobs.{start_of, IsJob, NamesNonzero}
use Rattle.word_model.specs.Machine.{IsElement}
use Rattle.word_model.specs.Certificates.{less_trace}
use Rattle.word_model.specs.declared.records.Job.{Job}
use Rattle.word_model.specs.declared.records.Job.TheVariants.{Seed, Pair, Right}
use Rattle.word_model.specs.declared.records.TraceStep.{TraceStep}
use Rattle.word_model.specs.declared.records.Entry.{Entry}
use Rattle.word_model.specs.declared.records.Entry.TheVariants.{New}
use Rattle.word_model.proofs.LeastNumbers.{Each-element}
use Rattle.two_sided.specs.Checks.{Holds, Fails, TooHigh, first_answer, tested, reached, names_job, names_elements, trace_within, line_value, line_answers, lines_values, lines_answers}
use Rattle.two_sided.proofs.Firsts.{first_more, first_fails, first_high}

-- a job that names what is there
pub names_job-is : (g m n : ℕ) (job : Job) → names_job g m n job ≡ true → IsJob g m n job
names_job-is g m n (Seed s) e = let p = and_parts (nat_le 1 s) (nat_le s g) e in (leb-true 1 s p.0, leb-true s g p.1)
names_job-is g m n (Pair i j) e =
    let p = and_parts (nat_le 1 i && nat_lt i j) (nat_le j m) e in
    let q = and_parts (nat_le 1 i) (nat_lt i j) p.0 in
    let less : i < j = grind (arith, nat_tests, q.1) in
    (leb-true 1 i q.0, less, leb-true j m p.1)
names_job-is g m n (Right i v) e =
    let p = and_parts (nat_le 1 i && nat_le i m && nat_le 1 v) (nat_le v n) e in
    let q = and_parts (nat_le 1 i && nat_le i m) (nat_le 1 v) p.0 in
    let r = and_parts (nat_le 1 i) (nat_le i m) q.0 in
    (leb-true 1 i r.0, leb-true i m r.1, leb-true 1 v q.1, leb-true v n p.1)

-- elements are not zero, so neither is what a pair or a product on the right names
pub names_nonzero : (A : Algebra) (gens G : List Polynomial) (job : Job) → Each (IsElement A) G → IsJob (length gens) (length G) A.order.vars job
    → ((s : ℕ) → job ≢ Seed s) → NamesNonzero gens G job
names_nonzero A gens G (Seed s) elements range other = absurd (other s refl)
names_nonzero A gens G (Pair i j) elements range other = (
  (Each-element (IsElement A) G i elements range.0 (omega (arith, range.1, range.2))).1,
  (Each-element (IsElement A) G j elements (omega (arith, range.0, range.1)) range.2).1,
)
names_nonzero A gens G (Right i v) elements range other = (Each-element (IsElement A) G i elements range.0 range.1).1

-- a monic polynomial is an element
pub monic_element : (A : Algebra) (f : Polynomial) (o : Option Polynomial) → IsPolynomial A.p A.order f
    → MatchOption o ((leading_coefficient f == 1) ≡ false) (λ g. ((leading_coefficient f == 1) ≡ true) × (g ≡ f)) → IfSome o (IsElement A)
monic_element A f None f_is m = tt
monic_element A f (Some g) f_is m = (
  subst (IsPolynomial A.p A.order) (sym m.1) f_is,
  λ none. (let zero_monic : (leading_coefficient [] == 1) ≡ true = ap (λ f. leading_coefficient f == 1) (sym none ∙ m.1) ∙ m.0 in cc),
)

module _ (A : Algebra) (gens H : List Polynomial) where
  module _ (job : Job) (trace : List TraceStep) where
    abbrev pub named : Bool
    named = names_job (length gens) (length H) A.order.vars job && names_elements (length H) trace

    abbrev pub within : Bool
    within = is_some (start_of A gens H job) && trace_within H trace

    abbrev pub left : Polynomial
    left = less_trace A H (unwrap_or (start_of A gens H job) []) trace

    module _ (scale : ℕ) (line : Entry) (is : line ≡ New job trace scale) where
      answers_are : first_answer (line_answers A gens H line)
          ≡ first_answer (tested named ∷ reached within ∷ tested (leading_coefficient (poly_scale A.p scale left) == 1) ∷ [])
      answers_are = ap (λ l. first_answer (line_answers A gens H l)) is

      pub unnamed : named ≡ false → first_answer (line_answers A gens H line) ≡ Fails
      unnamed h = answers_are ∙ ap (λ b. first_answer (tested b ∷ reached within ∷ tested (leading_coefficient (poly_scale A.p scale left) == 1) ∷ [])) h

      pub too_high : (named ≡ true) × (within ≡ false) → first_answer (line_answers A gens H line) ≡ TooHigh
      too_high h = answers_are ∙ (λ k. first_answer (tested (h.0 k) ∷ reached (h.1 k) ∷ tested (leading_coefficient (poly_scale A.p scale left) == 1) ∷ []))

      -- what is left, scaled, where it is monic
      pub made : (f g : Polynomial) (o : Option Polynomial) → (named ≡ true) × (within ≡ true) × (f ≡ left) → g ≡ poly_scale A.p scale f
          → MatchOption o ((leading_coefficient g == 1) ≡ false) (λ h. ((leading_coefficient g == 1) ≡ true) × (h ≡ g))
          → MatchOption o (first_answer (line_answers A gens H line) ≡ Fails) (λ h. (first_answer (line_answers A gens H line) ≡ Holds) × (h ≡ line_value A gens H line))
      made f g o h g_is = by o
        where
          value : g ≡ poly_scale A.p scale left
          value = g_is ∙ ap (poly_scale A.p scale) h.2

          answers : (b : Bool) → (leading_coefficient g == 1) ≡ b → first_answer (line_answers A gens H line) ≡ first_answer (tested b ∷ [])
          answers b e =
              answers_are ∙ (λ k. first_answer (tested (h.0 k) ∷ reached (h.1 k) ∷ tested (leading_coefficient (sym value k) == 1) ∷ []))
              ∙ ap (λ b. first_answer (tested b ∷ [])) e

          by : (o : Option Polynomial) → MatchOption o ((leading_coefficient g == 1) ≡ false) (λ h. ((leading_coefficient g == 1) ≡ true) × (h ≡ g))
              → MatchOption o (first_answer (line_answers A gens H line) ≡ Fails) (λ h. (first_answer (line_answers A gens H line) ≡ Holds) × (h ≡ line_value A gens H line))
          by None e = answers false e
          by (Some k) e = (answers true e.0, e.1 ∙ value ∙ ap (line_value A gens H) (sym is))

  -- ---- one line of several

  module _ (lines : List Entry) (k : ℕ) (line : Entry) (below : k < length lines) (is : get_or lines k line ≡ line) where
    here : drop k lines ≡ line ∷ drop (k + 1) lines
    here = drop_more lines k line below ∙ ap (λ x. x ∷ drop (k + 1) lines) is

    answers_here : first_answer (lines_answers A gens H (drop k lines))
        ≡ first_answer (line_answers A gens H line ++ lines_answers A gens (H ++ line_value A gens H line ∷ []) (drop (k + 1) lines))
    answers_here = ap (λ l. first_answer (lines_answers A gens H l)) here

    pub line_fails : first_answer (line_answers A gens H line) ≡ Fails → first_answer (lines_answers A gens H (drop k lines)) ≡ Fails
    line_fails e = answers_here ∙ first_fails (line_answers A gens H line) _ e

    pub line_high : first_answer (line_answers A gens H line) ≡ TooHigh → first_answer (lines_answers A gens H (drop k lines)) ≡ TooHigh
    line_high e = answers_here ∙ first_high (line_answers A gens H line) _ e

    module _ (H' : List Polynomial) (g : Polynomial) (pushed : H' ≡ H ++ g ∷ []) (value : g ≡ line_value A gens H line) where
      pub line_answers-more : first_answer (line_answers A gens H line) ≡ Holds
          → first_answer (lines_answers A gens H (drop k lines)) ≡ first_answer (lines_answers A gens H' (drop (k + 1) lines))
      line_answers-more e =
          answers_here ∙ first_more (line_answers A gens H line) _ e
          ∙ ap (λ H. first_answer (lines_answers A gens H (drop (k + 1) lines))) (ap (λ g. H ++ g ∷ []) (sym value) ∙ sym pushed)

      pub line_values-more : lines_values A gens H' (drop (k + 1) lines) ≡ lines_values A gens H (drop k lines)
      line_values-more =
          ap (λ H. lines_values A gens H (drop (k + 1) lines)) (pushed ∙ ap (λ g. H ++ g ∷ []) value)
          ∙ sym (ap (lines_values A gens H) here)
