-- A certificate whose check answers that it holds is one; and one whose products are computed is answered so.
use Rattle.std.proofs.Common.{◌≡◌, ℕ, suc, ◌&&◌, ◌==◌, nat_le, true, List, [], ◌∷◌, ◌++◌, length, Option, Some, None, is_some, refl, sym, ap, ◌∙◌, subst, arith, append_assoc, append-nil}
use Rattle.std.specs.Option.{unwrap_or}
use Rattle.std.proofs.lemmas.Bool.{and_parts, and_from, leb-true, le-leb}
use Rattle.std.proofs.lemmas.Bool.Decides.{Decides-eqb}
use Rattle.monomials.specs.Leading.{leading_coefficient}
use Rattle.monomials.specs.Polynomials.{Polynomial, Each, poly_scale}
use Rattle.word_model.specs.Words.{Algebra}
use Rattle.word_model.specs.Reduction.{element, is_within}
use Rattle.word_model.specs.Jobs.{start_of, IsJob}
use Rattle.word_model.specs.Finished.{FinishedList}
use Rattle.word_model.specs.Certificates.{Certificate, less_trace, NamesFirst, LinesHold, ListHolds, CertificateHolds}
use Rattle.word_model.specs.declared.records.Job.{Job}
use Rattle.word_model.specs.declared.records.Job.TheVariants.{Seed, Pair, Right}
use Rattle.word_model.specs.declared.records.TraceStep.{TraceStep}
use Rattle.word_model.specs.declared.records.Entry.{Entry}
use Rattle.word_model.specs.declared.records.Entry.TheVariants.{Skipped, Zero, New}
use Rattle.word_model.proofs.Prefixes.{Begins, element_begins}
use Rattle.two_sided.specs.Checks.{Holds, first_answer, tested, reached, IsTerm, IsLine, IsCheckable, names_job, names_elements, trace_within, line_value, line_answers, lines_values, lines_answers, same_polynomial, one_each, final_answers, finals_answers, list_answers, chain_check}
use Rattle.two_sided.proofs.Firsts.{first_more, holds_both, three_hold, test_holds}
use Rattle.two_sided.proofs.LineTests.{names_job-is}
use Rattle.two_sided.proofs.ListTests.{same_polynomial-Decides, lengths_are}

-- ---- what holds where the check answers so

names_elements-is : (A : Algebra) (m : ℕ) (trace : List TraceStep) → Each (IsTerm A) trace → names_elements m trace ≡ true → NamesFirst A m trace
names_elements-is A m [] terms e = tt
names_elements-is A m (s ∷ trace) terms e =
    let p = and_parts (nat_le 1 s.index && nat_le s.index m) (names_elements m trace) e in
    let q = and_parts (nat_le 1 s.index) (nat_le s.index m) p.0 in
    ((terms.0.vars, leb-true 1 s.index q.0, leb-true s.index m q.1), names_elements-is A m trace terms.1 p.1)

some_is : {X : Type 0} (o : Option X) → is_some o ≡ true → (x : X) × (o ≡ Some x)
some_is None e = cc
some_is (Some x) e = (x, refl)

module _ (A : Algebra) (gens : List Polynomial) where
  lines_hold : (H : List Polynomial) (lines : List Entry) → Each (IsLine A) lines → first_answer (lines_answers A gens H lines) ≡ Holds
      → LinesHold A gens H lines (lines_values A gens H lines)
  lines_hold H [] numbers e = refl
  lines_hold H (Skipped job k ∷ lines) numbers e = cc
  lines_hold H (Zero job trace ∷ lines) numbers e = cc
  lines_hold H (New job trace scale ∷ lines) numbers e =
      let line : Entry = New job trace scale in
      let g : Polynomial = line_value A gens H (New job trace scale) in
      let both = holds_both (line_answers A gens H (New job trace scale)) (lines_answers A gens (H ++ line_value A gens H (New job trace scale) ∷ []) lines) e in
      let three = three_hold (names_job (length gens) (length H) A.order.vars job && names_elements (length H) trace)
      (is_some (start_of A gens H job) && trace_within H trace) (leading_coefficient (line_value A gens H (New job trace scale)) == 1) both.0 in
      let named = and_parts (names_job (length gens) (length H) A.order.vars job) (names_elements (length H) trace) three.0 in
      let within = and_parts (is_some (start_of A gens H job)) (trace_within H trace) three.1 in
      let start : (h : Polynomial) × (start_of A gens H job ≡ Some h) = some_is (start_of A gens H job) within.0 in
      let value : poly_scale A.p scale (less_trace A H (unwrap_or (start_of A gens H job) []) trace) ≡ poly_scale A.p scale (less_trace A H start.0 trace) =
      ap (λ o. poly_scale A.p scale (less_trace A H (unwrap_or o []) trace)) start.1 in
      let one : leading_coefficient (poly_scale A.p scale (less_trace A H (unwrap_or (start_of A gens H job) []) trace)) ≡ 1 =
      (Decides-eqb (leading_coefficient (poly_scale A.p scale (less_trace A H (unwrap_or (start_of A gens H job) []) trace))) 1).0 three.2 in (
        names_job-is (length gens) (length H) A.order.vars job named.0,
        names_elements-is A (length H) trace numbers.0.1 named.1,
        (
          start.0,
          start.1,
          ap leading_coefficient (sym value) ∙ one,
          subst (λ g. LinesHold A gens (H ++ g ∷ []) lines (lines_values A gens (H ++ line_value A gens H (New job trace scale) ∷ []) lines)) value
              (lines_hold (H ++ line_value A gens H (New job trace scale) ∷ []) lines numbers.1 both.1),
        ),
      )

  finals_hold : (G list : List Polynomial) (origin : List ℕ) (tails : List (List TraceStep)) → length origin ≡ length list → length tails ≡ length list
      → Each (Each (IsTerm A)) tails → first_answer (finals_answers A G list origin tails) ≡ Holds → ListHolds A G list origin tails
  finals_hold G [] [] [] o_long t_long terms e = tt
  finals_hold G [] (o ∷ origin) tails o_long t_long terms e = absurd (omega (arith, o_long))
  finals_hold G [] [] (tail ∷ tails) o_long t_long terms e = absurd (omega (arith, t_long))
  finals_hold G (f ∷ list) [] tails o_long t_long terms e = absurd (omega (arith, o_long))
  finals_hold G (f ∷ list) (o ∷ origin) [] o_long t_long terms e = absurd (omega (arith, t_long))
  finals_hold G (f ∷ list) (o ∷ origin) (tail ∷ tails) o_long t_long terms e =
      let both = holds_both (final_answers A G f o tail) (finals_answers A G list origin tails) e in
      let three = three_hold ((nat_le 1 o && nat_le o (length G)) && names_elements (length G) tail) (trace_within G tail)
      (same_polynomial (less_trace A G (element G o) tail) f) both.0 in
      let named = and_parts (nat_le 1 o && nat_le o (length G)) (names_elements (length G) tail) three.0 in
      let range = and_parts (nat_le 1 o) (nat_le o (length G)) named.0 in (
        (
          leb-true 1 o range.0,
          leb-true o (length G) range.1,
          names_elements-is A (length G) tail terms.0 named.1,
          (same_polynomial-Decides (less_trace A G (element G o) tail) f).0 three.2,
        ),
        finals_hold G list origin tails (omega (arith, o_long)) (omega (arith, t_long)) terms.1 both.1,
      )

  pub checked_holds : (C : Certificate) → IsCheckable A C → chain_check A gens C ≡ Holds → CertificateHolds A gens C.lines C.finished
  checked_holds C checkable e =
      let G : List Polynomial = lines_values A gens [] C.lines in
      let F : FinishedList = C.finished in
      let both = holds_both (lines_answers A gens [] C.lines) (list_answers A (lines_values A gens [] C.lines) C.finished) e in
      let list = test_holds (one_each C.finished) (finals_answers A (lines_values A gens [] C.lines) C.finished.list C.finished.origin C.finished.tails) both.1 in
      let long = lengths_are C.finished list.0 in (
        lines_values A gens [] C.lines,
        lines_hold [] C.lines checkable.lines both.0,
        finals_hold (lines_values A gens [] C.lines) C.finished.list C.finished.origin C.finished.tails long.0 long.1 checkable.tails list.1,
      )

-- ---- and the other way round

-- the steps of a line are computed over G
abbrev pub LineReaches : List Polynomial → Entry → Type 0
LineReaches G (New job trace scale) = trace_within G trace ≡ true
LineReaches G _ = Unit {0}

job_named : (g m n : ℕ) (job : Job) → IsJob g m n job → names_job g m n job ≡ true
job_named g m n (Seed s) h = and_from (nat_le 1 s) (nat_le s g) (le-leb 1 s h.0) (le-leb s g h.1)
job_named g m n (Pair i j) h =
    and_from _ (nat_le j m) (and_from (nat_le 1 i) _ (le-leb 1 i h.0) (le-leb (suc i) j h.1)) (le-leb j m h.2)
job_named g m n (Right i v) h =
    and_from _ (nat_le v n) (and_from _ (nat_le 1 v) (and_from (nat_le 1 i) (nat_le i m) (le-leb 1 i h.0) (le-leb i m h.1)) (le-leb 1 v h.2)) (le-leb v n h.3)

elements_named : (A : Algebra) (m : ℕ) (trace : List TraceStep) → NamesFirst A m trace → names_elements m trace ≡ true
elements_named A m [] h = refl
elements_named A m (s ∷ trace) h =
    and_from (nat_le 1 s.index && nat_le s.index m) (names_elements m trace)
    (and_from (nat_le 1 s.index) (nat_le s.index m) (le-leb 1 s.index h.0.1) (le-leb s.index m h.0.2)) (elements_named A m trace h.1)

-- what is computed over the whole basis is so over its front
within_front : (A : Algebra) (H G : List Polynomial) (b : Begins H G) (trace : List TraceStep) → NamesFirst A (length H) trace → trace_within H trace ≡ trace_within G trace
within_front A H G b [] names = refl
within_front A H G b (s ∷ trace) names =
    λ i. is_within s.mono (sym (element_begins H G b s.index (names.0.1, names.0.2)) i) && within_front A H G b trace names.1 i

module _ (A : Algebra) (gens : List Polynomial) where
  lines_begin : (H : List Polynomial) (lines : List Entry) (G : List Polynomial) → LinesHold A gens H lines G → Begins H G
  lines_begin H [] G holds = ([], append-nil H ∙ holds)
  lines_begin H (Skipped job k ∷ lines) G holds = absurd holds
  lines_begin H (Zero job trace ∷ lines) G holds = absurd holds
  lines_begin H (New job trace scale ∷ lines) G holds =
      let g : Polynomial = poly_scale A.p scale (less_trace A H holds.2.0 trace) in
      let b : Begins (H ++ g ∷ []) G = lines_begin (H ++ g ∷ []) lines G holds.2.3 in
      (g ∷ b.0, sym (append_assoc H (g ∷ []) b.0) ∙ b.1)

  -- the basis of lines that hold is the one that they give
  pub lines_give : (H : List Polynomial) (lines : List Entry) (G : List Polynomial) → LinesHold A gens H lines G → lines_values A gens H lines ≡ G
  lines_give H [] G holds = holds
  lines_give H (Skipped job k ∷ lines) G holds = absurd holds
  lines_give H (Zero job trace ∷ lines) G holds = absurd holds
  lines_give H (New job trace scale ∷ lines) G holds =
      let value : line_value A gens H (New job trace scale) ≡ poly_scale A.p scale (less_trace A H holds.2.0 trace) =
      ap (λ o. poly_scale A.p scale (less_trace A H (unwrap_or o []) trace)) holds.2.1 in
      lines_give (H ++ line_value A gens H (New job trace scale) ∷ []) lines G (subst (λ g. LinesHold A gens (H ++ g ∷ []) lines G) (sym value) holds.2.3)

  lines_checked : (H : List Polynomial) (lines : List Entry) (G : List Polynomial) → LinesHold A gens H lines G → Each (LineReaches G) lines
      → (first_answer (lines_answers A gens H lines) ≡ Holds) × (lines_values A gens H lines ≡ G)
  lines_checked H [] G holds reach = (refl, holds)
  lines_checked H (Skipped job k ∷ lines) G holds reach = absurd holds
  lines_checked H (Zero job trace ∷ lines) G holds reach = absurd holds
  lines_checked H (New job trace scale ∷ lines) G holds reach =
      let h : Polynomial = holds.2.0 in
      let g : Polynomial = poly_scale A.p scale (less_trace A H h trace) in
      let b : Begins H G = lines_begin H (New job trace scale ∷ lines) G holds in
      let named : (names_job (length gens) (length H) A.order.vars job && names_elements (length H) trace) ≡ true =
      and_from (names_job (length gens) (length H) A.order.vars job) (names_elements (length H) trace) (job_named (length gens) (length H) A.order.vars job holds.0)
      (elements_named A (length H) trace holds.1) in
      let within : (is_some (start_of A gens H job) && trace_within H trace) ≡ true =
      and_from (is_some (start_of A gens H job)) (trace_within H trace) (ap is_some holds.2.1) (within_front A H G b trace holds.1 ∙ reach.0) in
      let value : line_value A gens H (New job trace scale) ≡ g = ap (λ o. poly_scale A.p scale (less_trace A H (unwrap_or o []) trace)) holds.2.1 in
      let one : (leading_coefficient (line_value A gens H (New job trace scale)) == 1) ≡ true =
      (Decides-eqb (leading_coefficient (line_value A gens H (New job trace scale))) 1).1 (ap leading_coefficient value ∙ holds.2.2) in
      let here : first_answer (line_answers A gens H (New job trace scale)) ≡ Holds =
      (λ k. first_answer (tested (named k) ∷ reached (within k) ∷ tested (one k) ∷ [])) in
      let later : (first_answer (lines_answers A gens (H ++ line_value A gens H (New job trace scale) ∷ []) lines) ≡ Holds)
      × (lines_values A gens (H ++ line_value A gens H (New job trace scale) ∷ []) lines ≡ G) =
      lines_checked (H ++ line_value A gens H (New job trace scale) ∷ []) lines G
      (subst (λ g. LinesHold A gens (H ++ g ∷ []) lines G) (sym value) holds.2.3) reach.1 in
      (first_more (line_answers A gens H (New job trace scale)) _ here ∙ later.0, later.1)

  finals_checked : (G list : List Polynomial) (origin : List ℕ) (tails : List (List TraceStep)) → ListHolds A G list origin tails
      → Each (λ tail. trace_within G tail ≡ true) tails
      → (length origin ≡ length list) × (length tails ≡ length list) × (first_answer (finals_answers A G list origin tails) ≡ Holds)
  finals_checked G [] [] [] holds reach = (refl, refl, refl)
  finals_checked G [] [] (tail ∷ tails) holds reach = absurd holds
  finals_checked G [] (o ∷ origin) tails holds reach = absurd holds
  finals_checked G (f ∷ list) [] tails holds reach = absurd holds
  finals_checked G (f ∷ list) (o ∷ origin) [] holds reach = absurd holds
  finals_checked G (f ∷ list) (o ∷ origin) (tail ∷ tails) holds reach =
      let named : ((nat_le 1 o && nat_le o (length G)) && names_elements (length G) tail) ≡ true =
      and_from (nat_le 1 o && nat_le o (length G)) (names_elements (length G) tail)
      (and_from (nat_le 1 o) (nat_le o (length G)) (le-leb 1 o holds.0.0) (le-leb o (length G) holds.0.1)) (elements_named A (length G) tail holds.0.2) in
      let same : same_polynomial (less_trace A G (element G o) tail) f ≡ true = (same_polynomial-Decides (less_trace A G (element G o) tail) f).1 holds.0.3 in
      let here : first_answer (final_answers A G f o tail) ≡ Holds = (λ k. first_answer (tested (named k) ∷ reached (reach.0 k) ∷ tested (same k) ∷ [])) in
      let later : (length origin ≡ length list) × (length tails ≡ length list) × (first_answer (finals_answers A G list origin tails) ≡ Holds) =
      finals_checked G list origin tails holds.1 reach.1 in
      (ap suc later.0, ap suc later.1, first_more (final_answers A G f o tail) _ here ∙ later.2)

  pub holding_checked : (C : Certificate) (c : CertificateHolds A gens C.lines C.finished) → Each (LineReaches c.0) C.lines
      → Each (λ tail. trace_within c.0 tail ≡ true) C.finished.tails → chain_check A gens C ≡ Holds
  holding_checked C c lines tails =
      let made : (first_answer (lines_answers A gens [] C.lines) ≡ Holds) × (lines_values A gens [] C.lines ≡ c.0) = lines_checked [] C.lines c.0 c.1 lines in
      let list : (length C.finished.origin ≡ length C.finished.list) × (length C.finished.tails ≡ length C.finished.list)
      × (first_answer (finals_answers A c.0 C.finished.list C.finished.origin C.finished.tails) ≡ Holds) =
      finals_checked c.0 C.finished.list C.finished.origin C.finished.tails c.2 tails in
      let long : one_each C.finished ≡ true =
      and_from (length C.finished.origin == length C.finished.list) (length C.finished.tails == length C.finished.list)
      ((Decides-eqb (length C.finished.origin) (length C.finished.list)).1 list.0) ((Decides-eqb (length C.finished.tails) (length C.finished.list)).1 list.1) in
      first_more (lines_answers A gens [] C.lines) _ made.0
      ∙ ap (λ G. first_answer (list_answers A G C.finished)) made.1
      ∙ ap (λ b. first_answer (tested b ∷ finals_answers A c.0 C.finished.list C.finished.origin C.finished.tails)) long
      ∙ list.2
