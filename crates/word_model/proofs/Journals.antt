-- The entries of every run of the machine are sound.
use Rattle.std.proofs.Common.{◌≡◌, ◌≢◌, ℕ, zero, suc, ◌+◌, ◌*◌, ◌%◌, ◌<◌, ◌≤◌, Bool, true, false, ◌==◌, if◌then◌else◌, List, [], ◌∷◌, ◌++◌, length, Some, None, sym, ap, ◌∙◌, subst, arith, length-append}
use Rattle.std.proofs.Math.Nat.{mod-eq_of_lt}
use Rattle.monomials.specs.Polynomials.{Polynomial, Each, IsPolynomial, poly_scale}
use Rattle.monomials.specs.Leading.{leading_coefficient}
use Rattle.monomials.proofs.Keys.{Each-weaker}
use Rattle.monomials.proofs.Modulo.{Same}
use Rattle.prime_field.specs.Modular.{inverse, inverse_from}
use Rattle.word_model.specs.Words.{Algebra}
use Rattle.word_model.specs.Conditions.{NonZero, IsField, IsGAlgebra}
use Rattle.word_model.specs.Reduction.{Reduced}
use Rattle.word_model.specs.Jobs.{IsJob, NamesNonzero, start_of}
use Rattle.word_model.specs.Machine.{Journal, machine, IsElement}
use Rattle.word_model.specs.Inside.Sound.{IsStep, IsNamed, behind, behind_all, AreSound, IsJournal}
use Rattle.word_model.specs.declared.records.Job.{Job}
use Rattle.word_model.specs.declared.records.Job.TheVariants.{Seed, Pair, Right}
use Rattle.word_model.specs.declared.records.Mode.{Mode}
use Rattle.word_model.specs.declared.records.TraceStep.{TraceStep}
use Rattle.word_model.specs.declared.records.Entry.{Entry}
use Rattle.word_model.specs.declared.records.Entry.TheVariants.{Skipped, Zero, New}
use Rattle.word_model.proofs.Divisions.{inverse-is}
use Rattle.word_model.proofs.Multiples.{leading_coefficient-nonzero}
use Rattle.word_model.proofs.Reductions.{reduce-sorted}
use Rattle.word_model.proofs.Steps.{start_of-sorted, machine-elements}
use Rattle.word_model.proofs.Traces.{reduce-steps}
use Rattle.word_model.proofs.Replays.{IsDue, IsTreatment, IsReplay}
use Rattle.word_model.proofs.FinishedRuns.{machine-told}
use Rattle.word_model.proofs.Prefixes.{Begins, replay_begins, element_begins, Each-begins, start_begins}

-- ---- numbers

inverse_from-small : (p a b k : ℕ) → 0 < p → b + k ≤ p → inverse_from p a b k < p
inverse_from-small p a b zero some few = some
inverse_from-small p a b (suc k) some few = by ((a * b) % p == 1) (inverse_from-small p a (suc b) k some (omega arith))
  where
    by : (found : Bool) → inverse_from p a (suc b) k < p → (if found then b else inverse_from p a (suc b) k) < p
    by true later = omega arith
    by false later = later

-- an inverse is a number of the field, and not zero
inverse-small : (p a : ℕ) → 0 < p → inverse p a < p
unfolding inverse
inverse-small p a some = inverse_from-small p a 0 p some (omega arith)

inverse-some : (p a : ℕ) → IsField p → NonZero p a → 0 < inverse p a
inverse-some p a field nonzero = by (inverse p a) (inverse-is p a field nonzero)
  where
    by : (b : ℕ) → Same p (a * b) 1 → 0 < b
    by zero same =
        let more : 1 < p = field.more in
        let none : a * 0 ≡ 0 = omega arith in
        let no : 0 % p ≡ 1 % p = ap (λ x. x % p) (sym none) ∙ same in
        let left : 0 % p ≡ 0 = mod-eq_of_lt (omega arith) in
        let right : 1 % p ≡ 1 = mod-eq_of_lt more in
        omega (arith, no, left, right)
    by (suc b) same = omega arith

-- ---- lists of entries

behind-least : (m : ℕ) (e : Entry) → m ≤ behind m e
behind-least m (Skipped job k) = omega arith
behind-least m (Zero job trace) = omega arith
behind-least m (New job trace scale) = omega arith

pub behind_all-least : (m : ℕ) (entries : List Entry) → m ≤ behind_all m entries
behind_all-least m [] = omega arith
behind_all-least m (e ∷ entries) = omega (arith, behind-least m e, behind_all-least (behind m e) entries)

-- ---- replays

-- what a job names in the first elements, it names in the whole list
nonzero_begins : (gens H G : List Polynomial) (n : ℕ) (b : Begins H G) (job : Job) → IsJob (length gens) (length H) n job → NamesNonzero gens H job → NamesNonzero gens G job
nonzero_begins gens H G n b (Seed s) numbers nonzero = nonzero
nonzero_begins gens H G n b (Pair i j) numbers nonzero = (
  subst (λ f. f ≢ []) (sym (element_begins H G b i (numbers.0, omega (arith, numbers.1, numbers.2)))) nonzero.0,
  subst (λ f. f ≢ []) (sym (element_begins H G b j (omega (arith, numbers.0, numbers.1), numbers.2))) nonzero.1,
)
nonzero_begins gens H G n b (Right i v) numbers nonzero = subst (λ f. f ≢ []) (sym (element_begins H G b i (numbers.0, numbers.1))) nonzero

module _ (A : Algebra) (ok : IsGAlgebra A) (gens : List Polynomial) (sorted : Each (IsPolynomial A.p A.order) gens) (mode : Mode) (G : List Polynomial) (elements : Each (IsElement A) G) where
  module _ (H : List Polynomial) (b : Begins H G) where
    named : (job : Job) → IsDue A gens mode H job → IsNamed A gens G mode (length H) job
    named job due = record { numbers = due.0.0; nonzero = nonzero_begins gens H G A.order.vars b job due.0.0 due.0.1; of_mode = due.1 }

    polynomials : Each (IsPolynomial A.p A.order) H
    polynomials = Each-weaker (IsElement A) (IsPolynomial A.p A.order) (λ f e. e.0) H (Each-begins H G b (IsElement A) elements)

    computed : (job : Job) (trace : List TraceStep) (r : Polynomial) → IsTreatment A gens mode H job trace r → start_of A gens G job ≢ None
    computed job trace r t = λ none. (let no : Some t.start ≡ None = sym t.start_is ∙ sym (start_begins A gens H G b job t.due.0.0) ∙ none in cc)

    start_sorted : (job : Job) (trace : List TraceStep) (r : Polynomial) → (t : IsTreatment A gens mode H job trace r) → IsPolynomial A.p A.order t.start
    start_sorted job trace r t = start_of-sorted A ok gens sorted H job t.start polynomials t.due.0.0 t.start_is

    steps : (job : Job) (trace : List TraceStep) (r : Polynomial) → IsTreatment A gens mode H job trace r → Each (IsStep A (length H)) trace
    steps job trace r t = subst (λ (r : Reduced). Each (IsStep A (length H)) r.trace) t.reduced (reduce-steps A ok H polynomials t.start (start_sorted job trace r t))

    rest_sorted : (job : Job) (trace : List TraceStep) (r : Polynomial) → IsTreatment A gens mode H job trace r → IsPolynomial A.p A.order r
    rest_sorted job trace r t = subst (λ (r : Reduced). IsPolynomial A.p A.order r.rest) t.reduced (reduce-sorted A ok H polynomials t.start (start_sorted job trace r t))

  -- entries that made the basis are sound
  replay_sound : (H : List Polynomial) (entries : List Entry) → IsReplay A gens mode H entries G
      → AreSound A gens G mode (length H) entries × (behind_all (length H) entries ≡ length G)
  replay_sound H [] replay = (tt, ap length replay)
  replay_sound H (Skipped job k ∷ entries) replay =
      let b : Begins H G = replay_begins A gens mode H entries G replay.1 in
      let later : AreSound A gens G mode (length H) entries × (behind_all (length H) entries ≡ length G) = replay_sound H entries replay.1 in
      (((named H b job replay.0.0, replay.0.1.0, replay.0.1.1), later.0), later.1)
  replay_sound H (Zero job trace ∷ entries) replay =
      let b : Begins H G = replay_begins A gens mode H entries G replay.1 in
      let later : AreSound A gens G mode (length H) entries × (behind_all (length H) entries ≡ length G) = replay_sound H entries replay.1 in
      (((named H b job replay.0.due, computed H b job trace [] replay.0, steps H b job trace [] replay.0), later.0), later.1)
  replay_sound H (New job trace scale ∷ entries) replay =
      let r : Polynomial = replay.0 in
      let t : IsTreatment A gens mode H job trace r = replay.2 in
      let b : Begins H G = replay_begins A gens mode H (New job trace scale ∷ entries) G replay in
      let g : Polynomial = poly_scale A.p (inverse A.p (leading_coefficient r)) r in
      let one_more : length (H ++ g ∷ []) ≡ suc (length H) = length-append H (g ∷ []) ∙ omega arith in
      let later : AreSound A gens G mode (suc (length H)) entries × (behind_all (suc (length H)) entries ≡ length G) =
      subst (λ m. AreSound A gens G mode m entries × (behind_all m entries ≡ length G)) one_more (replay_sound (H ++ g ∷ []) entries replay.4) in
      let lead : NonZero A.p (leading_coefficient r) = leading_coefficient-nonzero A r (rest_sorted H b job trace r t).canonical replay.1 in
      let more : 1 < A.p = ok.field.more in
      let some : 0 < scale = subst (λ s. 0 < s) (sym replay.3) (inverse-some A.p (leading_coefficient r) ok.field lead) in
      let small : scale < A.p = subst (λ s. s < A.p) (sym replay.3) (inverse-small A.p (leading_coefficient r) (omega arith)) in
      (((named H b job t.due, computed H b job trace r t, steps H b job trace r t, some, small), later.0), later.1)

-- ---- journals

module _ (A : Algebra) (ok : IsGAlgebra A) (gens : List Polynomial) (sorted : Each (IsPolynomial A.p A.order) gens) (mode : Mode) where
  -- the journal of every run
  pub machine-journal : (budget : ℕ) → IsJournal A gens mode (machine A gens mode budget)
  machine-journal budget =
      let J : Journal = machine A gens mode budget in
      let sound : AreSound A gens J.basis mode 0 J.entries × (behind_all 0 J.entries ≡ length J.basis) =
      replay_sound A ok gens sorted mode J.basis (machine-told A ok gens sorted mode budget).elements [] J.entries (machine-told A ok gens sorted mode budget).replay in
      record { entries = sound.0; count = sound.1 }

  -- the same of any journal that is one
  pub journal-is : (j : Journal) → (budget : ℕ) × (j ≡ machine A gens mode budget) → IsJournal A gens mode j
  journal-is j run = subst (IsJournal A gens mode) (sym run.1) (machine-journal run.0)

  pub journal-elements : (j : Journal) → (budget : ℕ) × (j ≡ machine A gens mode budget) → Each (IsElement A) j.basis
  journal-elements j run = subst (λ (j : Journal). Each (IsElement A) j.basis) (sym run.1) (machine-elements A ok gens sorted mode run.0)
