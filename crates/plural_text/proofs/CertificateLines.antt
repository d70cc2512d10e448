-- The lines and the tails of a run's certificate can be written: what they name is there, and its products are computed.
use Rattle.std.proofs.Common.{◌≡◌, ◌≢◌, ℕ, suc, ◌≤◌, Bool, true, false, if◌then◌else◌, List, [], ◌∷◌, length, Some, None, refl, sym, ap, subst, arith}
use Rattle.monomials.specs.Polynomials.{Polynomial, Each}
use Rattle.monomials.proofs.Keys.{Each-weaker}
use Rattle.word_model.specs.Words.{Algebra}
use Rattle.word_model.specs.Conditions.{IsGAlgebra}
use Rattle.word_model.specs.Reduction.{element}
use Rattle.word_model.specs.Jobs.{start_of, s_polynomial, pair_within, IsJob}
use Rattle.word_model.specs.Machine.{Journal, machine, IsElement}
use Rattle.word_model.specs.Certificates.{Certificate, made_lines}
use Rattle.word_model.specs.Inside.Sound.{IsStep, AreSound, behind_all, IsJournal}
use Rattle.word_model.specs.declared.records.Job.{Job}
use Rattle.word_model.specs.declared.records.Job.TheVariants.{Seed, Pair, Right}
use Rattle.word_model.specs.declared.records.Mode.{Mode}
use Rattle.word_model.specs.declared.records.Mode.TheVariants.{TwoSided}
use Rattle.word_model.specs.declared.records.TraceStep.{TraceStep}
use Rattle.word_model.specs.declared.records.Entry.{Entry}
use Rattle.word_model.specs.declared.records.Entry.TheVariants.{Skipped, Zero, New}
use Rattle.word_model.proofs.Steps.{machine-elements}
use Rattle.word_model.proofs.Journals.{behind_all-least, machine-journal}
use Rattle.cofactors.specs.Rows.{AreTails}
use Rattle.cofactors.proofs.Finals.{finished-tails}
use Rattle.word_model.specs.CertificateTexts.{IsCertificateOf}
use Rattle.plural_text.specs.Writable.{IsTermOf, IsStartOf, IsLineOf}

module _ (A : Algebra) (gens G : List Polynomial) where
  computed_within : (i j : ℕ) → start_of A gens G (Pair i j) ≢ None → pair_within G i j ≡ true
  unfolding start_of
  computed_within i j some = by (pair_within G i j) refl
    where
      by : (b : Bool) → pair_within G i j ≡ b → pair_within G i j ≡ true
      by true e = e
      by false e = absurd (some (ap (λ b. if b then Some (s_polynomial A (element G i) (element G j)) else None) e))

  start_is : (m : ℕ) (job : Job) → m ≤ length G → IsJob (length gens) m A.order.vars job → start_of A gens G job ≢ None → IsStartOf A G job
  start_is m (Seed s) few names some = tt
  start_is m (Pair i j) few names some =
      (names.0, omega (arith, names.1, names.2, few), omega (arith, names.0, names.1), omega (arith, names.2, few), computed_within i j some)
  start_is m (Right i v) few names some = (names.2, names.3)

  step_is : (m : ℕ) (s : TraceStep) → IsStep A m s → IsTermOf A s
  step_is m s h = record { small = h.small; vars = h.vars }

  lines_are : (mode : Mode) (m : ℕ) (entries : List Entry) → AreSound A gens G mode m entries → behind_all m entries ≤ length G → Each (IsLineOf A G) (made_lines entries)
  lines_are mode m [] sound few = tt
  lines_are mode m (Skipped job k ∷ entries) sound few = lines_are mode m entries sound.1 few
  lines_are mode m (Zero job trace ∷ entries) sound few = lines_are mode m entries sound.1 few
  lines_are mode m (New job trace scale ∷ entries) sound few =
      let least : suc m ≤ behind_all (suc m) entries = behind_all-least (suc m) entries in (
        (
          start_is m job (omega (arith, least, few)) sound.0.0.numbers sound.0.1,
          Each-weaker (IsStep A m) (IsTermOf A) (step_is m) trace sound.0.2,
          sound.0.4,
        ),
        lines_are mode (suc m) entries sound.1 few,
      )

module _ (A : Algebra) (ok : IsGAlgebra A) (gens : List Polynomial) (budget : ℕ) (G : List Polynomial) (C : Certificate) (run : IsCertificateOf A gens budget G C) where
  pub run_elements : Each (IsElement A) G
  run_elements = subst (Each (IsElement A)) (sym run.elements) (machine-elements A ok gens run.sorted TwoSided budget)

  pub run_lines : Each (IsLineOf A G) C.lines
  run_lines =
      let J : Journal = machine A gens TwoSided budget in
      let journal : IsJournal A gens TwoSided J = machine-journal A ok gens run.sorted TwoSided budget in
      let lines : Each (IsLineOf A J.basis) (made_lines J.entries) =
      lines_are A gens J.basis TwoSided 0 J.entries journal.entries (omega (arith, journal.count)) in
      subst (λ G. Each (IsLineOf A G) C.lines) (sym run.elements) (subst (Each (IsLineOf A J.basis)) (sym run.entries) lines)

  pub run_tails : Each (Each (IsTermOf A)) C.finished.tails
  run_tails =
      let tails : AreTails A (length G) C.finished = finished-tails A ok G C.finished run_elements run.list in
      Each-weaker (Each (IsStep A (length G))) (Each (IsTermOf A))
      (λ tail h. Each-weaker (IsStep A (length G)) (IsTermOf A) (step_is A gens G (length G)) tail h) C.finished.tails tails.tails

  pub run_one_each : length C.finished.origin ≡ length C.finished.tails
  run_one_each = (finished-tails A ok G C.finished run_elements run.list).one_each
