-- Starts that were reduced ahead, and what is left to do.
use Rattle.std.proofs.Common.{◌≡◌, ℕ, ◌+◌, true, false, Bool, List, [], ◌∷◌, ◌++◌, length, take, drop, Option, None, if◌then◌else◌, refl, sym, ap, ◌∙◌, subst, arith}
use Rattle.std.proofs.lemmas.List.{take-append-drop, length-take-le}
use Rattle.monomials.specs.Polynomials.{Polynomial, Each, IsPolynomial}
use Rattle.word_model.specs.Words.{Algebra}
use Rattle.word_model.specs.Conditions.{IsGAlgebra}
use Rattle.word_model.specs.Reduction.{Reduced as Reduction, reduce}
use Rattle.word_model.specs.Jobs.{start_of, IsJob, UsesElements}
use Rattle.word_model.specs.Machine.{turn_of_start, turn_of_rest}
use Rattle.word_model.specs.declared.records.Job.{Job}
use Rattle.word_model.specs.declared.records.TraceStep.{TraceStep}
use Rattle.word_model.specs.declared.records.Entry.{Entry}
use Rattle.word_model.specs.declared.records.Entry.TheVariants.{Skipped, Zero, New}
use Rattle.word_model.proofs.Steps.{start_of-sorted}
use Rattle.word_model.proofs.Sugars.{reduce-uses}
use Rattle.word_model.proofs.Reductions.{reduce-sorted}
use Rattle.word_model.proofs.Longer.{longer}
use Rattle.monomials.proofs.Keys.{Each-first}
use Rattle.left_reduce.specs.Reductions.{GoneOn, behind_steps, ends_at}
use Rattle.left_reduce.specs.Inside.Steps.{after_steps}
use Rattle.word_model.proofs.Prefixes.{start_begins}
use Rattle.left_reduce.specs.declared.reducing.Ended.TheVariants.{DegreeOver}
use Rattle.run_records.specs.Ahead.{ReducedStart}
use Rattle.commit_core.specs.Leads.{Run}
use Rattle.commit_core.specs.Kept.{Turns, is_over, reduction_of}
use Rattle.commit_core.specs.Specs.{IsGood, IsCounted, steps_of, start_left}
use Rattle.commit_core.specs.Begun.{IsBegun, Records}

-- ---- a good Spec

module _ (A : Algebra) (ok : IsGAlgebra A) (gens G : List Polynomial) (gens_are : Each (IsPolynomial A.p A.order) gens) (G_are : Each (IsPolynomial A.p A.order) G)
    (spec : ReducedStart) (good : IsGood A gens G spec) where
  abbrev H : List Polynomial
  H = take spec.prefix G

  whole : H ++ drop spec.prefix G ≡ G
  whole = take-append-drop spec.prefix G

  H_are : Each (IsPolynomial A.p A.order) H
  H_are = Each-first (IsPolynomial A.p A.order) H (drop spec.prefix G) (subst (Each (IsPolynomial A.p A.order)) (sym whole) G_are)

  named : IsJob (length gens) (length H) A.order.vars spec.job
  named = subst (λ n. IsJob (length gens) n A.order.vars spec.job) (sym (length-take-le spec.prefix G good.within)) good.named

  start_is : IsPolynomial A.p A.order good.ahead.0
  start_is = start_of-sorted A ok gens gens_are H spec.job good.ahead.0 H_are named good.ahead.1

  -- what is left is a polynomial
  pub good-rest : IsPolynomial A.p A.order spec.rest
  good-rest = subst (IsPolynomial A.p A.order) good.ahead.3 (reduce-sorted A ok H H_are good.ahead.0 start_is)

  -- and the reduction goes on from there
  pub good-begun : IsBegun A gens G spec.job spec.rest spec.trace
  good-begun = (
    good.ahead.0,
    ap (λ K. start_of A gens K spec.job) (sym whole) ∙ start_begins A gens H (H ++ drop spec.prefix G) (drop spec.prefix G, refl) spec.job named ∙ good.ahead.1,
    subst (λ (K : List Polynomial). reduce A K good.ahead.0 ≡ after_steps spec.trace (reduce A K spec.rest)) whole
        (
        longer A ok H (drop spec.prefix G) H_are (subst (Each (IsPolynomial A.p A.order)) (sym whole) G_are) good.ahead.0 start_is
        ∙ (λ k. after_steps (good.ahead.2 k) (reduce A (H ++ drop spec.prefix G) (good.ahead.3 k)))
        ),
  )

-- ---- the turn of a job whose reduction was begun

over-is : (over : Bool) (rest : Polynomial) → is_over (if over then DegreeOver else ends_at rest) ≡ over
over-is true rest = refl
over-is false [] = refl
over-is false (t ∷ f) = refl

pub begun-turn : (run : Run) (job : Job) (h : Polynomial) (trace : List TraceStep) (r : GoneOn) → IsBegun run.algebra run.generators run.basis job h trace
    → r ≡ behind_steps trace (reduce run.algebra run.basis h)
    → Turns run (λ s. turn_of_start run.algebra run.generators run.mode s job (start_of run.algebra run.generators s.basis job))
    → Turns run (λ s. turn_of_rest run.algebra run.generators run.mode s job (reduction_of r))
begun-turn run job h trace r begun is turn s at =
    turn s at
    ∙ ap (turn_of_start run.algebra run.generators run.mode s job) (ap (λ (G : List Polynomial). start_of run.algebra run.generators G job) at.basis ∙ begun.1)
    ∙ ap (λ (G : List Polynomial). turn_of_rest run.algebra run.generators run.mode s job (reduce run.algebra G begun.0)) at.basis
    ∙ ap (turn_of_rest run.algebra run.generators run.mode s job) (begun.2 ∙ same (reduce run.algebra run.basis h) ∙ ap reduction_of (sym is))
  where
    same : (q : Reduction) → after_steps trace q ≡ reduction_of (behind_steps trace q)
    same q = λ k. record { trace = trace ++ q.trace; rest = q.rest; over = sym (over-is q.over q.rest) k }

-- where it ends before its first step
pub begun-over : (run : Run) (job : Job) → start_of run.algebra run.generators run.basis job ≡ None
    → Turns run (λ s. turn_of_start run.algebra run.generators run.mode s job (start_of run.algebra run.generators s.basis job))
    → Turns run (λ s. turn_of_start run.algebra run.generators run.mode s job None)
begun-over run job none turn s at =
    turn s at ∙ ap (turn_of_start run.algebra run.generators run.mode s job) (ap (λ (G : List Polynomial). start_of run.algebra run.generators G job) at.basis ∙ none)

-- the steps use elements that there are
pub begun-uses : (run : Run) (job : Job) (h : Polynomial) (trace : List TraceStep) (A : Algebra) (G : List Polynomial) (r : GoneOn) → IsBegun run.algebra run.generators run.basis job h trace
    → A ≡ run.algebra → G ≡ run.basis → r ≡ behind_steps trace (reduce A G h) → UsesElements (length run.basis) r.trace
begun-uses run job h trace A G r begun algebra basis is =
    let same : r ≡ behind_steps trace (reduce run.algebra run.basis h) = is ∙ (λ t. behind_steps trace (reduce (algebra t) (basis t) h)) in
    subst (UsesElements (length run.basis)) (ap (λ (q : Reduction). q.trace) begun.2 ∙ ap (λ (q : GoneOn). q.trace) (sym same))
    (reduce-uses run.algebra run.basis begun.0)

-- two lists that differ in their last entries alone
pub last-is : (entries : List Entry) (a b : Entry) → entries ++ a ∷ [] ≡ entries ++ b ∷ [] → a ≡ b
last-is [] a b e = cc
last-is (x ∷ entries) a b e = last-is entries a b (ap (drop 1) e)

-- how the products are counted
pub begun-counted : (spec : Option ReducedStart) (entry : Entry) (job : Job) (trace more : List TraceStep) (old begun new : ℕ) → Records entry job (trace ++ more)
    → trace ≡ steps_of spec → begun ≡ old + start_left spec job → new ≡ begun + length more → IsCounted spec entry old new
begun-counted spec (Skipped j by) job trace more old begun new is steps first after = absurd is
begun-counted spec (Zero j t) job trace more old begun new is steps first after = (
  more,
  is.1 ∙ ap (λ ts. ts ++ more) steps,
  (let e : start_left spec j ≡ start_left spec job = ap (start_left spec) is.0 in omega arith),
)
begun-counted spec (New j t scale) job trace more old begun new is steps first after = (
  more,
  is.1 ∙ ap (λ ts. ts ++ more) steps,
  (let e : start_left spec j ≡ start_left spec job = ap (start_left spec) is.0 in omega arith),
)
