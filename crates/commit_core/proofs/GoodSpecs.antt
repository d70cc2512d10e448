-- Specs that are good: when the basis grows, and as workers make them.
use Rattle.std.proofs.Common.{◌≡◌, ℕ, ◌≤◌, Bool, true, false, List, [], ◌∷◌, ◌++◌, length, take, Option, Some, None, IfSome, if◌then◌else◌, refl, sym, subst, arith, length-append}
use Rattle.std.proofs.lemmas.Bool.Decides.{nat_tests}
use Rattle.std.proofs.lemmas.List.{take-append-le}
use Rattle.monomials.specs.Polynomials.{Polynomial}
use Rattle.word_model.specs.Words.{Algebra}
use Rattle.word_model.specs.Jobs.{start_of, IsJob}
use Rattle.word_model.specs.declared.records.Job.{Job}
use Rattle.word_model.specs.declared.records.Job.TheVariants.{Seed, Pair, Right}
use Rattle.run_records.specs.Ahead.{ReducedStart}
use Rattle.commit_core.specs.Named.{IsNamed}
use Rattle.commit_core.specs.Specs.{IsGood, IsAhead, names_within, spec_from, spec_over}

-- a good Spec stays good
pub good-longer : (A : Algebra) (gens G : List Polynomial) (g : Polynomial) (spec : ReducedStart) → IsGood A gens G spec → IsGood A gens (G ++ g ∷ []) spec
good-longer A gens G g spec good = record {
  within = omega (arith, good.within, length-append G (g ∷ []));
  named = good.named;
  ahead = subst (λ H. IsAhead A gens H spec) (sym (take-append-le spec.prefix G (g ∷ []) good.within)) good.ahead;
}

within-named : (A : Algebra) (gens G : List Polynomial) (m : ℕ) (job : Job) → IsNamed A gens G job → names_within m job ≡ true → IsJob (length gens) m A.order.vars job
within-named A gens G m (Seed s) named e = named.0
within-named A gens G m (Pair i j) named e = (named.0.0, named.0.1, grind (arith, nat_tests))
within-named A gens G m (Right i v) named e = (named.0.0, grind (arith, nat_tests), named.0.2, named.0.3)

-- the Spec of a job by the first m elements is good
pub spec_over-good : (A : Algebra) (gens G : List Polynomial) (m : ℕ) (job : Job) → IsNamed A gens G job → m ≤ length G
    → IfSome (spec_over A gens (take m G) m job) (IsGood A gens G)
spec_over-good A gens G m job named le = by (names_within m job) refl (start_of A gens (take m G) job) refl
  where
    by : (t : Bool) → names_within m job ≡ t → (o : Option Polynomial) → start_of A gens (take m G) job ≡ o
        → IfSome (if t then spec_from A (take m G) m job o else None) (IsGood A gens G)
    by false e o is = tt
    by true e None is = tt
    by true e (Some start) is = record {
      within = le;
      named = within-named A gens G m job named e;
      ahead = (start, is, refl, refl);
    }
