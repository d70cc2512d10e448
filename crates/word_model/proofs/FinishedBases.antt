-- The basis of a finished run: all its pairs are linked, it spans the generators, and it decides membership in its span.
use Rattle.std.proofs.Common.{◌≡◌, ◌≢◌, ℕ, ◌+◌, ◌-◌, ◌*◌, ◌≤◌, ◌⊎◌, ⊎_elim, Less, Equal, List, [], ◌∷◌, refl, sym, ap, ◌∙◌, subst, arith}
use Rattle.monomials.specs.Monomials.{Monomial}
use Rattle.monomials.specs.Leading.{leading_monomial}
use Rattle.monomials.specs.Polynomials.{Polynomial, Each, IsPolynomial, poly_degree}
use Rattle.monomials.specs.WellFounded.{IsWellFounded}
use Rattle.monomials.proofs.Modulo.{same_refl, same_add, same_move}
use Rattle.monomials.proofs.Weights.{weigh}
use Rattle.monomials.proofs.OrderLaws.{order_cmp_total, order_cmp_tied}
use Rattle.monomials.proofs.Canonical.{ties_itself}
use Rattle.monomials.proofs.Keys.{Each-weaker}
use Rattle.word_model.specs.Words.{Algebra}
use Rattle.word_model.specs.Conditions.{NonZero, IsGAlgebra}
use Rattle.word_model.specs.Products.{degree_limit}
use Rattle.word_model.specs.Reduction.{element}
use Rattle.word_model.specs.Jobs.{pair_lcm, s_polynomial}
use Rattle.word_model.specs.Machine.{Journal, machine, IsElement}
use Rattle.word_model.specs.Ideals.{ReducesToZero, StartReducesToZero}
use Rattle.word_model.specs.Inside.Sound.{IsOfMode}
use Rattle.word_model.specs.declared.records.Job.{Job}
use Rattle.word_model.specs.declared.records.Job.TheVariants.{Seed, Pair, Right}
use Rattle.word_model.specs.declared.records.Mode.{Mode}
use Rattle.word_model.specs.declared.records.Mode.TheVariants.{Left, TwoSided}
use Rattle.word_model.specs.declared.records.Outcome.TheVariants.{Finished}
use Rattle.word_model.specs.declared.records.Entry.{Entry}
use Rattle.word_model.proofs.NormalForms.{Each-always}
use Rattle.word_model.proofs.LeadingMonomials.{order}
use Rattle.word_model.proofs.LeastNumbers.{Each-element}
use Rattle.word_model.proofs.Targets.{IsBelow}
use Rattle.word_model.proofs.Reductions.{IsOf}
use Rattle.word_model.proofs.Sums.{IsSum, sum_zero, sum_weaker}
use Rattle.word_model.proofs.MultipleWeights.{Multiple, multiple_weight, IsThere, Fits, Under, lift}
use Rattle.word_model.proofs.Connections.{positive, Connected, AllLinked, length-common, divides-common_second}
use Rattle.word_model.proofs.Collecting.{IsTopped, topped_or_low}
use Rattle.word_model.proofs.Criterion.{plain, low_is_sum, IsWithin, leads_at, within}
use Rattle.word_model.proofs.SPolynomials.{pair_number, s_polynomial-is, s_polynomial-below, s_polynomial-value}
use Rattle.word_model.proofs.ReducedToZero.{zero_reduced}
use Rattle.word_model.proofs.Settled.{Treats, IsNumber, IsSettled}
use Rattle.word_model.proofs.Replays.{pair_of_mode}
use Rattle.word_model.proofs.FinishedRuns.{IsTold, machine-told}
use Rattle.word_model.proofs.Chains.{is_there, all_linked}
use Rattle.word_model.proofs.Starts.{start_of-seed}
use Rattle.word_model.proofs.TreatedJobs.{IsStartSum, treated_sum, treated_pair}
use Rattle.word_model.proofs.ReducedStarts.{entries_reduced, treated_reduced}
use Rattle.word_model.proofs.Spans.{IsMultiple, InSpan}

-- jobs other than pairs are settled by being treated
abbrev TreatedUnlessPair : List Entry → Job → Type 0
TreatedUnlessPair entries (Seed s) = Treats entries (Seed s)
TreatedUnlessPair entries (Pair i j) = Unit {0}
TreatedUnlessPair entries (Right i v) = Treats entries (Right i v)

pub settled_treated : (G : List Polynomial) (entries : List Entry) (job : Job) → IsSettled G entries job → TreatedUnlessPair entries job
settled_treated G entries job (IsSettled.treated job' t) = by job' t
  where
    by : (job : Job) → Treats entries job → TreatedUnlessPair entries job
    by (Seed s) t = t
    by (Pair i j) t = tt
    by (Right i v) t = t
settled_treated G entries job (IsSettled.chained i j k hi hj hk d a b) = tt

seed_of_mode : (mode : Mode) (s : ℕ) → IsOfMode mode (Seed s)
seed_of_mode Left s = tt
seed_of_mode TwoSided s = tt

-- ---- lists whose pairs are all linked

module _ (A : Algebra) (ok : IsGAlgebra A) (G : List Polynomial) (elements : Each (IsElement A) G) (all : AllLinked A ok G (plain A ok G)) where
  polynomials : Each (IsOf A ok) G
  polynomials = Each-weaker _ _ (λ f e. e.0) G elements

  -- what is below t does not lead with t
  not_below_itself : (t : Monomial) (f : Polynomial) → IsBelow A t f → f ≢ [] → leading_monomial f ≡ t → ⊥
  not_below_itself t [] below nonzero at = nonzero refl
  not_below_itself t (u ∷ f) below nonzero at =
      let less : order A t t ≡ Less = ap (λ x. order A x t) (sym at) ∙ below.0 in
      let tie : order A t t ≡ Equal = ties_itself (order A) (order_cmp_total A.order.rows) (order_cmp_tied A.order.rows) A.p t in
      let no : Less ≡ Equal = sym less ∙ tie in
      cc

  -- each S-polynomial is a sum of multiples below the least common multiple
  pub s_polynomial-sum : (i j : ℕ) → IsThere A G i → IsThere A G j → IsSum A.p (multiple_weight A G) (Under A G (pair_lcm G i j)) (λ φ. weigh φ (s_polynomial A (element G i) (element G j)))
  s_polynomial-sum i j ti tj =
      let γ : Monomial = pair_lcm G i j in
      let S : Polynomial = s_polynomial A (element G i) (element G j) in
      low_is_sum A ok G γ (λ φ. weigh φ S)
      (⊎_elim (λ low. low) (λ nonzero. absurd (not_below_itself γ S (s_polynomial-below A ok G i j ti tj) (leads nonzero).0 (leads nonzero).1)) (topped_or_low A ok G (plain A ok G) γ (λ φ. weigh φ S) topped))
    where
      swap : (x y : ℕ) → x + y ≡ y + x
      swap x y = omega arith

      regroup : (c m r e k : ℕ) → c * m + r + e * (k * m) ≡ (c + e * k) * m + r
      regroup c m r e k = omega arith

      c : Connected A ok G (plain A ok G) (pair_lcm G i j) i j
      c = all.pair i j ti tj

      topped : IsTopped A ok G (plain A ok G) (pair_lcm G i j) (λ φ. weigh φ (s_polynomial A (element G i) (element G j)))
      topped = record {
        i = j;
        there = tj;
        divides_it = divides-common_second A ok G (plain A ok G) i j ti tj;
        number = c.factor + (A.p - 1) * pair_number A ok G i j ti tj;
        rest = c.rest;
        low = c.low;
        value = λ φ.
            (let s : ℕ = weigh φ (s_polynomial A (element G i) (element G j)) in
            let k : ℕ = pair_number A ok G i j ti tj in
            let m : ℕ = multiple_weight A G φ (lift A G (pair_lcm G i j) j) in
            let x : ℕ = multiple_weight A G φ (lift A G (pair_lcm G i j) i) in
            same_move A.p x s (k * m) (positive A ok) (s_polynomial-value A ok G i j ti tj φ ∙ same_refl A.p _ _ (swap (k * m) s))
            ∙ same_add A.p _ _ ((A.p - 1) * (k * m)) ((A.p - 1) * (k * m)) (c.value φ) refl
            ∙ same_refl A.p _ _ (regroup c.factor m (c.rest φ) (A.p - 1) k));
      }

      leads : NonZero A.p topped.number → (s_polynomial A (element G i) (element G j) ≢ []) × (leading_monomial (s_polynomial A (element G i) (element G j)) ≡ pair_lcm G i j)
      leads nonzero =
          let S : Polynomial = s_polynomial A (element G i) (element G j) in
          leads_at A ok G S (s_polynomial-is A ok G i j ti tj) (pair_lcm G i j) (length-common A ok G (plain A ok G) i j ti tj) (λ φ. weigh φ S) (λ φ. refl) topped nonzero

  -- ---- membership

  fits : (k : Multiple) → IsMultiple A G k → Fits A G k
  fits k h = (h.0, is_there A G elements k.1 h.1)

  -- a polynomial in the span is zero, or a sum of multiples at most its leading monomial
  pub span_within : IsWellFounded A.order → (f : Polynomial) → IsPolynomial A.p A.order f → InSpan A G f → (f ≡ []) ⊎ IsWithin A ok G f
  span_within well f f_is s = within A ok G all well f f_is (sum_weaker A.p (multiple_weight A G) (IsMultiple A G) (Fits A G) fits (λ φ. weigh φ f) s)

-- ---- finished runs

module _ (A : Algebra) (ok : IsGAlgebra A) (gens : List Polynomial) (sorted : Each (IsPolynomial A.p A.order) gens) (mode : Mode) (budget : ℕ) where
  abbrev pub J : Journal
  J = machine A gens mode budget

  pub told : IsTold A ok gens sorted mode (machine A gens mode budget)
  told = machine-told A ok gens sorted mode budget

  pub run_elements : Each (IsElement A) J.basis
  run_elements = told.elements

  module _ (end : J.outcome ≡ Finished) where
    -- all pairs of a finished run are linked
    pub run_linked : AllLinked A ok J.basis (plain A ok J.basis)
    run_linked =
        all_linked A ok J.basis (plain A ok J.basis) told.elements J.entries
        (treated_pair A ok gens sorted mode J.basis told.elements [] J.entries told.replay)
        (λ i j low less high.
        told.settled end (Pair i j) (
          (
            (low, less, high),
            (
              (Each-element (IsElement A) J.basis i told.elements low (omega arith)).1,
              (Each-element (IsElement A) J.basis j told.elements (omega arith) high).1,
            ),
          ),
          pair_of_mode mode i j,
        ))

    -- a generator that is not zero was treated
    pub seed_treated : (s : ℕ) → IsNumber gens s → element gens s ≢ [] → Treats J.entries (Seed s)
    seed_treated s number nonzero = settled_treated J.basis J.entries (Seed s) (told.settled end (Seed s) ((number, nonzero), seed_of_mode mode s))

    -- the basis spans the generators
    pub generator_span : (s : ℕ) → IsNumber gens s → InSpan A J.basis (element gens s)
    generator_span s number = by (element gens s) refl
      where
        by : (f : Polynomial) → element gens s ≡ f → InSpan A J.basis (element gens s)
        by [] is = subst (InSpan A J.basis) (sym is) (sum_zero A.p (multiple_weight A J.basis) (IsMultiple A J.basis))
        by (t ∷ f) is =
            let nonzero : element gens s ≢ [] = λ none. (let no : t ∷ f ≡ [] = sym is ∙ none in cc) in
            let sum : IsStartSum A ok gens sorted mode J.basis told.elements (λ m. Unit {0}) (λ x m less q. tt) (Seed s) =
            treated_sum A ok gens sorted mode J.basis told.elements (λ m. Unit {0}) (λ x m less q. tt) (Seed s) (λ h e. Each-always (λ t. Unit {0}) (λ t. tt) h) [] J.entries told.replay
            (seed_treated s number nonzero) in
            subst (InSpan A J.basis) (sym (start_of-seed A gens J.basis s sum.start sum.start_is))
            (sum_weaker A.p (multiple_weight A J.basis) (λ k. Fits A J.basis k × Unit {0}) (IsMultiple A J.basis) (λ k h. (h.0.0, (h.0.1.low, h.0.1.high))) (λ φ. weigh φ sum.start) sum.sum)

    -- each generator is reduced to zero by the basis
    pub generator_reduced : Each (λ f. poly_degree f ≤ degree_limit) gens → (s : ℕ) → IsNumber gens s → ReducesToZero A J.basis (element gens s)
    generator_reduced low s number = by (element gens s) refl
      where
        by : (f : Polynomial) → element gens s ≡ f → ReducesToZero A J.basis (element gens s)
        by [] is = subst (ReducesToZero A J.basis) (sym is) (zero_reduced A ok J.basis (Each-weaker _ _ (λ f e. e.0) J.basis told.elements))
        by (t ∷ f) is =
            let nonzero : element gens s ≢ [] = λ none. (let no : t ∷ f ≡ [] = sym is ∙ none in cc) in
            let r : StartReducesToZero A gens J.basis (Seed s) =
            treated_reduced A ok gens sorted low mode J.basis told.elements J.entries
            (entries_reduced A ok gens sorted low mode J.basis told.elements [] J.entries told.replay) (Seed s) (seed_treated s number nonzero) in
            subst (ReducesToZero A J.basis) (sym (start_of-seed A gens J.basis s r.0 r.1)) r.2
