-- Sugars: an element's sugar is at least its degree.
use Rattle.std.proofs.lemmas.List.Sums.{sum_by-cons}
use Rattle.std.proofs.Common.{◌≡◌, ℕ, zero, suc, ◌+◌, ◌-◌, ◌<◌, ◌≤◌, max, true, List, [], ◌∷◌, ◌++◌, length, Option, Some, None, slice_index_or, refl, sym, ap, ◌∙◌, subst, arith}
use Rattle.monomials.specs.Monomials.{Monomial, degree, plus, minus, lcm}
use Rattle.monomials.specs.Polynomials.{Polynomial, Each, HasVars, poly_degree}
use Rattle.monomials.specs.Leading.{leading_monomial, leading_coefficient}
use Rattle.monomials.proofs.Exponents.{degree-plus}
use Rattle.word_model.specs.Words.{Algebra}
use Rattle.word_model.specs.Conditions.{IsGAlgebra}
use Rattle.word_model.specs.Products.{product, variable_polynomial, degree_limit}
use Rattle.word_model.specs.Reduction.{element, quotient, multiple, is_within, Target, leading_target, step_by, less_step, Next, Ends, Undefined, Goes, next_step, after_step, steps_within, enough_steps, reduce}
use Rattle.word_model.specs.Jobs.{IsJob, start_of, s_polynomial, pair_within, sugar_at, job_sugar, element_sugar, AreSugars, UsesElements}
use Rattle.word_model.specs.Machine.{IsElement}
use Rattle.word_model.specs.declared.records.Job.{Job}
use Rattle.word_model.specs.declared.records.Job.TheVariants.{Seed, Pair, Right}
use Rattle.word_model.specs.declared.records.TraceStep.{TraceStep}
use Rattle.word_model.proofs.Reach.{within-degrees}
use Rattle.word_model.proofs.Degrees.{HasDegrees-poly_degree, poly_degree-le, poly_degree-product}
use Rattle.word_model.proofs.LeastNumbers.{Each-element}
use Rattle.word_model.proofs.Divisions.{length-minus, plus-minus}
use Rattle.word_model.proofs.CommonMultiples.{length-lcm, divides-lcm, divides-lcm_second}
use Rattle.word_model.proofs.TermProducts.{poly_degree-variable}
use Rattle.word_model.proofs.Targets.{IsPicked, leading_target-falls}
use Rattle.word_model.proofs.Multiples.{step_vars}
use Rattle.word_model.proofs.PairCofactors.{length-leading_monomial}
use Rattle.word_model.proofs.Differences.{EachKey-sub}
use Rattle.word_model.proofs.Starts.{start_of-pair, start_of-seed, start_of-right}
use Rattle.word_model.proofs.Reductions.{IsOf, next_step-goes}
use Rattle.word_model.proofs.ReductionInduction.{IsReduction, leading_reduction, reduction_cases}

-- ---- lists of sugars

pub AreSugars-length : (G : List Polynomial) (sugars : List ℕ) → AreSugars G sugars → length sugars ≡ length G
AreSugars-length [] [] h = refl
AreSugars-length [] (n ∷ sugars) h = absurd h
AreSugars-length (g ∷ G) [] h = absurd h
AreSugars-length (g ∷ G) (n ∷ sugars) h = ap suc (AreSugars-length G sugars h.1)

pub AreSugars-append : (G : List Polynomial) (sugars : List ℕ) (g : Polynomial) (n : ℕ) → AreSugars G sugars → poly_degree g ≤ n
    → AreSugars (G ++ g ∷ []) (sugars ++ n ∷ [])
AreSugars-append [] [] g n h low = (low, tt)
AreSugars-append [] (m ∷ sugars) g n h low = absurd h
AreSugars-append (f ∷ G) [] g n h low = absurd h
AreSugars-append (f ∷ G) (m ∷ sugars) g n h low = (h.0, AreSugars-append G sugars g n h.1 low)

AreSugars-index : (G : List Polynomial) (sugars : List ℕ) (k : ℕ) → AreSugars G sugars → poly_degree (slice_index_or G k []) ≤ slice_index_or sugars k 0
AreSugars-index [] sugars k h = omega arith
AreSugars-index (g ∷ G) [] k h = absurd h
AreSugars-index (g ∷ G) (n ∷ sugars) zero h = h.0
AreSugars-index (g ∷ G) (n ∷ sugars) (suc k) h = AreSugars-index G sugars k h.1

-- an element's degree is at most its sugar
pub AreSugars-element : (G : List Polynomial) (sugars : List ℕ) (i : ℕ) → AreSugars G sugars → poly_degree (element G i) ≤ sugar_at sugars i
AreSugars-element G sugars i h = AreSugars-index G sugars (i - 1) h

-- and so is that of its leading monomial
pub lead_degree : (f : Polynomial) → degree (leading_monomial f) ≤ poly_degree f
lead_degree [] = omega arith
lead_degree (t ∷ f) = omega arith

module _ (A : Algebra) (ok : IsGAlgebra A) where
  multiple_degree : (c : ℕ) (m : Monomial) (g : Polynomial) → length m ≡ A.order.vars → HasVars A.order.vars g → poly_degree (multiple A c m g) ≤ degree m + poly_degree g
  multiple_degree c m g hm hg = omega (arith, poly_degree-product A ok.downward ((c, m) ∷ []) g (hm, tt) hg)

  -- ---- starts

  module _ (gens G : List Polynomial) (elements : Each (IsElement A) G) (sugars : List ℕ) (are : AreSugars G sugars) where
    -- the degree of a multiple that reaches a common multiple of leading monomials
    lifted : (f : Polynomial) (l : Monomial) (c s : ℕ) → IsElement A f → length l ≡ A.order.vars → plus (minus l (leading_monomial f)) (leading_monomial f) ≡ l → poly_degree f ≤ s
        → poly_degree (multiple A c (minus l (leading_monomial f)) f) ≤ degree l + (s - degree (leading_monomial f))
    lifted f l c s f_is vars over low =
        let lf : length (leading_monomial f) ≡ A.order.vars = length-leading_monomial A.order.vars f f_is.0.vars f_is.1 in
        let lm : length (minus l (leading_monomial f)) ≡ length l = length-minus l (leading_monomial f) (vars ∙ sym lf) in
        let sum : degree (minus l (leading_monomial f)) + degree (leading_monomial f) ≡ degree l =
        sym (degree-plus (minus l (leading_monomial f)) (leading_monomial f) (lm ∙ vars ∙ sym lf)) ∙ ap degree over in
        omega (arith, multiple_degree c (minus l (leading_monomial f)) f (lm ∙ vars) f_is.0.vars, sum, low, lead_degree f)

    -- no start has a degree above its job's sugar
    pub start_of-sugar : (job : Job) → IsJob (length gens) (length G) A.order.vars job → (h : Polynomial) → start_of A gens G job ≡ Some h
        → poly_degree h ≤ job_sugar gens G sugars job
    start_of-sugar (Seed s) named h e = omega (arith, ap poly_degree (start_of-seed A gens G s h e))
    start_of-sugar (Pair i j) named h e =
        let is : (s_polynomial A (element G i) (element G j) ≡ h) × (pair_within G i j ≡ true) = start_of-pair A gens G i j h e in
        let f : Polynomial = element G i in
        let g : Polynomial = element G j in
        let f_is : IsElement A (element G i) = Each-element (IsElement A) G i elements named.0 (omega (arith, named.1, named.2)) in
        let g_is : IsElement A (element G j) = Each-element (IsElement A) G j elements (omega (arith, named.0, named.1)) named.2 in
        let lf : length (leading_monomial f) ≡ A.order.vars = length-leading_monomial A.order.vars f f_is.0.vars f_is.1 in
        let lg : length (leading_monomial g) ≡ A.order.vars = length-leading_monomial A.order.vars g g_is.0.vars g_is.1 in
        let l : Monomial = lcm (leading_monomial f) (leading_monomial g) in
        let vars : length l ≡ A.order.vars = length-lcm (leading_monomial f) (leading_monomial g) (lf ∙ sym lg) ∙ lf in
        let a : Monomial = minus l (leading_monomial f) in
        let b : Monomial = minus l (leading_monomial g) in
        let k : ℕ = quotient A.p (leading_coefficient (multiple A 1 a f)) (leading_coefficient (multiple A 1 b g)) in
        let D : ℕ = job_sugar gens G sugars (Pair i j) in
        let first : poly_degree (multiple A 1 a f) ≤ degree l + (sugar_at sugars i - degree (leading_monomial f)) =
        lifted f l 1 (sugar_at sugars i) f_is vars (plus-minus l (leading_monomial f) (vars ∙ sym lf) (divides-lcm (leading_monomial f) (leading_monomial g) (lf ∙ sym lg)))
        (AreSugars-element G sugars i are) in
        let second : poly_degree (multiple A k b g) ≤ degree l + (sugar_at sugars j - degree (leading_monomial g)) =
        lifted g l k (sugar_at sugars j) g_is vars (plus-minus l (leading_monomial g) (vars ∙ sym lg) (divides-lcm_second (leading_monomial f) (leading_monomial g) (lf ∙ sym lg)))
        (AreSugars-element G sugars j are) in
        subst (λ f. poly_degree f ≤ D) is.0
        (poly_degree-le (s_polynomial A f g) D
        (EachKey-sub A ok (λ m. degree m ≤ D) (multiple A 1 a f) (multiple A k b g)
        (HasDegrees-poly_degree (multiple A 1 a f) D (omega (arith, first)))
        (HasDegrees-poly_degree (multiple A k b g) D (omega (arith, second)))))
    start_of-sugar (Right i v) named h e =
        let f_is : IsElement A (element G i) = Each-element (IsElement A) G i elements named.0 named.1 in
        let low : poly_degree (product A (element G i) (variable_polynomial A v)) ≤ poly_degree (element G i) + 1 =
        poly_degree-variable A ok.downward (element G i) v f_is.0.vars named.2 named.3 in
        omega (arith, low, ap poly_degree (start_of-right A gens G i v h e).0, AreSugars-element G sugars i are)

  -- ---- reductions

  module _ (G : List Polynomial) (elements : Each (IsOf A ok) G) (sugars : List ℕ) (are : AreSugars G sugars) where
    -- one step
    less_step-sugar : (h : Polynomial) (s : TraceStep) (n : ℕ) → length s.mono ≡ A.order.vars → HasVars A.order.vars (element G s.index) → poly_degree h ≤ n
        → poly_degree (less_step A G h s) ≤ max n (sugar_at sugars s.index + degree s.mono)
    less_step-sugar h s n vars g_vars low =
        let D : ℕ = max n (sugar_at sugars s.index + degree s.mono) in
        let q : Polynomial = multiple A s.coef s.mono (element G s.index) in
        poly_degree-le (less_step A G h s) D
        (EachKey-sub A ok (λ m. degree m ≤ D) h q
        (HasDegrees-poly_degree h D (omega (arith, low)))
        (HasDegrees-poly_degree q D (omega (arith, multiple_degree s.coef s.mono (element G s.index) vars g_vars, AreSugars-element G sugars s.index are))))

    next_step-sugar : (h : Polynomial) (s : TraceStep) (h' : Polynomial) (n : ℕ) → IsOf A ok h → next_step A G h (leading_target G h) ≡ Goes s h' → poly_degree h ≤ n
        → poly_degree h' ≤ max n (sugar_at sugars s.index + degree s.mono)
    next_step-sugar h s h' n h_is e low = by (leading_target G h) refl e
      where
        red : IsReduction A ok G (leading_target G) (reduce A G)
        red = leading_reduction A ok G elements

        by : (o : Option Target) → leading_target G h ≡ o → next_step A G h o ≡ Goes s h' → poly_degree h' ≤ max n (sugar_at sugars s.index + degree s.mono)
        by None at e = cc
        by (Some (t, i)) at e =
            let picked : IsPicked A G (leading_target G) h t i = red.targeting h t i at in
            let g_is : IsOf A ok (element G i) = Each-element (IsOf A ok) G i elements picked.divisor.low picked.divisor.high in
            let vars : length (step_by A t i (element G i)).mono ≡ A.order.vars =
            step_vars A ok G elements picked.above t picked.rest (subst (IsOf A ok) picked.is h_is) i picked.divisor in
            let goes : (is_within (step_by A t i (element G i)).mono (element G i) ≡ true) × (step_by A t i (element G i) ≡ s) × (less_step A G h (step_by A t i (element G i)) ≡ h') =
            next_step-goes A G h t i s h' e in
            let low : poly_degree (less_step A G h (step_by A t i (element G i))) ≤ max n (sugar_at sugars i + degree (step_by A t i (element G i)).mono) =
            less_step-sugar h (step_by A t i (element G i)) n vars g_is.vars low in
            subst (λ f. poly_degree f ≤ max n (sugar_at sugars s.index + degree s.mono)) goes.2
            (subst (λ (s : TraceStep). poly_degree (less_step A G h (step_by A t i (element G i))) ≤ max n (sugar_at sugars s.index + degree s.mono)) goes.1 low)

    -- what a reduction leaves has no degree above the sugar of its steps
    pub reduce-sugar : (h : Polynomial) (n : ℕ) → IsOf A ok h → poly_degree h ≤ n → poly_degree (reduce A G h).rest ≤ element_sugar sugars n (reduce A G h).trace
    reduce-sugar h n h_is low =
        reduction_cases A ok G elements (leading_target G) (reduce A G) (leading_reduction A ok G elements)
        (λ h r. (n : ℕ) → poly_degree h ≤ n → poly_degree r.rest ≤ element_sugar sugars n r.trace)
        (λ h h_is e n low. low)
        (λ h h_is n low. low)
        (λ h s h' h_is h'_is e r ih n low. ih (max n (sugar_at sugars s.index + degree s.mono)) (next_step-sugar h s h' n h_is e low))
        h h_is n low

-- ---- traces

module _ (A : Algebra) (G : List Polynomial) where
  step-uses : (h : Polynomial) (s : TraceStep) (h' : Polynomial) → next_step A G h (leading_target G h) ≡ Goes s h'
      → (1 ≤ s.index) × (s.index ≤ length G) × (degree s.mono ≤ degree_limit)
  step-uses h s h' e = by (leading_target G h) refl e
    where
      by : (o : Option Target) → leading_target G h ≡ o → next_step A G h o ≡ Goes s h' → (1 ≤ s.index) × (s.index ≤ length G) × (degree s.mono ≤ degree_limit)
      by None at e = cc
      by (Some (t, i)) at e =
          let picked : IsPicked A G (leading_target G) h t i = leading_target-falls A G h t i at in
          let m : Monomial = (step_by A t i (element G i)).mono in
          let goes : (is_within m (element G i) ≡ true) × (step_by A t i (element G i) ≡ s) × (less_step A G h (step_by A t i (element G i)) ≡ h') =
          next_step-goes A G h t i s h' e in
          let low : degree m + poly_degree (element G i) ≤ degree_limit = within-degrees m (element G i) picked.divisor.nonzero goes.0 in
          subst (λ (s : TraceStep). (1 ≤ s.index) × (s.index ≤ length G) × (degree s.mono ≤ degree_limit)) goes.1
          (picked.divisor.low, picked.divisor.high, omega (arith, low))

  steps-use : (k : ℕ) (h : Polynomial) → UsesElements (length G) (steps_within A G (leading_target G) k h).trace
  unfolding steps_within
  steps-use zero h = tt
  steps-use (suc k) h = by (next_step A G h (leading_target G h)) refl (steps-use k)
    where
      by : (n : Next) → next_step A G h (leading_target G h) ≡ n → ((h : Polynomial) → UsesElements (length G) (steps_within A G (leading_target G) k h).trace)
          → UsesElements (length G) (after_step (steps_within A G (leading_target G) k) h n).trace
      by Ends e ih = tt
      by Undefined e ih = tt
      by (Goes s h') e ih = (step-uses h s h' e, ih h')

  -- the steps use elements that there are
  pub reduce-uses : (h : Polynomial) → UsesElements (length G) (reduce A G h).trace
  unfolding reduce
  reduce-uses h = steps-use (enough_steps A.order.vars h) h

-- ---- bounds

-- the degree of an lcm is at most the sum of the degrees
pub degree-lcm : (a b : Monomial) → degree (lcm a b) ≤ degree a + degree b
degree-lcm [] b = omega arith
degree-lcm (x ∷ a) [] = omega arith
degree-lcm (x ∷ a) (y ∷ b) =
    omega (arith, degree-lcm a b, sum_by-cons (λ x. x) x a, sum_by-cons (λ x. x) y b, sum_by-cons (λ x. x) (max x y) (lcm a b))

-- a sugar of a list whose sugars are at most b
pub sugar_at-most : (b : ℕ) (sugars : List ℕ) (i : ℕ) → Each (λ n. n ≤ b) sugars → sugar_at sugars i ≤ b
sugar_at-most b sugars i few = at sugars (i - 1) few
  where
    at : (sugars : List ℕ) (k : ℕ) → Each (λ n. n ≤ b) sugars → slice_index_or sugars k 0 ≤ b
    at [] k few = omega arith
    at (n ∷ sugars) zero few = few.0
    at (n ∷ sugars) (suc k) few = at sugars k few.1

-- an element's sugar is at most c, where that of its job is and the steps cannot reach higher
pub element_sugar-most : (b c : ℕ) (sugars : List ℕ) (m n : ℕ) (trace : List TraceStep) → Each (λ n. n ≤ b) sugars → b + degree_limit ≤ c → UsesElements m trace
    → n ≤ c → element_sugar sugars n trace ≤ c
element_sugar-most b c sugars m n [] few wide uses low = low
element_sugar-most b c sugars m n (t ∷ trace) few wide uses low =
    element_sugar-most b c sugars m (max n (sugar_at sugars t.index + degree t.mono)) trace few wide uses.1
    (omega (arith, low, wide, sugar_at-most b sugars t.index few, uses.0.2))

-- ---- longer lists

sugar_at-append : (sugars : List ℕ) (n i : ℕ) → 1 ≤ i → i ≤ length sugars → sugar_at (sugars ++ n ∷ []) i ≡ sugar_at sugars i
sugar_at-append sugars n i low high = at sugars (i - 1) (omega arith)
  where
    at : (sugars : List ℕ) (k : ℕ) → k < length sugars → slice_index_or (sugars ++ n ∷ []) k 0 ≡ slice_index_or sugars k 0
    at [] k h = absurd (omega arith)
    at (m ∷ sugars) zero h = refl
    at (m ∷ sugars) (suc k) h = at sugars k (omega arith)

element-append : (G : List Polynomial) (g : Polynomial) (i : ℕ) → 1 ≤ i → i ≤ length G → element (G ++ g ∷ []) i ≡ element G i
element-append G g i low high = at G (i - 1) (omega arith)
  where
    at : (G : List Polynomial) (k : ℕ) → k < length G → slice_index_or (G ++ g ∷ []) k [] ≡ slice_index_or G k []
    at [] k h = absurd (omega arith)
    at (f ∷ G) zero h = refl
    at (f ∷ G) (suc k) h = at G k (omega arith)

-- a job's sugar stays as the basis grows
pub job_sugar-append : (gens G : List Polynomial) (sugars : List ℕ) (g : Polynomial) (n k : ℕ) (job : Job) → length sugars ≡ length G → IsJob (length gens) (length G) k job
    → job_sugar gens (G ++ g ∷ []) (sugars ++ n ∷ []) job ≡ job_sugar gens G sugars job
job_sugar-append gens G sugars g n k (Seed s) count named = refl
job_sugar-append gens G sugars g n k (Pair i j) count named =
    let gi : element (G ++ g ∷ []) i ≡ element G i = element-append G g i named.0 (omega (arith, named.1, named.2)) in
    let gj : element (G ++ g ∷ []) j ≡ element G j = element-append G g j (omega (arith, named.0, named.1)) named.2 in
    let si : sugar_at (sugars ++ n ∷ []) i ≡ sugar_at sugars i = sugar_at-append sugars n i named.0 (omega (arith, named.1, named.2, count)) in
    let sj : sugar_at (sugars ++ n ∷ []) j ≡ sugar_at sugars j = sugar_at-append sugars n j (omega (arith, named.0, named.1)) (omega (arith, named.2, count)) in
    λ x. degree (lcm (leading_monomial (gi x)) (leading_monomial (gj x))) + max (si x - degree (leading_monomial (gi x))) (sj x - degree (leading_monomial (gj x)))
job_sugar-append gens G sugars g n k (Right i v) count named =
    ap (λ s. s + 1) (sugar_at-append sugars n i named.0 (omega (arith, named.1, count)))
