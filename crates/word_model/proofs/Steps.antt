-- Runs of the machine: what every state of a run has.
use Rattle.std.proofs.Common.{◌≡◌, ◌≢◌, ℕ, zero, suc, ◌+◌, ◌-◌, ◌*◌, ◌%◌, ◌<◌, ◌≤◌, Bool, true, false, cond, not, nat_le, if◌then◌else◌, List, [], ◌∷◌, ◌++◌, length, Option, None, Some, slice_index_or, refl, sym, ap, ◌∙◌, subst, arith, le_refl, length-append}
use Rattle.std.proofs.Common.{is_lt, filter}
use lib.ListN.{get_or-append}
use Rattle.std.proofs.Math.Nat.{mod-eq_of_lt}
use Rattle.std.proofs.lemmas.Bool.Decides.{nat_tests}
use Rattle.monomials.specs.Monomials.{degree}
use Rattle.monomials.specs.Polynomials.{Polynomial, Each, IsPolynomial, poly_degree, cons_nonzero, poly_scale, poly_sub}
use Rattle.monomials.specs.Orders.{order_cmp}
use Rattle.monomials.specs.Leading.{leading_coefficient}
use Rattle.monomials.proofs.Modulo.{Same}
use Rattle.monomials.proofs.Keys.{Each-append, Each-weaker, EachKey-poly_scale}
use Rattle.monomials.proofs.Operations.{IsPolynomial-poly_add, IsPolynomial-poly_scale}
use Rattle.prime_field.specs.Modular.{inverse}
use Rattle.word_model.specs.Words.{Algebra}
use Rattle.word_model.specs.Conditions.{IsGAlgebra, NonZero}
use Rattle.word_model.specs.Products.{product, in_reach, variable_polynomial}
use Rattle.word_model.specs.Reduction.{element, Reduced, reduce}
use Rattle.word_model.specs.Jobs.{IsJob, NamesNonzero, start_of, s_polynomial, pair_within, without, same_job, job_sugar, element_sugar, least_job, key_cmp, chain_witness}
use Rattle.word_model.specs.Machine.{State, Turn, On, Over, step, seeds_from, first_state, pairs_with, rights_of, jobs_of, with_entry, with_element, turn_of_rest, turn_of_start, turn_of_job, most_elements, after_turn, run_within, machine, IsElement, IsState}
use Rattle.word_model.proofs.Degrees.{HasDegrees-poly_degree, poly_degree-le}
use Rattle.word_model.proofs.NormalForms.{product_is_polynomial}
use Rattle.word_model.proofs.LeastNumbers.{Each-element}
use Rattle.word_model.proofs.Divisions.{inverse-is}
use Rattle.word_model.proofs.Multiples.{leading_coefficient-nonzero}
use Rattle.word_model.proofs.Reductions.{reduce-sorted}
use Rattle.word_model.proofs.Sugars.{AreSugars-append, start_of-sugar, reduce-sugar}
use Rattle.word_model.specs.declared.records.Job.{Job}
use Rattle.word_model.specs.declared.records.Job.TheVariants.{Seed, Pair, Right}
use Rattle.word_model.specs.declared.records.Mode.{Mode}
use Rattle.word_model.specs.declared.records.Mode.TheVariants.{Left, TwoSided}
use Rattle.word_model.specs.declared.records.Entry.{Entry}
use Rattle.word_model.specs.declared.records.Entry.TheVariants.{Zero}
use Rattle.word_model.specs.declared.records.Outcome.TheVariants.{Finished, BudgetSpent, BasisFull, DegreeOver}

-- ---- lists

-- what holds of all elements holds of those that a filter leaves
pub Each-filter : {X : Type 0} (P : X → Type 0) (test : X → Bool) (xs : List X) → Each P xs → Each P (filter test xs)
Each-filter P test [] h = tt
Each-filter P test (x ∷ xs) h = by (test x) (Each-filter P test xs h.1)
  where
    by : (b : Bool) → Each P (filter test xs) → Each P (cond b (x ∷ filter test xs) (filter test xs))
    by true ih = (h.0, ih)
    by false ih = ih

-- the job of the least key is one of the jobs
pub least_job-one : (P : Job → Type 0) (A : Algebra) (gens G : List Polynomial) (sugars : List ℕ) (job : Job) (queue : List Job) → P job → Each P queue
    → P (least_job A gens G sugars job queue)
least_job-one P A gens G sugars job [] h k = h
least_job-one P A gens G sugars job (other ∷ queue) h k =
    least_job-one P A gens G sugars (if is_lt (key_cmp A gens G sugars other job) then other else job) queue (by (is_lt (key_cmp A gens G sugars other job))) k.1
  where
    by : (b : Bool) → P (if b then other else job)
    by true = k.0
    by false = h

-- an element keeps its number in a longer list
pub element-append : (G H : List Polynomial) (i : ℕ) → 1 ≤ i → i ≤ length G → element (G ++ H) i ≡ element G i
element-append G H i low high = get_or-append G H [] (i - 1) (omega arith)

-- the element behind a list
pub element-last : (G : List Polynomial) (g : Polynomial) → element (G ++ g ∷ []) (suc (length G)) ≡ g
element-last G g = at_end G (suc (length G) - 1) (omega arith)
  where
    at_end : (G : List Polynomial) (k : ℕ) → k ≡ length G → slice_index_or (G ++ g ∷ []) k [] ≡ g
    at_end [] zero e = refl
    at_end [] (suc k) e = absurd (omega arith)
    at_end (x ∷ G) zero e = absurd (omega arith)
    at_end (x ∷ G) (suc k) e = at_end G k (omega arith)

-- ---- jobs

-- a job names what there is
abbrev pub IsTreated : List Polynomial → List Polynomial → ℕ → Job → Type 0
IsTreated gens G n job = IsJob (length gens) (length G) n job × NamesNonzero gens G job

-- and so it does when the basis grows
pub IsTreated-longer : (gens G : List Polynomial) (g : Polynomial) (n : ℕ) (job : Job) → IsTreated gens G n job → IsTreated gens (G ++ g ∷ []) n job
IsTreated-longer gens G g n (Seed s) h = h
IsTreated-longer gens G g n (Pair i j) h =
    let longer : length (G ++ g ∷ []) ≡ suc (length G) = length-append G (g ∷ []) ∙ omega arith in
    let j_low : 1 ≤ j = omega (arith, h.0.0, h.0.1) in
    let i_high : i ≤ length G = omega (arith, h.0.1, h.0.2) in (
      (h.0.0, h.0.1, omega (arith, h.0.2, longer)),
      (
        subst (λ f. f ≢ []) (sym (element-append G (g ∷ []) i h.0.0 i_high)) h.1.0,
        subst (λ f. f ≢ []) (sym (element-append G (g ∷ []) j j_low h.0.2)) h.1.1,
      ),
    )
IsTreated-longer gens G g n (Right i v) h =
    let longer : length (G ++ g ∷ []) ≡ suc (length G) = length-append G (g ∷ []) ∙ omega arith in (
      (h.0.0, omega (arith, h.0.1, longer), h.0.2, h.0.3),
      subst (λ f. f ≢ []) (sym (element-append G (g ∷ []) i h.0.0 h.0.1)) h.1,
    )

module _ (gens G : List Polynomial) (g : Polynomial) (n : ℕ) (nonzero : g ≢ []) (others : Each (λ f. f ≢ []) G) where
  longer_is : length (G ++ g ∷ []) ≡ suc (length G)
  longer_is = length-append G (g ∷ []) ∙ omega arith

  last_nonzero : element (G ++ g ∷ []) (suc (length G)) ≢ []
  last_nonzero = subst (λ f. f ≢ []) (sym (element-last G g)) nonzero

  -- the pairs of a new element name what there is
  pairs_with-treated : (k : ℕ) → k ≤ length G → Each (IsTreated gens (G ++ g ∷ []) n) (pairs_with (suc (length G)) k)
  pairs_with-treated zero few = tt
  pairs_with-treated (suc k) few =
      Each-append (IsTreated gens (G ++ g ∷ []) n) (pairs_with (suc (length G)) k) (Pair (suc k) (suc (length G)) ∷ [])
      (pairs_with-treated k (omega arith)) (
        (
          (omega arith, omega arith, omega (arith, longer_is)),
          (
            subst (λ f. f ≢ []) (sym (element-append G (g ∷ []) (suc k) (omega arith) few)) (Each-element (λ f. f ≢ []) G (suc k) others (omega arith) few),
            last_nonzero,
          ),
        ),
        tt,
      )

  -- and so do its products with variables
  rights_of-treated : (k : ℕ) → k ≤ n → Each (IsTreated gens (G ++ g ∷ []) n) (rights_of (suc (length G)) k)
  rights_of-treated zero few = tt
  rights_of-treated (suc k) few =
      Each-append (IsTreated gens (G ++ g ∷ []) n) (rights_of (suc (length G)) k) (Right (suc (length G)) (suc k) ∷ [])
      (rights_of-treated k (omega arith))
      (((omega arith, omega (arith, longer_is), omega arith, few), last_nonzero), tt)

  -- all jobs that a new element brings
  pub jobs_of-treated : (mode : Mode) → Each (IsTreated gens (G ++ g ∷ []) n) (jobs_of mode n (suc (length G)))
  jobs_of-treated Left = pairs_with-treated (suc (length G) - 1) (omega arith)
  jobs_of-treated TwoSided =
      Each-append (IsTreated gens (G ++ g ∷ []) n) (pairs_with (suc (length G)) (suc (length G) - 1)) (rights_of (suc (length G)) n)
      (pairs_with-treated (suc (length G) - 1) (omega arith)) (rights_of-treated n (le_refl n))

-- the seeds name generators that are not zero
seeds_from-treated : (gens : List Polynomial) (n s : ℕ) (H : List Polynomial)
    → ((k : ℕ) → k < length H → (s + k ≤ length gens) × (element gens (s + k) ≡ slice_index_or H k [])) → 1 ≤ s → Each (IsTreated gens [] n) (seeds_from s H)
seeds_from-treated gens n s [] at low = tt
seeds_from-treated gens n s ([] ∷ H) at low = seeds_from-treated gens n (suc s) H (λ k below. later k (at (suc k) (omega arith))) (omega arith)
  where
    later : (k : ℕ) → (s + suc k ≤ length gens) × (element gens (s + suc k) ≡ slice_index_or H k []) → (suc s + k ≤ length gens) × (element gens (suc s + k) ≡ slice_index_or H k [])
    later k e = let turned : s + suc k ≡ suc s + k = omega arith in (omega (arith, e.0), subst (λ x. element gens x ≡ slice_index_or H k []) turned e.1)
seeds_from-treated gens n s ((t ∷ f) ∷ H) at low =
    let here : (s + 0 ≤ length gens) × (element gens (s + 0) ≡ t ∷ f) = at 0 (omega arith) in
    let plain : s + 0 ≡ s = omega arith in
    let is : element gens s ≡ t ∷ f = subst (λ x. element gens x ≡ t ∷ f) plain here.1 in
    (((low, omega (arith, here.0)), subst (λ g. g ≢ []) (sym is) (λ no. cc)), seeds_from-treated gens n (suc s) H (λ k below. later k (at (suc k) (omega arith))) (omega arith))
  where
    later : (k : ℕ) → (s + suc k ≤ length gens) × (element gens (s + suc k) ≡ slice_index_or H k []) → (suc s + k ≤ length gens) × (element gens (suc s + k) ≡ slice_index_or H k [])
    later k e = let turned : s + suc k ≡ suc s + k = omega arith in (omega (arith, e.0), subst (λ x. element gens x ≡ slice_index_or H k []) turned e.1)

-- ---- states

module _ (A : Algebra) (ok : IsGAlgebra A) (gens : List Polynomial) (sorted : Each (IsPolynomial A.p A.order) gens) where
  positive : 0 < A.p
  positive = let more : 1 < A.p = ok.field.more in omega arith

  zero_sorted : IsPolynomial A.p A.order []
  zero_sorted = record { canonical = tt; vars = tt }

  sub_sorted : (f g : Polynomial) → IsPolynomial A.p A.order f → IsPolynomial A.p A.order g
      → IsPolynomial A.p A.order (poly_sub (order_cmp A.order.rows) A.p f g)
  sub_sorted f g f_is g_is =
      IsPolynomial-poly_add A.p A.order positive f (poly_scale A.p (A.p - 1) g) f_is (IsPolynomial-poly_scale A.p A.order positive (A.p - 1) g g_is)

  product_sorted : (f g : Polynomial) → IsPolynomial A.p A.order (product A f g)
  product_sorted f g = product_is_polynomial A ok.field.more f g

  -- the start of a job is a polynomial
  pub start_of-sorted : (G : List Polynomial) (job : Job) (h : Polynomial) → Each (IsPolynomial A.p A.order) G → IsJob (length gens) (length G) A.order.vars job
      → start_of A gens G job ≡ Some h → IsPolynomial A.p A.order h
  unfolding start_of
  start_of-sorted G (Seed s) h elements named e =
      let is : element gens s ≡ h = cc in
      subst (IsPolynomial A.p A.order) is (Each-element (IsPolynomial A.p A.order) gens s sorted named.0 named.1)
  start_of-sorted G (Pair i j) h elements named e = by (pair_within G i j) e
    where
      by : (b : Bool) → (if b then Some (s_polynomial A (element G i) (element G j)) else None) ≡ Some h → IsPolynomial A.p A.order h
      by true e =
          let is : s_polynomial A (element G i) (element G j) ≡ h = cc in
          subst (IsPolynomial A.p A.order) is (sub_sorted _ _ (product_sorted _ _) (product_sorted _ _))
      by false e = cc
  start_of-sorted G (Right i v) h elements named e = by (in_reach (element G i) (variable_polynomial A v)) e
    where
      by : (b : Bool) → (if b then Some (product A (element G i) (variable_polynomial A v)) else None) ≡ Some h → IsPolynomial A.p A.order h
      by true e =
          let is : product A (element G i) (variable_polynomial A v) ≡ h = cc in
          subst (IsPolynomial A.p A.order) is (product_sorted _ _)
      by false e = cc

  at_start : (k : ℕ) → element gens (1 + k) ≡ slice_index_or gens k []
  at_start k = let plain : 1 + k - 1 ≡ k = omega arith in ap (λ x. slice_index_or gens x []) plain

  -- the first state is one
  pub first_state-is : IsState A gens (first_state gens)
  first_state-is = record {
    elements = tt;
    few = omega arith;
    sugars = tt;
    jobs = seeds_from-treated gens A.order.vars 1 gens (λ k below. (omega arith, at_start k)) (omega arith);
  }

  -- a job that leaves the queue leaves the rest as it was
  with_entry-is : (s : State) (job : Job) (entry : Entry) → IsState A gens s → IsState A gens (with_entry s job entry)
  with_entry-is s job entry is = record {
    elements = is.elements;
    few = is.few;
    sugars = is.sugars;
    jobs = Each-filter (IsTreated gens s.basis A.order.vars) (λ other. not (same_job job other)) s.queue is.jobs;
  }

  -- the multiple that makes a polynomial monic is an element
  monic-is : (f : Polynomial) → IsPolynomial A.p A.order f → f ≢ [] → IsElement A (poly_scale A.p (inverse A.p (leading_coefficient f)) f)
  monic-is [] f_is nonzero = absurd (nonzero refl)
  monic-is (t ∷ f) f_is nonzero =
      let k : ℕ = inverse A.p t.0 in
      let nonzero_numbers : NonZero A.p t.0 = leading_coefficient-nonzero A (t ∷ f) f_is.canonical nonzero in
      let unit : Same A.p (t.0 * k) 1 = inverse-is A.p t.0 ok.field nonzero_numbers in
      let more : 1 < A.p = ok.field.more in
      let one : (k * t.0) % A.p ≡ 1 = ap (λ x. x % A.p) (turn k t.0) ∙ unit ∙ mod-eq_of_lt more in
      (IsPolynomial-poly_scale A.p A.order positive k (t ∷ f) f_is, λ none. (let no : (1, t.1) ∷ poly_scale A.p k f ≡ [] = sym (ap (λ c. cons_nonzero c t.1 (poly_scale A.p k f)) one) ∙ none in cc))
    where
      turn : (a b : ℕ) → a * b ≡ b * a
      turn a b = omega arith

  -- no multiple by a number has a greater degree
  scale_degree : (k : ℕ) (f : Polynomial) → poly_degree (poly_scale A.p k f) ≤ poly_degree f
  scale_degree k f =
      poly_degree-le (poly_scale A.p k f) (poly_degree f)
      (EachKey-poly_scale A.p (λ m. degree m ≤ poly_degree f) k f (HasDegrees-poly_degree f (poly_degree f) (le_refl (poly_degree f))))

  -- the rest has no degree above the sugar that its element gets
  abbrev pub IsSugared : State → Job → Reduced → Type 0
  IsSugared s job r = poly_degree r.rest ≤ element_sugar s.sugars (job_sugar gens s.basis s.sugars job) r.trace

  -- a new element
  with_element-is : (mode : Mode) (s : State) (job : Job) (r : Reduced) → IsState A gens s → IsPolynomial A.p A.order r.rest → IsSugared s job r → r.rest ≢ []
      → length s.basis < most_elements → IsState A gens (with_element A gens mode s job r)
  with_element-is mode s job r is rest_is sugared nonzero room =
      let g : Polynomial = poly_scale A.p (inverse A.p (leading_coefficient r.rest)) r.rest in
      let element_is : IsElement A g = monic-is r.rest rest_is nonzero in
      record {
        elements = Each-append (IsElement A) s.basis (g ∷ []) is.elements (element_is, tt);
        few = omega (arith, length-append s.basis (g ∷ []));
        sugars =
            AreSugars-append s.basis s.sugars g (element_sugar s.sugars (job_sugar gens s.basis s.sugars job) r.trace) is.sugars
            (omega (arith, scale_degree (inverse A.p (leading_coefficient r.rest)) r.rest, sugared));
        jobs =
            Each-append (IsTreated gens (s.basis ++ g ∷ []) A.order.vars) (without job s.queue) (jobs_of mode A.order.vars (suc (length s.basis)))
            (Each-weaker (IsTreated gens s.basis A.order.vars) (IsTreated gens (s.basis ++ g ∷ []) A.order.vars) (IsTreated-longer gens s.basis g A.order.vars) (without job s.queue)
            (Each-filter (IsTreated gens s.basis A.order.vars) (λ other. not (same_job job other)) s.queue is.jobs))
            (jobs_of-treated gens s.basis g A.order.vars element_is.1 (Each-weaker (IsElement A) (λ f. f ≢ []) (λ f h. h.1) s.basis is.elements) mode);
      }

  -- a state is what a turn leads to, where it goes on
  abbrev pub IsTurn : Turn → Type 0
  IsTurn (On s) = IsState A gens s
  IsTurn (Over outcome) = Unit {0}

  turn_of_rest-is : (mode : Mode) (s : State) (job : Job) (r : Reduced) → IsState A gens s → IsPolynomial A.p A.order r.rest → IsSugared s job r → IsTurn (turn_of_rest A gens mode s job r)
  turn_of_rest-is mode s job r is rest_is sugared = by r.over r.rest (nat_le most_elements (length s.basis)) refl refl
    where
      by : (over : Bool) (rest : Polynomial) (full : Bool) → r.rest ≡ rest → nat_le most_elements (length s.basis) ≡ full
          → IsTurn (if over then Over DegreeOver else elim rest [
            | [] ↦ On (with_entry s job (Zero job r.trace))
            | t ∷ f ↦ if full then Over BasisFull else On (with_element A gens mode s job r)
          ])
      by true rest full e room = tt
      by false [] full e room = with_entry-is s job (Zero job r.trace) is
      by false (t ∷ f) true e room = tt
      by false (t ∷ f) false e room = with_element-is mode s job r is rest_is sugared (λ no. (let none : t ∷ f ≡ [] = sym e ∙ no in cc)) (grind (arith, nat_tests, room))

  turn_of_start-is : (mode : Mode) (s : State) (job : Job) (h : Option Polynomial) → IsState A gens s
      → ((f : Polynomial) → h ≡ Some f → IsPolynomial A.p A.order f × (poly_degree f ≤ job_sugar gens s.basis s.sugars job)) → IsTurn (turn_of_start A gens mode s job h)
  turn_of_start-is mode s job None is h_is = tt
  turn_of_start-is mode s job (Some h) is h_is =
      let elements : Each (IsPolynomial A.p A.order) s.basis = Each-weaker (IsElement A) (IsPolynomial A.p A.order) (λ f e. e.0) s.basis is.elements in
      turn_of_rest-is mode s job (reduce A s.basis h) is (reduce-sorted A ok s.basis elements h (h_is h refl).0)
      (reduce-sugar A ok s.basis elements s.sugars is.sugars h (job_sugar gens s.basis s.sugars job) (h_is h refl).0 (h_is h refl).1)

  turn_of_job-is : (mode : Mode) (s : State) (job : Job) (witness : Option ℕ) → IsState A gens s → IsTreated gens s.basis A.order.vars job → IsTurn (turn_of_job A gens mode s job witness)
  turn_of_job-is mode s job (Some k) is job_is = with_entry-is s job _ is
  turn_of_job-is mode s job None is job_is =
      turn_of_start-is mode s job (start_of A gens s.basis job) is
      (λ f e. (
        start_of-sorted s.basis job f (Each-weaker (IsElement A) (IsPolynomial A.p A.order) (λ f e. e.0) s.basis is.elements) job_is.0 e,
        start_of-sugar A ok gens s.basis is.elements s.sugars is.sugars job job_is.0 f e,
      ))

  step-is : (mode : Mode) (budget : ℕ) (s : State) → IsState A gens s → IsTurn (step A gens mode budget s)
  unfolding step
  step-is mode budget s is = by s.queue refl (nat_le budget (length s.entries))
    where
      by : (queue : List Job) → s.queue ≡ queue → (spent : Bool) → IsTurn (elim queue [
        | [] ↦ Over Finished
        | first ∷ queue ↦ if spent then Over BudgetSpent
            else (let job : Job = least_job A gens s.basis s.sugars first queue in turn_of_job A gens mode s job (chain_witness s.basis s.queue job))
      ])
      by [] e spent = tt
      by (first ∷ queue) e true = tt
      by (first ∷ queue) e false =
          let jobs : Each (IsTreated gens s.basis A.order.vars) (first ∷ queue) = subst (Each (IsTreated gens s.basis A.order.vars)) e is.jobs in
          let job : Job = least_job A gens s.basis s.sugars first queue in
          turn_of_job-is mode s job (chain_witness s.basis s.queue job) is
          (least_job-one (IsTreated gens s.basis A.order.vars) A gens s.basis s.sugars first queue jobs.0 jobs.1)

  -- what every state has is kept by a step
  pub step-keeps : (mode : Mode) (budget : ℕ) (s s' : State) → IsState A gens s → step A gens mode budget s ≡ On s' → IsState A gens s'
  step-keeps mode budget s s' is e = subst IsTurn e (step-is mode budget s is)

  -- what every basis of a run has
  abbrev pub IsBasis : List Polynomial → Type 0
  IsBasis G = Each (IsElement A) G × (length G ≤ most_elements)

  run_within-basis : (mode : Mode) (budget k : ℕ) (s : State) → IsState A gens s → IsBasis (run_within A gens mode budget k s).basis
  unfolding run_within
  run_within-basis mode budget zero s is = (is.elements, is.few)
  run_within-basis mode budget (suc k) s is = by (step A gens mode budget s) (step-is mode budget s is) (run_within-basis mode budget k)
    where
      by : (turn : Turn) → IsTurn turn → ((s : State) → IsState A gens s → IsBasis (run_within A gens mode budget k s).basis)
          → IsBasis (after_turn (run_within A gens mode budget k) s turn).basis
      by (On s') is' ih = ih s' is'
      by (Over outcome) is' ih = (is.elements, is.few)

  -- the elements of a run's basis are nonzero polynomials
  pub machine-elements : (mode : Mode) (budget : ℕ) → Each (IsElement A) (machine A gens mode budget).basis
  unfolding machine
  machine-elements mode budget = (run_within-basis mode budget (suc budget) (first_state gens) first_state-is).0

  -- and there are at most 2048
  pub machine-few : (mode : Mode) (budget : ℕ) → length (machine A gens mode budget).basis ≤ most_elements
  unfolding machine
  machine-few mode budget = (run_within-basis mode budget (suc budget) (first_state gens) first_state-is).1
