-- The jobs that a new element brings, as they are queued.
use Rattle.std.proofs.Common.{◌≡◌, ℕ, zero, suc, ◌+◌, ◌-◌, ◌<◌, ◌≤◌, ◌||◌, ◌&&◌, ◌==◌, Bool, true, false, List, [], ◌∷◌, ◌++◌, length, refl, sym, ap, ◌∙◌, subst, arith, append_assoc, length-append, drop, Option, Some, None, MatchOption}
use Rattle.std.proofs.lemmas.Bool.Decides.{nat_tests}
use Rattle.monomials.specs.Monomials.{lcm, plus, variable}
use Rattle.monomials.specs.Leading.{leading_monomial}
use Rattle.monomials.specs.Polynomials.{Polynomial, Each, HasVars, IsPolynomial}
use Rattle.monomials.proofs.Keys.{Each-weaker}
use Rattle.word_model.specs.Words.{Algebra}
use Rattle.word_model.specs.Reduction.{element}
use Rattle.word_model.specs.Jobs.{same_job, is_queued, IsJob, key_monomial}
use Rattle.word_model.specs.Machine.{IsElement, pairs_with, rights_of, jobs_of}
use Rattle.word_model.specs.declared.records.Job.{Job}
use Rattle.word_model.specs.declared.records.Job.TheVariants.{Seed, Pair, Right}
use Rattle.word_model.specs.declared.records.Mode.{Mode}
use Rattle.word_model.specs.declared.records.Mode.TheVariants.{Left, TwoSided}
use Rattle.word_model.proofs.LeastNumbers.{Each-element}
use Rattle.word_model.proofs.Steps.{element-append}
use Rattle.word_model.proofs.Sugars.{job_sugar-append}
use Rattle.pair_strategy.specs.Queues.{JobQueue, jobs_in, HasKey, SameJobs}
use Rattle.pair_strategy.specs.declared.keys.Keyed.{Keyed}
use Rattle.commit_core.specs.Named.{IsNamed}

-- ---- polynomials

pub sorted-vars : (A : Algebra) (fs : List Polynomial) → Each (IsPolynomial A.p A.order) fs → Each (HasVars A.order.vars) fs
sorted-vars A fs h = Each-weaker _ _ (λ f is. is.vars) fs h

pub elements-vars : (A : Algebra) (G : List Polynomial) → Each (IsElement A) G → Each (HasVars A.order.vars) G
elements-vars A G h = Each-weaker _ _ (λ f is. is.0.vars) G h

-- ---- how many

pub length-pairs : (m k : ℕ) → length (pairs_with m k) ≡ k
length-pairs m zero = refl
length-pairs m (suc k) = omega (arith, length-append (pairs_with m k) (Pair (suc k) m ∷ []), length-pairs m k)

pub length-rights : (m k : ℕ) → length (rights_of m k) ≡ k
length-rights m zero = refl
length-rights m (suc k) = omega (arith, length-append (rights_of m k) (Right m (suc k) ∷ []), length-rights m k)

pub length-brought : (n m : ℕ) → (length (jobs_of Left n m) ≡ m - 1) × (length (jobs_of TwoSided n m) ≡ (m - 1) + n)
length-brought n m = (
  length-pairs m (m - 1),
  length-append (pairs_with m (m - 1)) (rights_of m n) ∙ omega (arith, length-pairs m (m - 1), length-rights m n),
)

-- the pairs are not more than all that come
pub brought-pairs : (mode : Mode) (n m : ℕ) → m - 1 ≤ length (jobs_of mode n m)
brought-pairs Left n m = let count : length (jobs_of Left n m) ≡ m - 1 = (length-brought n m).0 in omega arith
brought-pairs TwoSided n m = let count : length (jobs_of TwoSided n m) ≡ (m - 1) + n = (length-brought n m).1 in omega arith

-- ---- which jobs a list has

never : (a : Bool) → (a && false) ≡ false
never true = refl
never false = refl

pub queued-append : (jobs others : List Job) (job : Job) → is_queued (jobs ++ others) job ≡ (is_queued jobs job || is_queued others job)
queued-append [] others job = refl
queued-append (first ∷ jobs) others job = ap (λ t. same_job job first || t) (queued-append jobs others job) ∙ turn (same_job job first) (is_queued jobs job) (is_queued others job)
  where
    turn : (a b c : Bool) → (a || (b || c)) ≡ ((a || b) || c)
    turn true b c = refl
    turn false b c = refl

-- a job that neither list has
pub absent-append : (jobs others : List Job) (job : Job) → is_queued jobs job ≡ false → is_queued others job ≡ false → is_queued (jobs ++ others) job ≡ false
absent-append jobs others job e h = queued-append jobs others job ∙ rw (e, h) refl

-- a list with one job more, and a queue with the same
pub same-more : (old list q new : List Job) (job : Job) → SameJobs (old ++ list) q → ((other : Job) → is_queued new other ≡ (same_job other job || is_queued q other))
    → SameJobs (old ++ (list ++ job ∷ [])) new
same-more old list q new job same added other =
    ap (λ jobs. is_queued jobs other) (sym (append_assoc old list (job ∷ [])))
    ∙ queued-append (old ++ list) (job ∷ []) other
    ∙ turn (is_queued (old ++ list) other) (same_job other job)
    ∙ ap (λ t. same_job other job || t) (same other)
    ∙ sym (added other)
  where
    turn : (a b : Bool) → (a || (b || false)) ≡ (b || a)
    turn true true = refl
    turn true false = refl
    turn false true = refl
    turn false false = refl

-- ---- a new element is in no job yet

module _ (g k m : ℕ) (new : k < m) where
  pub pair-absent : (jobs : List Job) (i : ℕ) → Each (λ job. (n : ℕ) × IsJob g k n job) jobs → is_queued jobs (Pair i m) ≡ false
  pair-absent [] i h = refl
  pair-absent (Seed s ∷ jobs) i h = pair-absent jobs i h.1
  pair-absent (Pair a b ∷ jobs) i h =
      let high : b ≤ k = h.0.1.2 in
      let other : (m == b) ≡ false = grind (arith, nat_tests) in
      rw (other, never (i == a)) (pair-absent jobs i h.1)
  pair-absent (Right a v ∷ jobs) i h = pair-absent jobs i h.1

  pub right-absent : (jobs : List Job) (v : ℕ) → Each (λ job. (n : ℕ) × IsJob g k n job) jobs → is_queued jobs (Right m v) ≡ false
  right-absent [] v h = refl
  right-absent (Seed s ∷ jobs) v h = right-absent jobs v h.1
  right-absent (Pair a b ∷ jobs) v h = right-absent jobs v h.1
  right-absent (Right a w ∷ jobs) v h =
      let high : a ≤ k = h.0.1.1 in
      let other : (m == a) ≡ false = grind (arith, nat_tests) in
      rw other (right-absent jobs v h.1)

-- a pair is not among those of elements before
pub pairs-absent : (m k i : ℕ) → k < i → is_queued (pairs_with m k) (Pair i m) ≡ false
pairs-absent m zero i less = refl
pairs-absent m (suc k) i less =
    let other : (i == suc k) ≡ false = grind (arith, nat_tests) in
    let ih : is_queued (pairs_with m k) (Pair i m) ≡ false = pairs-absent m k i (omega arith) in
    absent-append (pairs_with m k) (Pair (suc k) m ∷ []) (Pair i m) ih (rw other refl)

-- nor is a product among pairs
pub right-no_pair : (m k i v : ℕ) → is_queued (pairs_with m k) (Right i v) ≡ false
right-no_pair m zero i v = refl
right-no_pair m (suc k) i v = absent-append (pairs_with m k) (Pair (suc k) m ∷ []) (Right i v) (right-no_pair m k i v) refl

-- nor among those with variables before
pub rights-absent : (m k v : ℕ) → k < v → is_queued (rights_of m k) (Right m v) ≡ false
rights-absent m zero v less = refl
rights-absent m (suc k) v less =
    let other : (v == suc k) ≡ false = grind (arith, nat_tests) in
    let ih : is_queued (rights_of m k) (Right m v) ≡ false = rights-absent m k v (omega arith) in
    absent-append (rights_of m k) (Right m (suc k) ∷ []) (Right m v) ih (rw (other, never (m == m)) refl)

-- one pair more
pub pairs-step : (m i : ℕ) (old q new : List Job) → 1 ≤ i → SameJobs (old ++ pairs_with m (i - 1)) q
    → ((other : Job) → is_queued new other ≡ (same_job other (Pair i m) || is_queued q other))
    → SameJobs (old ++ pairs_with m ((i + 1) - 1)) new
pairs-step m zero old q new low same added = absurd (omega arith)
pairs-step m (suc k) old q new low same added =
    let next : (suc k + 1) - 1 ≡ suc k = omega arith in
    let this : suc k - 1 ≡ k = omega arith in
    subst (λ x. SameJobs (old ++ pairs_with m x) new) (sym next)
    (same-more old (pairs_with m k) q new (Pair (suc k) m) (subst (λ x. SameJobs (old ++ pairs_with m x) q) this same) added)

-- one product more
pub rights-step : (m v : ℕ) (old q new : List Job) → 1 ≤ v → SameJobs (old ++ rights_of m (v - 1)) q
    → ((other : Job) → is_queued new other ≡ (same_job other (Right m v) || is_queued q other))
    → SameJobs (old ++ rights_of m ((v + 1) - 1)) new
rights-step m zero old q new low same added = absurd (omega arith)
rights-step m (suc k) old q new low same added =
    let next : (suc k + 1) - 1 ≡ suc k = omega arith in
    let this : suc k - 1 ≡ k = omega arith in
    subst (λ x. SameJobs (old ++ rights_of m x) new) (sym next)
    (same-more old (rights_of m k) q new (Right m (suc k)) (subst (λ x. SameJobs (old ++ rights_of m x) q) this same) added)

-- ---- what the new jobs name

pub named-pair : (A : Algebra) (gens G : List Polynomial) (i m : ℕ) → Each (IsElement A) G → m ≡ length G → 1 ≤ i → i < m → IsNamed A gens G (Pair i m)
named-pair A gens G i m h last low high =
    let first : IsElement A (element G i) = Each-element (IsElement A) G i h low (omega arith) in
    let second : IsElement A (element G m) = Each-element (IsElement A) G m h (omega arith) (omega arith) in
    ((low, high, omega arith), (first.1, second.1))

pub named-right : (A : Algebra) (gens G : List Polynomial) (m v : ℕ) → Each (IsElement A) G → m ≡ length G → 1 ≤ m → 1 ≤ v → v ≤ A.order.vars
    → IsNamed A gens G (Right m v)
named-right A gens G m v h last some low high =
    let is : IsElement A (element G m) = Each-element (IsElement A) G m h some (omega arith) in
    ((some, omega arith, low, high), is.1)

-- ---- jobs that were queued before

-- the jobs of a run, whose elements are k at most
pub named-numbers : (A : Algebra) (gens G : List Polynomial) (k : ℕ) (jobs : List Job) → k ≡ length G → Each (IsNamed A gens G) jobs
    → Each (λ job. (n : ℕ) × IsJob (length gens) k n job) jobs
named-numbers A gens G k jobs e h =
    Each-weaker _ _ (λ job is. (A.order.vars, subst (λ x. IsJob (length gens) x A.order.vars job) (sym e) is.0)) jobs h

-- their keys stay when the basis grows
pub key-longer : (A : Algebra) (gens G : List Polynomial) (g : Polynomial) (job : Job) → IsNamed A gens G job → key_monomial A gens (G ++ g ∷ []) job ≡ key_monomial A gens G job
key-longer A gens G g (Seed s) named = refl
key-longer A gens G g (Pair i j) named =
    let low : 1 ≤ j = omega (arith, named.0.0, named.0.1) in
    let high : i ≤ length G = omega (arith, named.0.1, named.0.2) in
    let first : element (G ++ g ∷ []) i ≡ element G i = element-append G (g ∷ []) i named.0.0 high in
    let second : element (G ++ g ∷ []) j ≡ element G j = element-append G (g ∷ []) j low named.0.2 in
    ap (λ f. lcm (leading_monomial f) (leading_monomial (element (G ++ g ∷ []) j))) first ∙ ap (λ f. lcm (leading_monomial (element G i)) (leading_monomial f)) second
key-longer A gens G g (Right i v) named =
    ap (λ f. plus (leading_monomial f) (variable A.order.vars v)) (element-append G (g ∷ []) i named.0.0 named.0.1)

pub keys-longer : (A : Algebra) (gens G : List Polynomial) (sugars : List ℕ) (g : Polynomial) (n : ℕ) (items : List Keyed) → length sugars ≡ length G
    → Each (IsNamed A gens G) (jobs_in items) → Each (HasKey A gens G sugars) items → Each (HasKey A gens (G ++ g ∷ []) (sugars ++ n ∷ [])) items
keys-longer A gens G sugars g n [] count named keys = tt
keys-longer A gens G sugars g n (k ∷ items) count named keys = (
  (
    keys.0.0 ∙ sym (job_sugar-append gens G sugars g n A.order.vars k.job count named.0.0),
    keys.0.1 ∙ sym (key-longer A gens G g k.job named.0),
  ),
  keys-longer A gens G sugars g n items count named.1 keys.1,
)

-- what holds of a list holds without its first
pub Each-rest : {X : Type 0} (P : X → Type 0) (xs : List X) → Each P xs → Each P (drop 1 xs)
Each-rest P [] h = h
Each-rest P (x ∷ xs) h = h.1

-- the queue without its first item
pub rest-is : (first : Option Keyed) (old new : JobQueue)
    → MatchOption first ((old.items ≡ []) × (new ≡ old)) (λ k. (old.items ≡ k ∷ new.items) × (new.spare ≡ old.spare + 1))
    → new.items ≡ drop 1 old.items
rest-is None old new h = ap (λ (q : JobQueue). q.items) h.1 ∙ h.0 ∙ sym (ap (drop 1) h.0)
rest-is (Some k) old new h = sym (ap (drop 1) h.0)

-- its jobs are named as before
pub rest-numbers : (A : Algebra) (gens G : List Polynomial) (old new : List Keyed) (k : ℕ) → k ≡ length G → new ≡ drop 1 old → Each (IsNamed A gens G) (jobs_in old)
    → Each (λ job. (n : ℕ) × IsJob (length gens) k n job) (jobs_in new)
rest-numbers A gens G [] new k e is h = rw is tt
rest-numbers A gens G (first ∷ rest) new k e is h = rw is (named-numbers A gens G k (jobs_in rest) e h.1)
