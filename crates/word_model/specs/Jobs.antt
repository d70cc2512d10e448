-- The jobs of a run: their sugars and keys, their start polynomials, and the chain rule.
use Rattle.std.specs.Prelude.{◌≢◌, ℕ, ◌+◌, ◌-◌, ◌<◌, ◌≤◌, max, Bool, false, ◌&&◌, not, ◌==◌, nat_lt, List, [], ◌∷◌, length, slice_index_or, Option, Some, None, if◌then◌else◌}
use Rattle.std.specs.List.{list_any, filter}
use Rattle.std.specs.declared.cmp.Ordering.{Ordering}
use Rattle.std.specs.Ordering.{nat_cmp, ordering_then, is_lt}
use Rattle.monomials.specs.Monomials.{Monomial, degree, minus, lcm, plus, variable}
use Rattle.monomials.specs.Orders.{order_cmp}
use Rattle.monomials.specs.Polynomials.{Polynomial, Each, poly_degree, poly_sub}
use Rattle.monomials.specs.Leading.{leading_monomial, leading_coefficient}
use Rattle.word_model.specs.Words.{Algebra}
use Rattle.word_model.specs.Products.{product, variable_polynomial, in_reach, degree_limit}
use Rattle.word_model.specs.Reduction.{element, least_number, lead_divides, quotient, multiple, is_within}
use Rattle.word_model.specs.declared.records.Job.{Job}
use Rattle.word_model.specs.declared.records.Job.TheVariants.{Seed, Pair, Right}
use Rattle.word_model.specs.declared.records.TraceStep.{TraceStep}

-- ---- lists of jobs

abbrev pub same_job : Job → Job → Bool
same_job (Seed s) (Seed t) = s == t
same_job (Pair i j) (Pair k l) = (i == k) && (j == l)
same_job (Right i v) (Right k w) = (i == k) && (v == w)
same_job _ _ = false

-- whether a job is queued
abbrev pub is_queued : List Job → Job → Bool
is_queued queue job = list_any (same_job job) queue

-- the queue after a job has left it
abbrev pub without : Job → List Job → List Job
without job queue = filter (λ other. not (same_job job other)) queue

-- the lcm of the leading monomials of two elements
abbrev pub pair_lcm : List Polynomial → ℕ → ℕ → Monomial
pair_lcm G i j = lcm (leading_monomial (element G i)) (leading_monomial (element G j))

-- ---- sugars

-- the sugar of the element of number i, which counts from 1
abbrev pub sugar_at : List ℕ → ℕ → ℕ
sugar_at sugars i = slice_index_or sugars (i - 1) 0

-- by how much the sugar of the element of number i exceeds the degree of its leading monomial
abbrev pub excess : List Polynomial → List ℕ → ℕ → ℕ
excess G sugars i = sugar_at sugars i - degree (leading_monomial (element G i))

-- The sugar of a job over elements of these sugars. It is the degree that the job's start would have if each element
-- were homogeneous of its sugar's degree.
abbrev pub job_sugar : List Polynomial → List Polynomial → List ℕ → Job → ℕ
job_sugar gens G sugars (Seed s) = poly_degree (element gens s)
job_sugar gens G sugars (Pair i j) = degree (pair_lcm G i j) + max (excess G sugars i) (excess G sugars j)
job_sugar gens G sugars (Right i v) = sugar_at sugars i + 1

-- The sugar of an element whose job has the sugar n and whose start was reduced by these steps: the greatest of n and,
-- over the steps, the sugar of the element used plus the degree of the step's monomial.
abbrev pub element_sugar : List ℕ → ℕ → List TraceStep → ℕ
element_sugar sugars n [] = n
element_sugar sugars n (t ∷ trace) = element_sugar sugars (max n (sugar_at sugars t.index + degree t.mono)) trace

-- ---- keys

-- the monomial of a job's key
abbrev pub key_monomial : Algebra → List Polynomial → List Polynomial → Job → Monomial
key_monomial A gens G (Seed s) = leading_monomial (element gens s)
key_monomial A gens G (Pair i j) = pair_lcm G i j
key_monomial A gens G (Right i v) = plus (leading_monomial (element G i)) (variable A.order.vars v)

-- What orders jobs of equal sugars and monomials: seeds come first, then pairs, then products with variables, and of one
-- kind seeds go by s, pairs by j and then i, products by i and then v.
abbrev pub rank_of : Job → ℕ × (ℕ × ℕ)
rank_of (Seed s) = (0, (s, 0))
rank_of (Pair i j) = (1, (j, i))
rank_of (Right i v) = (2, (i, v))

abbrev pub rank_cmp : ℕ × (ℕ × ℕ) → ℕ × (ℕ × ℕ) → Ordering
rank_cmp a b = ordering_then (nat_cmp a.0 b.0) (ordering_then (nat_cmp a.1.0 b.1.0) (nat_cmp a.1.1 b.1.1))

-- the order of keys: by sugars, then by monomials, and then by rank
abbrev pub key_cmp : Algebra → List Polynomial → List Polynomial → List ℕ → Job → Job → Ordering
key_cmp A gens G sugars a b =
    ordering_then (nat_cmp (job_sugar gens G sugars a) (job_sugar gens G sugars b))
    (ordering_then (order_cmp A.order.rows (key_monomial A gens G a) (key_monomial A gens G b)) (rank_cmp (rank_of a) (rank_of b)))

-- the job of the least key among `job` and those of the queue
abbrev pub least_job : Algebra → List Polynomial → List Polynomial → List ℕ → Job → List Job → Job
least_job A gens G sugars job [] = job
least_job A gens G sugars job (other ∷ queue) =
    least_job A gens G sugars (if is_lt (key_cmp A gens G sugars other job) then other else job) queue

-- ---- starts

-- the monomials by which the S-polynomial of f and g multiplies f and g, so that both reach the lcm of their leading
-- monomials
abbrev pub first_cofactor : Polynomial → Polynomial → Monomial
first_cofactor f g = minus (lcm (leading_monomial f) (leading_monomial g)) (leading_monomial f)

abbrev pub second_cofactor : Polynomial → Polynomial → Monomial
second_cofactor f g = minus (lcm (leading_monomial f) (leading_monomial g)) (leading_monomial g)

-- and the number by which it multiplies g, so that the leading terms cancel
abbrev pub second_number : Algebra → Polynomial → Polynomial → ℕ
second_number A f g =
    quotient A.p (leading_coefficient (multiple A 1 (first_cofactor f g) f))
    (leading_coefficient (multiple A 1 (second_cofactor f g) g))

-- the S-polynomial: the difference of these multiples
abbrev pub s_polynomial : Algebra → Polynomial → Polynomial → Polynomial
s_polynomial A f g =
    poly_sub (order_cmp A.order.rows) A.p (multiple A 1 (first_cofactor f g) f)
    (multiple A (second_number A f g) (second_cofactor f g) g)

-- whether both its products are computed
abbrev pub both_within : Polynomial → Polynomial → Bool
both_within f g = is_within (first_cofactor f g) f && is_within (second_cofactor f g) g

-- whether those of a pair's S-polynomial are
abbrev pub pair_within : List Polynomial → ℕ → ℕ → Bool
pair_within G i j = both_within (element G i) (element G j)

-- the start polynomial of a job, where its products are computed
unfoldable pub start_of : Algebra → List Polynomial → List Polynomial → Job → Option Polynomial
start_of A gens G (Seed s) = Some (element gens s)
start_of A gens G (Pair i j) = if pair_within G i j then Some (s_polynomial A (element G i) (element G j)) else None
start_of A gens G (Right i v) =
    if in_reach (element G i) (variable_polynomial A v) then Some (product A (element G i) (variable_polynomial A v)) else None

-- ---- the chain rule

-- whether the pair of two elements is queued
abbrev pub pair_queued : List Job → ℕ → ℕ → Bool
pair_queued queue i j = is_queued queue (if nat_lt i j then Pair i j else Pair j i)

-- whether k is a third element whose leading monomial divides the lcm of those of i and j, and the pairs of k with i
-- and with j were treated before
abbrev pub is_witness : List Polynomial → List Job → ℕ → ℕ → ℕ → Bool
is_witness G queue i j k =
    not (k == i) && not (k == j) && lead_divides (element G k) (pair_lcm G i j)
    && not (pair_queued queue k i) && not (pair_queued queue k j)

-- the least witness by which a job is skipped, which only a pair may have
unfoldable pub chain_witness : List Polynomial → List Job → Job → Option ℕ
chain_witness G queue (Pair i j) = least_number (is_witness G queue i j) 1 (length G)
chain_witness G queue _ = None

-- ---- what a job names

-- a job's numbers are those of one of g generators, of basis elements among m, the first before the second, and of one
-- of n variables
abbrev pub IsJob : ℕ → ℕ → ℕ → Job → Type 0
IsJob g m n (Seed s) = (1 ≤ s) × (s ≤ g)
IsJob g m n (Pair i j) = (1 ≤ i) × (i < j) × (j ≤ m)
IsJob g m n (Right i v) = (1 ≤ i) × (i ≤ m) × (1 ≤ v) × (v ≤ n)

-- the generator or the elements that a job names are not zero
abbrev pub NamesNonzero : List Polynomial → List Polynomial → Job → Type 0
NamesNonzero gens G (Seed s) = element gens s ≢ []
NamesNonzero gens G (Pair i j) = (element G i ≢ []) × (element G j ≢ [])
NamesNonzero gens G (Right i v) = element G i ≢ []

-- there is one sugar for each element, and it is at least the element's degree
abbrev pub AreSugars : List Polynomial → List ℕ → Type 0
AreSugars [] [] = Unit {0}
AreSugars (g ∷ G) (n ∷ sugars) = (poly_degree g ≤ n) × AreSugars G sugars
AreSugars _ _ = ⊥

-- the steps use elements among the first m, and their monomials have no degree above the limit
abbrev pub UsesElements : ℕ → List TraceStep → Type 0
UsesElements m trace = Each (λ s. (1 ≤ s.index) × (s.index ≤ m) × (degree s.mono ≤ degree_limit)) trace
