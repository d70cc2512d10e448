-- The conditions on the relations of a G-algebra (after Levandovskyy 2005), and the first that fails.
use Rattle.std.specs.Prelude.{◌≡◌, ℕ, zero, suc, ◌-◌, ◌*◌, ◌%◌, ◌<◌, ◌≤◌, Bool, true, [], ◌∷◌, ◌++◌, map, length, ◌==◌, nat_lt, Option, Some, None, if◌then◌else◌}
use Rattle.std.specs.Ordering.{is_lt}
use Rattle.monomials.specs.Monomials.{Monomial}
use Rattle.monomials.specs.Orders.{order_cmp}
use Rattle.monomials.specs.Polynomials.{Polynomial, IsPolynomial, Each, poly_degree}
use Rattle.word_model.specs.Words.{Algebra, Word, WordSum, c_of, d_of, pair_monomial, sorted_word, word_value, RewritesDown}

-- a condition that fails, with the numbers of its variables
pub data Fault : Type 0 where
  Coefficient : ℕ → ℕ → Fault
  Profile : ℕ → ℕ → Fault
  Ordering : ℕ → ℕ → Fault
  NonDegeneracy : ℕ → ℕ → ℕ → Polynomial → Fault

-- ---- the conditions on a pair i < j

-- d is zero, or its leading monomial is below x_i x_j
abbrev pub is_below : Algebra → ℕ → ℕ → Polynomial → Bool
is_below A i j [] = true
is_below A i j (t ∷ f) = is_lt (order_cmp A.order.rows t.1 (pair_monomial A.order.vars i j))

-- c_ij is not zero, then d_ij has degree at most 2, then it is below x_i x_j
abbrev pub pair_fault : Algebra → ℕ → ℕ → Option Fault
pair_fault A i j =
    if c_of A i j == 0 then Some (Coefficient i j)
    else (if nat_lt 2 (poly_degree (d_of A i j)) then Some (Profile i j)
    else (if is_below A i j (d_of A i j) then None
    else Some (Ordering i j)))

-- ---- the condition on a triple i < j < k

-- c times the words that `word_of` makes of the monomials of d
abbrev pub times_words : ℕ → (Monomial → Word) → Polynomial → WordSum
times_words c word_of d = map (λ t. (c * t.0, word_of t.1)) d

-- The two rewritings of x_k x_j x_i: the one that replaces x_k x_j first, less the one that replaces x_j x_i first.
-- The terms in x_i x_j x_k cancel.
abbrev pub overlap : Algebra → ℕ → ℕ → ℕ → WordSum
overlap A i j k =
    times_words (c_of A i k * c_of A j k) (λ m. sorted_word m ++ k ∷ []) (d_of A i j)
    ++ (times_words (A.p - 1) (λ m. k ∷ sorted_word m) (d_of A i j)
    ++ (times_words (c_of A j k) (λ m. j ∷ sorted_word m) (d_of A i k)
    ++ (times_words ((A.p - 1) * c_of A i j) (λ m. sorted_word m ++ j ∷ []) (d_of A i k)
    ++ (times_words 1 (λ m. sorted_word m ++ i ∷ []) (d_of A j k)
    ++ times_words ((A.p - 1) * (c_of A i j * c_of A i k)) (λ m. i ∷ sorted_word m) (d_of A j k)))))

-- the rest of a triple
abbrev pub triple_rest : Algebra → ℕ → ℕ → ℕ → Polynomial
triple_rest A i j k = word_value A (overlap A i j k)

-- a rest that is not zero is a fault
abbrev pub rest_fault : ℕ → ℕ → ℕ → Polynomial → Option Fault
rest_fault i j k [] = None
rest_fault i j k (t ∷ f) = Some (NonDegeneracy i j k (t ∷ f))

abbrev pub triple_fault : Algebra → ℕ → ℕ → ℕ → Option Fault
triple_fault A i j k = rest_fault i j k (triple_rest A i j k)

-- ---- all of them, in lexicographic order

-- the first fault among those of the m numbers from k on
abbrev pub first_from : (ℕ → Option Fault) → ℕ → ℕ → Option Fault
first_from fault k zero = None
first_from fault k (suc m) = elim (fault k) [ None ↦ first_from fault (suc k) m | Some e ↦ Some e ]

-- the first fault of the pairs i < j
abbrev pub pairs_fault : Algebra → Option Fault
pairs_fault A =
    let n : ℕ = A.order.vars in
    first_from (λ i. first_from (λ j. pair_fault A i j) (suc i) (n - i)) 1 n

-- the first fault of the triples i < j < k
abbrev pub triples_fault : Algebra → Option Fault
triples_fault A =
    let n : ℕ = A.order.vars in
    first_from (λ i. first_from (λ j. first_from (λ k. triple_fault A i j k) (suc j) (n - j)) (suc i) (n - i)) 1 n

-- the first condition that fails: all pairs come first, and then all triples
unfoldable pub relations_fault : Algebra → Option Fault
relations_fault A = elim (pairs_fault A) [ None ↦ triples_fault A | Some e ↦ Some e ]

-- ---- what accepted relations have

-- a number that is not zero modulo p
abbrev pub NonZero : ℕ → ℕ → Type 0
NonZero p a = a % p ≡ 0 % p → ⊥

-- every number but zero has an inverse
pub record IsField (p : ℕ) : Type 0 where
  pub more : 1 < p
  pub unit : (a : ℕ) → NonZero p a → (b : ℕ) × ((b * a) % p ≡ 1 % p)

-- the numbers of the relations are not zero
pub record HasNonzeroNumbers (A : Algebra) : Type 0 where
  pub nonzero : (i j : ℕ) → 1 ≤ i → i < j → j ≤ A.order.vars → NonZero A.p (c_of A i j)

-- no triple has a rest
pub record IsConfluent (A : Algebra) : Type 0 where
  pub none : (i j k : ℕ) → 1 ≤ i → i < j → j < k → k ≤ A.order.vars → triple_rest A i j k ≡ []

-- an algebra's data are as its constructor takes them: one number and one polynomial for each pair
pub record IsAlgebraData (A : Algebra) : Type 0 where
  pub numbers : Each (λ c. c < A.p) A.c
  pub polynomials : Each (IsPolynomial A.p A.order) A.d
  pub one_number_each : 2 * length A.c ≡ A.order.vars * (A.order.vars - 1)
  pub one_polynomial_each : length A.d ≡ length A.c

-- a G-algebra: over a field, rewriting leads downwards at each pair, no number of a relation is zero, and no triple
-- has a rest (relations without a fault are one, and have degree at most 2 besides)
pub record IsGAlgebra (A : Algebra) : Type 0 where
  pub field : IsField A.p
  pub downward : RewritesDown A
  pub nonzero : HasNonzeroNumbers A
  pub confluent : IsConfluent A
