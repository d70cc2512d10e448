-- Words in the variables of a G-algebra, and their normal forms by rewriting (Levandovskyy 2005).
use Rattle.std.specs.Prelude.{◌≡◌, ℕ, zero, suc, ◌+◌, ◌-◌, ◌*◌, ◌/◌, ◌^◌, ◌<◌, ◌≤◌, List, [], ◌∷◌, ◌++◌, map, length, nat_eq, nat_lt, replicate, cond, Option, Some, None, slice_index, slice_get, unwrap_or, true, false}
use Rattle.std.specs.declared.cmp.Ordering.TheVariants.{Less}
use Rattle.monomials.specs.Monomials.{Monomial, degree}
use Rattle.monomials.specs.Orders.{RowOrder, order_cmp}
use Rattle.monomials.specs.Polynomials.{Polynomial, sum_over, Each}

-- A G-algebra's data: the characteristic, the order, and for each pair i < j, in lexicographic order,
-- the number and the polynomial of the relation x_j x_i = c_ij x_i x_j + d_ij.
pub record Algebra : Type 0 where
  pub p : ℕ
  pub order : RowOrder
  pub c : List ℕ
  pub d : List Polynomial

-- how many pairs of numbers from 1 to n come before the pair i < j
abbrev pub pair_index : ℕ → ℕ → ℕ → ℕ
pair_index n i j = (i - 1) * (2 * n - i) / 2 + (j - i - 1)

-- the number of the relation of x_i and x_j
abbrev pub c_of : Algebra → ℕ → ℕ → ℕ
c_of A i j = slice_index A.c (pair_index A.order.vars i j)

-- the polynomial of the relation of x_i and x_j
abbrev pub d_of : Algebra → ℕ → ℕ → Polynomial
d_of A i j = unwrap_or (slice_get A.d (pair_index A.order.vars i j)) []

-- ---- words

-- a word x_v1 x_v2 .., as the list of the variables' numbers
abbrev pub Word : Type 0
Word = List ℕ

-- a sum of words, each with its number
abbrev pub WordSum : Type 0
WordSum = List (ℕ × Word)

-- a word in n variables
abbrev pub IsWord : ℕ → Word → Type 0
IsWord n w = Each (λ v. (1 ≤ v) × (v ≤ n)) w

-- how often v stands in a word
abbrev pub count_of : ℕ → Word → ℕ
count_of v [] = 0
count_of v (x ∷ w) = cond (nat_eq v x) 1 0 + count_of v w

-- how often each of the n variables from number i on stands in a word
abbrev pub counts_from : ℕ → ℕ → Word → List ℕ
counts_from i zero w = []
counts_from i (suc n) w = count_of i w ∷ counts_from (suc i) n w

-- a word's monomial: the count of each variable is its exponent
abbrev pub monomial_of : ℕ → Word → Monomial
monomial_of n w = counts_from 1 n w

-- x_i x_j, as a monomial
abbrev pub pair_monomial : ℕ → ℕ → ℕ → Monomial
pair_monomial n i j = monomial_of n (i ∷ j ∷ [])

-- the word of a monomial whose first exponent is that of variable i
abbrev pub word_from : ℕ → Monomial → Word
word_from i [] = []
word_from i (e ∷ m) = replicate e i ++ word_from (suc i) m

-- the sorted word of a monomial: its variables in rising order
abbrev pub sorted_word : Monomial → Word
sorted_word m = word_from 1 m

-- ---- rewriting

-- a place in a word at which a letter stands before a smaller one
pub record Descent : Type 0 where
  pub before : Word
  pub high : ℕ
  pub low : ℕ
  pub after : Word

-- the same place, with one more letter in front
abbrev pub behind_letter : ℕ → Option Descent → Option Descent
behind_letter x None = None
behind_letter x (Some s) = Some (record s { before = x ∷ s.before })

-- the leftmost such place
abbrev pub leftmost_descent : Word → Option Descent
leftmost_descent [] = None
leftmost_descent (x ∷ []) = None
leftmost_descent (x ∷ (y ∷ w)) = elim (nat_lt y x) [
  | true ↦ Some (record { before = []; high = x; low = y; after = w })
  | false ↦ behind_letter x (leftmost_descent (y ∷ w))
]

-- The words by which a word with this descent is replaced: the two letters swapped, with c_ij,
-- and for each term of d_ij the term's sorted word in their place.
abbrev pub rewritten : Algebra → Descent → WordSum
rewritten A s =
    (c_of A s.low s.high, s.before ++ s.low ∷ s.high ∷ s.after)
    ∷ map (λ t. (t.0, s.before ++ (sorted_word t.1 ++ s.after))) (d_of A s.low s.high)

-- the value of a word, where `value` has those of the words that it is rewritten to
abbrev pub rewriting_step : Algebra → (Word → Polynomial) → Word → Option Descent → Polynomial
rewriting_step A value w None = (1, monomial_of A.order.vars w) ∷ []
rewriting_step A value w (Some s) = sum_over (order_cmp A.order.rows) A.p value (rewritten A s)

-- the normal form of a word, where fewer than k rewritings follow one another
unfoldable pub normal_form_within : Algebra → ℕ → Word → Polynomial
normal_form_within A zero w = []
normal_form_within A (suc k) w = rewriting_step A (normal_form_within A k) w (leftmost_descent w)

-- More than the greatest number of rewritings that follow one another from a word of length l in n variables:
-- each leads to a smaller monomial, or to the same one with an inversion fewer.
abbrev pub enough : ℕ → ℕ → ℕ
enough n l = suc ((l + 1) ^ n) * suc (l * l)

-- The normal form of a word: of a sorted word its monomial, and of another the sum of the normal forms
-- of the words by which its leftmost descent is replaced.
unfoldable pub normal_form : Algebra → Word → Polynomial
normal_form A w = normal_form_within A (enough A.order.vars (length w)) w

-- the value of a sum of words
unfoldable pub word_value : Algebra → WordSum → Polynomial
word_value A f = sum_over (order_cmp A.order.rows) A.p (normal_form A) f

-- ---- the conditions on pairs

-- a term of d_ij has degree at most 2, and is below x_i x_j
abbrev pub IsSmall : Algebra → ℕ → ℕ → ℕ × Monomial → Type 0
IsSmall A i j t =
    (length t.1 ≡ A.order.vars) × (degree t.1 ≤ 2)
    × (order_cmp A.order.rows t.1 (pair_monomial A.order.vars i j) ≡ Less)

-- rewriting leads downwards at each pair: what the recursion of normal forms needs
pub record RewritesDown (A : Algebra) : Type 0 where
  pub small : (i j : ℕ) → 1 ≤ i → i < j → j ≤ A.order.vars → Each (IsSmall A i j) (d_of A i j)
