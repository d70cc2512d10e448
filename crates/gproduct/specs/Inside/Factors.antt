-- Products of sorted monomials, and how they are multiplied out.
use Rattle.std.specs.Prelude.{◌≡◌, ℕ, ◌+◌, ◌-◌, ◌*◌, ◌%◌, ◌<◌, ◌≤◌, List, [], ◌∷◌, ◌++◌, length, map, replicate, take, drop, slice_index}
use Rattle.monomials.specs.Monomials.{Monomial, degree, minus, power}
use Rattle.monomials.specs.Polynomials.{Polynomial, Each, HasNumbers, HasVars}
use Rattle.word_model.specs.Words.{Algebra, Word, WordSum, sorted_word, normal_form}
use Rattle.gproduct.specs.declared.pending.Open.{Open}
use Rattle.gproduct.specs.declared.front.Crossing.{Crossing}
use Rattle.gproduct.specs.declared.front.Front.{Front}
use Rattle.gproduct.specs.declared.front.Front.TheVariants.{Sorted, Crossed}

-- ---- factors on a stack

-- the word of factors on a stack: the first factor stands on top, which is the list's end
abbrev pub stacked_word : List Monomial → Word
stacked_word [] = []
stacked_word (m ∷ ms) = stacked_word ms ++ sorted_word m

-- all factors are monomials in n variables
abbrev pub HaveVars : ℕ → List Monomial → Type 0
HaveVars n ms = Each (λ m. length m ≡ n) ms

-- a sum of products, each a number and its factors on a stack
abbrev pub ProductSum : Type 0
ProductSum = List (ℕ × List Monomial)

-- the words of a sum of products
abbrev pub words_of : ProductSum → WordSum
words_of f = map (λ t. (t.0, stacked_word t.1)) f

-- the products whose factors stand one behind another
abbrev pub products_in : List Open → List Monomial → ProductSum
products_in [] ms = []
products_in (t ∷ ts) ms = (t.coef, take t.factors ms) ∷ products_in ts (drop t.factors ms)

-- how many factors they have
abbrev pub factor_count : List Open → ℕ
factor_count [] = 0
factor_count (t ∷ ts) = t.factors + factor_count ts

-- numbers modulo p, and factors in n variables whose degrees are not too great together
pub record IsReady (p n : ℕ) (f : ProductSum) : Type 0 where
  pub numbers : Each (λ t. t.0 < p) f
  pub vars : Each (λ t. HaveVars n t.1) f
  pub short : Each (λ t. length (stacked_word t.1) ≤ 4095) f

-- numbers modulo p, and monomials in n variables whose degree is not too great
pub record AreTerms (p n : ℕ) (f : Polynomial) : Type 0 where
  pub numbers : HasNumbers p f
  pub vars : HasVars n f
  pub small : Each (λ t. degree t.1 ≤ 4095) f

-- ---- the front of a product

-- the highest variable of the left monomial is above the lowest of the right one
pub record IsCrossing (n : ℕ) (c : Crossing) : Type 0 where
  pub left_vars : length c.left ≡ n
  pub right_vars : length c.right ≡ n
  pub first : 1 ≤ c.low
  pub falls : c.low < c.high
  pub last : c.high ≤ n
  pub left_some : 0 < slice_index c.left (c.high - 1)
  pub left_last : (k : ℕ) → c.high ≤ k → slice_index c.left k ≡ 0
  pub right_some : 0 < slice_index c.right (c.low - 1)
  pub right_first : (k : ℕ) → k + 1 < c.low → slice_index c.right k ≡ 0

-- the factors of a product are one sorted monomial, or begin with two that cross, behind which `rest` stands
abbrev pub IsFront : ℕ → List Monomial → List Monomial → Front → Type 0
IsFront n factors rest (Sorted mono) = (length mono ≡ n) × (sorted_word mono ≡ stacked_word factors)
IsFront n factors rest (Crossed c) =
    IsCrossing n c × HaveVars n rest × (stacked_word factors ≡ sorted_word c.left ++ (sorted_word c.right ++ stacked_word rest))

-- ---- swapping two powers

-- a monomial between what is left of two that cross, when the powers a and b are taken from them
abbrev pub between : ℕ → Crossing → ℕ → ℕ → List Monomial → Monomial → List Monomial
between n c a b tail m = tail ++ (minus c.right (power n c.low b) ∷ m ∷ minus c.left (power n c.high a) ∷ [])

-- `added` is k times the product of the crossing's monomials and the tail, with powers of the two variables brought to their
-- normal form
pub record IsExchange (A : Algebra) (k : ℕ) (c : Crossing) (tail : List Monomial) (added : ProductSum) : Type 0 where
  pub a : ℕ
  pub b : ℕ
  pub a_some : 1 ≤ a
  pub b_some : 1 ≤ b
  pub a_within : a ≤ slice_index c.left (c.high - 1)
  pub b_within : b ≤ slice_index c.right (c.low - 1)
  pub terms : added
      ≡ map (λ t. ((k * t.0) % A.p, between A.order.vars c a b tail t.1)) (normal_form A (replicate a c.high ++ replicate b c.low))
