-- Reduction of a polynomial by a list of polynomials, with its trace.
use Rattle.std.specs.Prelude.{ℕ, zero, suc, ◌-◌, ◌^◌, max, Bool, true, false, List, [], ◌∷◌, length, drop, slice_index_or, Option, Some, None, if◌then◌else◌}
pub use Rattle.prime_field.specs.Modular.{quotient}
use Rattle.monomials.specs.Monomials.{Monomial, minus}
use Rattle.monomials.specs.Orders.{order_cmp}
use Rattle.monomials.specs.Polynomials.{Polynomial, poly_sub, poly_degree}
pub use Rattle.monomials.specs.Leading.{lead_divides}
use Rattle.monomials.specs.Leading.{leading_monomial, leading_coefficient}
use Rattle.word_model.specs.Words.{Algebra}
use Rattle.word_model.specs.Products.{product, degree_limit, in_reach}
use Rattle.word_model.specs.declared.records.TraceStep.{TraceStep}

-- the polynomial of number i in a list, which counts from 1
abbrev pub element : List Polynomial → ℕ → Polynomial
element G i = slice_index_or G (i - 1) []

-- the least of the k numbers from i on that meets the test
abbrev pub least_number : (ℕ → Bool) → ℕ → ℕ → Option ℕ
least_number test i zero = None
least_number test i (suc k) = if test i then Some i else least_number test (suc i) k

-- the number of the first element whose leading monomial divides m
abbrev pub first_divisor : List Polynomial → Monomial → Option ℕ
first_divisor G m = least_number (λ i. lead_divides (element G i) m) 1 (length G)

-- c m g
abbrev pub multiple : Algebra → ℕ → Monomial → Polynomial → Polynomial
multiple A c m g = product A ((c, m) ∷ []) g

-- whether a term with monomial m times g is computed, whatever its number
abbrev pub is_within : Monomial → Polynomial → Bool
is_within m g = in_reach ((1, m) ∷ []) g

-- ---- one step

-- the term that a step cancels, with the number of the first element whose leading monomial divides its own
abbrev pub Target : Type 0
Target = (ℕ × Monomial) × ℕ

-- a term with its first divisor
abbrev pub target_at : ℕ × Monomial → Option ℕ → Option Target
target_at t None = None
target_at t (Some i) = Some (t, i)

-- a reduction cancels the leading term
abbrev pub leading_target : List Polynomial → Polynomial → Option Target
leading_target G [] = None
leading_target G (t ∷ h) = target_at t (first_divisor G t.1)

abbrev pub target_or : Option Target → Option Target → Option Target
target_or None later = later
target_or (Some found) later = Some found

-- a normal form cancels the greatest term that has a divisor, leading or not
abbrev pub greatest_target : List Polynomial → Polynomial → Option Target
greatest_target G [] = None
greatest_target G (t ∷ h) = target_or (target_at t (first_divisor G t.1)) (greatest_target G h)

-- a reduction of the tail does the same, and leaves the leading term
abbrev pub tail_target : List Polynomial → Polynomial → Option Target
tail_target G h = greatest_target G (drop 1 h)

-- the step that cancels the term t by g, the element of number i: its multiple of g has t as leading term
abbrev pub step_by : Algebra → ℕ × Monomial → ℕ → Polynomial → TraceStep
step_by A t i g =
    let m : Monomial = minus t.1 (leading_monomial g) in
    record { coef = quotient A.p t.0 (leading_coefficient (multiple A 1 m g)); mono = m; index = i }

-- what is left of h after a step: the step's multiple of its element is subtracted
abbrev pub less_step : Algebra → List Polynomial → Polynomial → TraceStep → Polynomial
less_step A G h s = poly_sub (order_cmp A.order.rows) A.p h (multiple A s.coef s.mono (element G s.index))

-- what comes next in a reduction
pub data Next : Type 0 where
  -- no term is to be cancelled
  Ends : Next
  -- the degrees of the step's product add up to more than the limit
  Undefined : Next
  -- a step, and what it leaves
  Goes : TraceStep → Polynomial → Next

-- the step of h at this target
abbrev pub next_step : Algebra → List Polynomial → Polynomial → Option Target → Next
next_step A G h None = Ends
next_step A G h (Some (t, i)) =
    let g : Polynomial = element G i in
    let s : TraceStep = step_by A t i g in
    if is_within s.mono g then Goes s (less_step A G h s) else Undefined

-- ---- all steps

-- the steps of a reduction, and what is left
pub record Reduced : Type 0 where
  pub trace : List TraceStep
  pub rest : Polynomial
  -- whether a step was left that is undefined
  pub over : Bool

abbrev pub after_step : (Polynomial → Reduced) → Polynomial → Next → Reduced
after_step go h Ends = record { trace = []; rest = h; over = false }
after_step go h Undefined = record { trace = []; rest = h; over = true }
after_step go h (Goes s h') = let r : Reduced = go h' in record r { trace = s ∷ r.trace }

-- the steps of h, of which `target` says where each cancels, where they are fewer than k
unfoldable pub steps_within : Algebra → List Polynomial → (Polynomial → Option Target) → ℕ → Polynomial → Reduced
steps_within A G target zero h = record { trace = []; rest = h; over = false }
steps_within A G target (suc k) h = after_step (steps_within A G target k) h (next_step A G h (target h))

-- More than the number of steps that follow one another: each cancels a smaller monomial than the one before, and no
-- degree rises above that of h or the limit.
abbrev pub enough_steps : ℕ → Polynomial → ℕ
enough_steps n h = suc ((suc (max degree_limit (poly_degree h))) ^ n)

-- The reduction of h by G: while h is not zero and some element's leading monomial divides that of h, the first such
-- element cancels the leading term.
unfoldable pub reduce : Algebra → List Polynomial → Polynomial → Reduced
reduce A G h = steps_within A G (leading_target G) (enough_steps A.order.vars h) h

-- The normal form of h by G: the greatest term that some element's leading monomial divides is cancelled, by the first
-- such element, until there is none.
unfoldable pub normal_form_by : Algebra → List Polynomial → Polynomial → Reduced
normal_form_by A G h = steps_within A G (greatest_target G) (enough_steps A.order.vars h) h

-- the normal form of h by G but for the leading term of h, which stays
unfoldable pub reduce_tail : Algebra → List Polynomial → Polynomial → Reduced
reduce_tail A G h = steps_within A G (tail_target G) (enough_steps A.order.vars h) h
