-- What the private types of this crate stand for, in the words of the definitions.
use Rattle.std.specs.Prelude.{◌≡◌, ℕ, ◌++◌, List, [], ◌∷◌, drop, Option, Some, None}
use Rattle.monomials.specs.Monomials.{Monomial}
use Rattle.monomials.specs.Orders.{RowOrder, order_cmp}
use Rattle.monomials.specs.Polynomials.{Polynomial, Each, IsPolynomial, poly_add}
use Rattle.gpoly.specs.Terms.{pair_of}
use Rattle.gpoly.specs.Sums.{poly_sum, AreSorted}
use Rattle.word_model.specs.Words.{Algebra}
use Rattle.word_model.specs.Reduction.{first_divisor, Target, leading_target, greatest_target, tail_target, Next, Undefined, Goes, Reduced, reduce, normal_form_by, reduce_tail}
use Rattle.word_model.specs.declared.records.TraceStep.{TraceStep}
use Rattle.left_reduce.specs.declared.targets.Target.{Target as Found}
use Rattle.left_reduce.specs.declared.targets.Aim.{Aim}
use Rattle.left_reduce.specs.declared.targets.Aim.TheVariants.{Leading, Greatest, Tail}
use Rattle.left_reduce.specs.declared.targets.Work.{Work}
use Rattle.left_reduce.specs.declared.stepping.Next.{Next as Made}
use Rattle.left_reduce.specs.declared.stepping.Next.TheVariants.{Step, Over}

-- a term to be cancelled, with the number of its divisor
abbrev pub target_of : Found → Target
target_of t = (pair_of t.term, t.index)

-- the term that a reduction with this aim cancels next
abbrev pub target_by : Aim → List Polynomial → Polynomial → Option Target
target_by Leading = leading_target
target_by Greatest = greatest_target
target_by Tail = tail_target

-- the reduction with this aim
abbrev pub reduction_by : Aim → Algebra → List Polynomial → Polynomial → Reduced
reduction_by Leading = reduce
reduction_by Greatest = normal_form_by
reduction_by Tail = reduce_tail

-- the polynomial under reduction: the terms that were passed over, and behind them the sum of the rest
abbrev pub whole_of : ℕ → RowOrder → Work → Polynomial
whole_of p order w = w.passed ++ poly_sum (order_cmp order.rows) p w.rest

-- whether a reduction with this aim passes over terms
abbrev pub Passes : Aim → Type 0
Passes Leading = ⊥
Passes Greatest = Unit {0}
Passes Tail = Unit {0}

-- a reduction with this aim passes over the terms f
abbrev pub IsPassed : Aim → List Polynomial → Polynomial → Type 0
IsPassed Leading G f = f ≡ []
IsPassed Greatest G f = Each (λ t. first_divisor G t.1 ≡ None) f
IsPassed Tail G f = Each (λ t. first_divisor G t.1 ≡ None) (drop 1 f)

-- the divisor by which a reduction with this aim cancels a term with monomial m behind the terms f
abbrev pub divisor_by : Aim → List Polynomial → Polynomial → Monomial → Option ℕ
divisor_by Leading G f m = first_divisor G m
divisor_by Greatest G f m = first_divisor G m
divisor_by Tail G [] m = None
divisor_by Tail G (t ∷ f) m = first_divisor G m

-- what is known of the polynomial under reduction
pub record IsWork (p : ℕ) (order : RowOrder) (aim : Aim) (G : List Polynomial) (w : Work) : Type 0 where
  pub sorted : AreSorted p order w.rest
  pub whole : IsPolynomial p order (whole_of p order w)
  pub passed : IsPassed aim G w.passed

-- the target leads the rest, with its first divisor
pub record IsNext (p : ℕ) (order : RowOrder) (G : List Polynomial) (w : Work) (t : Found) : Type 0 where
  pub leads : poly_sum (order_cmp order.rows) p w.rest ≡ pair_of t.term ∷ drop 1 (poly_sum (order_cmp order.rows) p w.rest)
  pub divisor : first_divisor G t.term.mono ≡ Some t.index

-- the step of h that adds what was made to it, or one that is undefined
abbrev pub next_of : Algebra → Made → Polynomial → Next
next_of A (Step s f) h = Goes s (poly_add (order_cmp A.order.rows) A.p h f)
next_of A Over h = Undefined

-- what was made is sorted
abbrev pub IsSorted : Algebra → Made → Type 0
IsSorted A (Step s f) = IsPolynomial A.p A.order f
IsSorted A Over = Unit {0}

-- how many products were made for it
abbrev pub products_of : Made → ℕ
products_of (Step s f) = 1
products_of Over = 0

-- a reduction with these steps before its own
abbrev pub after_steps : List TraceStep → Reduced → Reduced
after_steps steps r = record r { trace = steps ++ r.trace }
