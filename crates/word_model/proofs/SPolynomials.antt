-- The S-polynomial of two elements is below the least common multiple of their leading monomials, and links them where it
-- is a value below that.
use Rattle.std.proofs.Common.{◌≡◌, ◌≢◌, ℕ, ◌+◌, ◌-◌, ◌*◌, List, [], length, sym, ap, ◌∙◌, subst, arith}
use Rattle.monomials.specs.Monomials.{Monomial, plus, minus, lcm}
use Rattle.monomials.specs.Leading.{leading_monomial, leading_coefficient}
use Rattle.monomials.specs.Polynomials.{Polynomial, IsPolynomial}
use Rattle.monomials.proofs.Modulo.{Same, same_refl, same_add, same_mul, same_mul_right, same_back, same_none}
use Rattle.monomials.proofs.Weights.{weigh, weigh-poly_scale}
use Rattle.monomials.proofs.Canonical.{only_at}
use Rattle.monomials.proofs.Keys.{EachKey}
use Rattle.word_model.specs.Words.{Algebra}
use Rattle.word_model.specs.Conditions.{NonZero, IsGAlgebra}
use Rattle.word_model.specs.Reduction.{element, quotient, multiple}
use Rattle.word_model.specs.Jobs.{s_polynomial}
use Rattle.word_model.proofs.LeadingMonomials.{order}
use Rattle.word_model.proofs.Divisions.{quotient-times}
use Rattle.word_model.proofs.Targets.{IsBelow}
use Rattle.word_model.proofs.Multiples.{IsAtMost, at_most_but_zero, leading_number, leading_coefficient-nonzero, multiple-scale, multiple-leading}
use Rattle.word_model.proofs.MultipleWeights.{lead, multiple_weight, IsThere, Fits, lift, lift_fits, top_lift}
use Rattle.word_model.proofs.Frames.{IsLow}
use Rattle.word_model.proofs.Connections.{positive, length-common, divides-common, divides-common_second, Linked}
use Rattle.word_model.proofs.Criterion.{plain}
use Rattle.word_model.proofs.Differences.{weigh-sub, sub_is, EachKey-sub, multiple_is, weigh-multiple, multiple_at_most}

module _ (A : Algebra) (ok : IsGAlgebra A) (G : List Polynomial) (i j : ℕ) (ti : IsThere A G i) (tj : IsThere A G j) where
  abbrev γ : Monomial
  γ = lcm (lead A G i) (lead A G j)

  length-γ : length γ ≡ A.order.vars
  length-γ = length-common A ok G (plain A ok G) i j ti tj

  -- the two multiples that reach the least common multiple
  abbrev mi : Monomial
  mi = minus γ (lead A G i)

  abbrev mj : Monomial
  mj = minus γ (lead A G j)

  abbrev first : Polynomial
  first = multiple A 1 mi (element G i)

  abbrev second : Polynomial
  second = multiple A 1 mj (element G j)

  -- the number by which the second is multiplied
  abbrev pub pair_number : ℕ
  pair_number = quotient A.p (leading_coefficient first) (leading_coefficient second)

  abbrev S : Polynomial
  S = s_polynomial A (element G i) (element G j)

  fits_i : Fits A G (lift A G γ i)
  fits_i = lift_fits A G γ i length-γ ti

  fits_j : Fits A G (lift A G γ j)
  fits_j = lift_fits A G γ j length-γ tj

  top_i : plus mi (lead A G i) ≡ γ
  top_i = top_lift A G γ i length-γ ti (divides-common A ok G (plain A ok G) i j ti tj)

  top_j : plus mj (lead A G j) ≡ γ
  top_j = top_lift A G γ j length-γ tj (divides-common_second A ok G (plain A ok G) i j ti tj)

  first_leads : (first ≢ []) × (leading_monomial first ≡ γ)
  first_leads =
      let l : (first ≢ []) × (leading_monomial first ≡ plus mi (lead A G i)) = multiple-leading A ok mi (element G i) fits_i.0 ti.is.0 ti.is.1 in
      (l.0, l.1 ∙ top_i)

  second_leads : (second ≢ []) × (leading_monomial second ≡ γ)
  second_leads =
      let l : (second ≢ []) × (leading_monomial second ≡ plus mj (lead A G j)) = multiple-leading A ok mj (element G j) fits_j.0 tj.is.0 tj.is.1 in
      (l.0, l.1 ∙ top_j)

  -- the number of such a multiple at the least common multiple
  number_at : (f : Polynomial) → IsPolynomial A.p A.order f → f ≢ [] → leading_monomial f ≡ γ → weigh (only_at (order A) γ) f ≡ leading_coefficient f
  number_at f f_is nonzero at = ap (λ m. weigh (only_at (order A) m) f) (sym at) ∙ leading_number A f f_is.canonical nonzero

  second_nonzero : NonZero A.p (leading_coefficient second)
  second_nonzero = leading_coefficient-nonzero A second (multiple_is A ok 1 mj (element G j)).canonical second_leads.0

  cancels : Same A.p (pair_number * leading_coefficient second) (leading_coefficient first)
  cancels = quotient-times A.p (leading_coefficient first) (leading_coefficient second) ok.field second_nonzero

  pub pair_number-nonzero : NonZero A.p pair_number
  pair_number-nonzero z =
      let nothing : 0 * leading_coefficient second ≡ 0 = omega arith in
      leading_coefficient-nonzero A first (multiple_is A ok 1 mi (element G i)).canonical first_leads.0
      (sym cancels ∙ same_mul_right A.p (leading_coefficient second) pair_number 0 z ∙ same_refl A.p _ _ nothing)

  pub s_polynomial-is : IsPolynomial A.p A.order (s_polynomial A (element G i) (element G j))
  s_polynomial-is = sub_is A ok first (multiple A pair_number mj (element G j)) (multiple_is A ok 1 mi (element G i)) (multiple_is A ok pair_number mj (element G j))

  s_at_most : EachKey (IsAtMost A γ) S
  s_at_most =
      EachKey-sub A ok (IsAtMost A γ) first (multiple A pair_number mj (element G j))
      (subst (λ t. EachKey (IsAtMost A t) first) top_i (multiple_at_most A ok 1 mi (element G i) fits_i.0 ti.is))
      (subst (λ t. EachKey (IsAtMost A t) (multiple A pair_number mj (element G j))) top_j (multiple_at_most A ok pair_number mj (element G j) fits_j.0 tj.is))

  s_zero : Same A.p (weigh (only_at (order A) γ) S) 0
  s_zero =
      let w : Monomial → ℕ = only_at (order A) γ in
      let a : ℕ = leading_coefficient first in
      weigh-sub A ok w first (multiple A pair_number mj (element G j))
      ∙ same_add A.p _ _ _ _
      (same_refl A.p _ _ (number_at first (multiple_is A ok 1 mi (element G i)) first_leads.0 first_leads.1))
      (same_mul A.p (A.p - 1) _ _
      (same_refl A.p _ _ (ap (weigh w) (multiple-scale A ok pair_number mj (element G j) fits_j.0 tj.is.0))
      ∙ weigh-poly_scale A.p w pair_number second
      ∙ same_refl A.p _ _ (ap (λ x. pair_number * x) (number_at second (multiple_is A ok 1 mj (element G j)) second_leads.0 second_leads.1))
      ∙ cancels))
      ∙ same_none A.p a (positive A ok)

  -- its monomials are below the least common multiple
  pub s_polynomial-below : IsBelow A (lcm (lead A G i) (lead A G j)) (s_polynomial A (element G i) (element G j))
  s_polynomial-below = at_most_but_zero A γ S s_polynomial-is.canonical s_at_most s_zero

  -- the first multiple is a number times the second, and the S-polynomial
  pub s_polynomial-value : (φ : Monomial → ℕ)
      → Same A.p (multiple_weight A G φ (lift A G (lcm (lead A G i) (lead A G j)) i))
      (pair_number * multiple_weight A G φ (lift A G (lcm (lead A G i) (lead A G j)) j) + weigh φ (s_polynomial A (element G i) (element G j)))
  s_polynomial-value φ =
      let x : ℕ = multiple_weight A G φ (lift A G γ i) in
      let y : ℕ = pair_number * multiple_weight A G φ (lift A G γ j) in
      same_back A.p x y (weigh φ S) (positive A ok)
      (weigh-sub A ok φ first (multiple A pair_number mj (element G j))
      ∙ same_add A.p _ _ _ _
      (weigh-multiple A ok φ 1 mi (element G i) ∙ same_refl A.p _ _ (once x))
      (same_mul A.p (A.p - 1) _ _ (weigh-multiple A ok φ pair_number mj (element G j))))
    where
      once : (x : ℕ) → 1 * x ≡ x
      once x = omega arith

  -- where it is a value below the least common multiple, the two elements are linked
  pub s_polynomial-links : IsLow A ok G (plain A ok G) (lcm (lead A G i) (lead A G j)) (λ φ. weigh φ (s_polynomial A (element G i) (element G j)))
      → Linked A ok G (plain A ok G) i j
  s_polynomial-links low = record { factor = pair_number; nonzero = pair_number-nonzero; rest = λ φ. weigh φ S; low = low; value = s_polynomial-value }
