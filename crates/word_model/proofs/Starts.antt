-- Starts of jobs: they are polynomials, and no product by which they are made raises a degree above the limit.
use Rattle.std.proofs.Common.{◌≡◌, ◌≢◌, ℕ, ◌+◌, ◌≤◌, Bool, true, false, if◌then◌else◌, List, [], ◌∷◌, length, Some, None, refl, sym, ◌∙◌, subst, arith}
use Rattle.std.proofs.lemmas.Bool.{and_parts, leb-true}
use Rattle.monomials.specs.Monomials.{Monomial, degree, minus, lcm}
use Rattle.monomials.specs.Leading.{leading_monomial, leading_coefficient}
use Rattle.monomials.specs.Polynomials.{Polynomial, Each, HasVars, poly_degree}
use Rattle.word_model.specs.Words.{Algebra}
use Rattle.word_model.specs.Conditions.{IsGAlgebra}
use Rattle.word_model.specs.Products.{product, in_reach, variable_polynomial, degree_limit}
use Rattle.word_model.specs.Reduction.{element, quotient, multiple, is_within}
use Rattle.word_model.specs.Jobs.{IsJob, start_of, s_polynomial, pair_within}
use Rattle.word_model.specs.Machine.{IsElement}
use Rattle.word_model.specs.declared.records.Job.{Job}
use Rattle.word_model.specs.declared.records.Job.TheVariants.{Seed, Pair, Right}
use Rattle.word_model.proofs.Degrees.{HasDegrees, HasDegrees-poly_degree, poly_degree-le, poly_degree-product}
use Rattle.word_model.proofs.LeastNumbers.{Each-element}
use Rattle.word_model.proofs.Multiples.{multiple-low}
use Rattle.word_model.proofs.Divisions.{length-minus}
use Rattle.word_model.proofs.CommonMultiples.{length-lcm}
use Rattle.word_model.proofs.Associativity.{length-variable}
use Rattle.word_model.proofs.PairCofactors.{length-leading_monomial}
use Rattle.word_model.proofs.Differences.{EachKey-sub}

-- the start of a pair is its S-polynomial
pub start_of-pair : (A : Algebra) (gens G : List Polynomial) (i j : ℕ) (h : Polynomial) → start_of A gens G (Pair i j) ≡ Some h → (s_polynomial A (element G i) (element G j) ≡ h) × (pair_within G i j ≡ true)
unfolding start_of
start_of-pair A gens G i j h e = by (pair_within G i j) refl e
  where
    by : (b : Bool) → pair_within G i j ≡ b → (if b then Some (s_polynomial A (element G i) (element G j)) else None) ≡ Some h
        → (s_polynomial A (element G i) (element G j) ≡ h) × (pair_within G i j ≡ true)
    by true t e = (cc, t)
    by false t e = cc

pub start_of-seed : (A : Algebra) (gens G : List Polynomial) (s : ℕ) (h : Polynomial) → start_of A gens G (Seed s) ≡ Some h → element gens s ≡ h
unfolding start_of
start_of-seed A gens G s h e = cc

pub start_of-right : (A : Algebra) (gens G : List Polynomial) (i v : ℕ) (h : Polynomial) → start_of A gens G (Right i v) ≡ Some h
    → (product A (element G i) (variable_polynomial A v) ≡ h) × (in_reach (element G i) (variable_polynomial A v) ≡ true)
unfolding start_of
start_of-right A gens G i v h e = by (in_reach (element G i) (variable_polynomial A v)) refl e
  where
    by : (b : Bool) → in_reach (element G i) (variable_polynomial A v) ≡ b → (if b then Some (product A (element G i) (variable_polynomial A v)) else None) ≡ Some h
        → (product A (element G i) (variable_polynomial A v) ≡ h) × (in_reach (element G i) (variable_polynomial A v) ≡ true)
    by true t e = (cc, t)
    by false t e = cc

module _ (A : Algebra) (ok : IsGAlgebra A) where
  multiple_degree : (c : ℕ) (m : Monomial) (g : Polynomial) → length m ≡ A.order.vars → HasVars A.order.vars g → is_within m g ≡ true → HasDegrees degree_limit (multiple A c m g)
  multiple_degree c m g hm hg within = HasDegrees-poly_degree (multiple A c m g) degree_limit (multiple-low A ok c m g hm hg within)

  right_degree : (f : Polynomial) (v : ℕ) → HasVars A.order.vars f → 1 ≤ v → v ≤ A.order.vars → f ≢ [] → in_reach f (variable_polynomial A v) ≡ true → poly_degree (product A f (variable_polynomial A v)) ≤ degree_limit
  right_degree [] v vars low high nonzero within = absurd (nonzero refl)
  right_degree (t ∷ f) v vars low high nonzero within =
      let small : poly_degree (t ∷ f) + poly_degree (variable_polynomial A v) ≤ degree_limit = leb-true (poly_degree (t ∷ f) + poly_degree (variable_polynomial A v)) degree_limit within in
      omega (arith, poly_degree-product A ok.downward (t ∷ f) (variable_polynomial A v) vars (length-variable A.order.vars v low high, tt), small)

  module _ (gens : List Polynomial) (low : Each (λ f. poly_degree f ≤ degree_limit) gens) (G : List Polynomial) (elements : Each (IsElement A) G) where
    at : (i : ℕ) → 1 ≤ i → i ≤ length G → IsElement A (element G i)
    at i first last = Each-element (IsElement A) G i elements first last

    -- no start has a degree above the limit
    pub start_of-degree : (job : Job) → IsJob (length gens) (length G) A.order.vars job → (h : Polynomial) → start_of A gens G job ≡ Some h → poly_degree h ≤ degree_limit
    start_of-degree (Seed s) named h e =
        subst (λ f. poly_degree f ≤ degree_limit) (start_of-seed A gens G s h e) (Each-element (λ f. poly_degree f ≤ degree_limit) gens s low named.0 named.1)
    start_of-degree (Pair i j) named h e =
        let is : (s_polynomial A (element G i) (element G j) ≡ h) × (pair_within G i j ≡ true) = start_of-pair A gens G i j h e in
        let el_i : IsElement A (element G i) = at i named.0 (omega (arith, named.1, named.2)) in
        let el_j : IsElement A (element G j) = at j (omega (arith, named.0, named.1)) named.2 in
        let f : Polynomial = element G i in
        let g : Polynomial = element G j in
        let l : Monomial = lcm (leading_monomial f) (leading_monomial g) in
        let a : Monomial = minus l (leading_monomial f) in
        let b : Monomial = minus l (leading_monomial g) in
        let lf : length (leading_monomial f) ≡ A.order.vars = length-leading_monomial A.order.vars f el_i.0.vars el_i.1 in
        let lg : length (leading_monomial g) ≡ A.order.vars = length-leading_monomial A.order.vars g el_j.0.vars el_j.1 in
        let ll : length l ≡ A.order.vars = length-lcm (leading_monomial f) (leading_monomial g) (lf ∙ sym lg) ∙ lf in
        let within : (is_within a f ≡ true) × (is_within b g ≡ true) = and_parts (is_within a f) (is_within b g) is.1 in
        let k : ℕ = quotient A.p (leading_coefficient (multiple A 1 a f)) (leading_coefficient (multiple A 1 b g)) in
        subst (λ f. poly_degree f ≤ degree_limit) is.0
        (poly_degree-le (s_polynomial A f g) degree_limit
        (EachKey-sub A ok (λ m. degree m ≤ degree_limit) (multiple A 1 a f) (multiple A k b g)
        (multiple_degree 1 a f (length-minus l (leading_monomial f) (ll ∙ sym lf) ∙ ll) el_i.0.vars within.0)
        (multiple_degree k b g (length-minus l (leading_monomial g) (ll ∙ sym lg) ∙ ll) el_j.0.vars within.1)))
    start_of-degree (Right i v) named h e =
        let is : (product A (element G i) (variable_polynomial A v) ≡ h) × (in_reach (element G i) (variable_polynomial A v) ≡ true) = start_of-right A gens G i v h e in
        let el : IsElement A (element G i) = at i named.0 named.1 in
        subst (λ f. poly_degree f ≤ degree_limit) is.0 (right_degree (element G i) v el.0.vars named.2 named.3 el.1 is.1)
