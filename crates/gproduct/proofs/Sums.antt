-- Sums of many polynomials, and products with one term more on the left.
use Rattle.std.proofs.Common.{◌≡◌, ℕ, true, ◌+◌, ◌<◌, ◌≤◌, List, [], ◌∷◌, ◌++◌, length, take, get_or, refl, sym, ap, ◌∙◌, subst, arith}
use Rattle.std.proofs.lemmas.Bool.Decides.{nat_tests}
use Rattle.std.proofs.lemmas.List.{map-append, take_more}
use Rattle.monomials.specs.Monomials.{Monomial, degree}
use Rattle.monomials.specs.Orders.{RowOrder, order_cmp}
use Rattle.monomials.specs.Polynomials.{Polynomial, HasNumbers, HasVars, IsPolynomial, poly_add, poly_degree}
use Rattle.monomials.proofs.Modulo.{Same, same_refl, same_add}
use Rattle.monomials.proofs.Weights.{weigh, weigh-append, weigh-poly_add}
use Rattle.monomials.proofs.Canonical.{same_poly}
use Rattle.monomials.proofs.OrderLaws.{order_cmp_total, order_cmp_tied}
use Rattle.monomials.proofs.Operations.{IsPolynomial-poly_add}
use Rattle.monomials.proofs.Keys.{Each-append}
use Rattle.gpoly.specs.declared.Term.{Term}
use Rattle.gpoly.specs.Terms.{pair_of, pairs_of}
use Rattle.gpoly.proofs.TermLists.{numbers_at, vars_at}
use Rattle.word_model.specs.Words.{Algebra}
use Rattle.word_model.specs.Products.{product, in_reach}
use Rattle.algebra.proofs.Letterwise.{degree_at}
use Rattle.word_model.proofs.NormalForms.{row_weight, weigh-product, product_is_polynomial, same_weights}
use Rattle.gproduct.specs.Inside.Parts.{sum_of, AreSorted}

module _ (p : ℕ) (pos : 0 < p) (order : RowOrder) where
  -- the weight of all together
  abbrev weigh_all : (Monomial → ℕ) → List Polynomial → ℕ
  weigh_all φ [] = 0
  weigh_all φ (f ∷ fs) = weigh φ f + weigh_all φ fs

  weigh_all-append : (φ : Monomial → ℕ) (fs gs : List Polynomial) → weigh_all φ (fs ++ gs) ≡ weigh_all φ fs + weigh_all φ gs
  weigh_all-append φ [] gs = omega arith
  weigh_all-append φ (f ∷ fs) gs = omega (arith, weigh_all-append φ fs gs)

  weigh-sum_of : (φ : Monomial → ℕ) (fs : List Polynomial) → Same p (weigh φ (sum_of p order fs)) (weigh_all φ fs)
  weigh-sum_of φ [] = refl
  weigh-sum_of φ (f ∷ fs) =
      weigh-poly_add (order_cmp order.rows) (order_cmp_tied order.rows) p φ f (sum_of p order fs) ∙ same_add p (weigh φ f) _ _ _ refl (weigh-sum_of φ fs)

  -- a sum of sorted polynomials is one
  pub IsPolynomial-sum_of : (fs : List Polynomial) → AreSorted p order fs → IsPolynomial p order (sum_of p order fs)
  IsPolynomial-sum_of [] h = record { canonical = tt; vars = tt }
  IsPolynomial-sum_of (f ∷ fs) h = IsPolynomial-poly_add p order pos f (sum_of p order fs) h.0 (IsPolynomial-sum_of fs h.1)

  equal : (f g : Polynomial) → IsPolynomial p order f → IsPolynomial p order g → ((φ : Monomial → ℕ) → Same p (weigh φ f) (weigh φ g)) → f ≡ g
  equal f g hf hg e = same_poly (order_cmp order.rows) (order_cmp_total order.rows) (order_cmp_tied order.rows) p f g hf.canonical hg.canonical e

  -- the last two may be added up
  pub last_two : (fs : List Polynomial) (f g : Polynomial) → AreSorted p order fs → IsPolynomial p order f → IsPolynomial p order g
      → sum_of p order (fs ++ poly_add (order_cmp order.rows) p f g ∷ []) ≡ sum_of p order ((fs ++ f ∷ []) ++ g ∷ [])
  last_two fs f g hs hf hg =
      let sum : Polynomial = poly_add (order_cmp order.rows) p f g in
      let one : AreSorted p order (fs ++ sum ∷ []) = Each-append _ fs (sum ∷ []) hs (IsPolynomial-poly_add p order pos f g hf hg, tt) in
      let both : AreSorted p order ((fs ++ f ∷ []) ++ g ∷ []) = Each-append _ (fs ++ f ∷ []) (g ∷ []) (Each-append _ fs (f ∷ []) hs (hf, tt)) (hg, tt) in
      equal _ _ (IsPolynomial-sum_of (fs ++ sum ∷ []) one) (IsPolynomial-sum_of ((fs ++ f ∷ []) ++ g ∷ []) both)
      (λ φ.
      let left : weigh_all φ (fs ++ sum ∷ []) ≡ weigh_all φ fs + weigh φ sum = omega (arith, weigh_all-append φ fs (sum ∷ [])) in
      let right : weigh_all φ fs + (weigh φ f + weigh φ g) ≡ weigh_all φ ((fs ++ f ∷ []) ++ g ∷ []) =
      omega (arith, weigh_all-append φ (fs ++ f ∷ []) (g ∷ []), weigh_all-append φ fs (f ∷ [])) in
      weigh-sum_of φ (fs ++ sum ∷ [])
      ∙ same_refl p _ _ left
      ∙ same_add p (weigh_all φ fs) _ _ _ refl (weigh-poly_add (order_cmp order.rows) (order_cmp_tied order.rows) p φ f g)
      ∙ same_refl p _ _ right
      ∙ sym (weigh-sum_of φ ((fs ++ f ∷ []) ++ g ∷ [])))

  -- the sum of all but the last, and the last
  pub but_last : (fs : List Polynomial) (f g : Polynomial) → AreSorted p order fs → IsPolynomial p order f → IsPolynomial p order g
      → poly_add (order_cmp order.rows) p (sum_of p order fs) (poly_add (order_cmp order.rows) p f g) ≡ poly_add (order_cmp order.rows) p (sum_of p order (fs ++ f ∷ [])) g
  but_last fs f g hs hf hg =
      let sum : Polynomial = poly_add (order_cmp order.rows) p f g in
      let rest : IsPolynomial p order (sum_of p order fs) = IsPolynomial-sum_of fs hs in
      let more : IsPolynomial p order (sum_of p order (fs ++ f ∷ [])) = IsPolynomial-sum_of (fs ++ f ∷ []) (Each-append _ fs (f ∷ []) hs (hf, tt)) in
      equal _ _ (IsPolynomial-poly_add p order pos _ sum rest (IsPolynomial-poly_add p order pos f g hf hg)) (IsPolynomial-poly_add p order pos _ g more hg)
      (λ φ.
      let all : weigh_all φ fs + (weigh φ f + weigh φ g) ≡ weigh_all φ (fs ++ f ∷ []) + weigh φ g = omega (arith, weigh_all-append φ fs (f ∷ [])) in
      weigh-poly_add (order_cmp order.rows) (order_cmp_tied order.rows) p φ (sum_of p order fs) sum
      ∙ same_add p _ _ _ _ (weigh-sum_of φ fs) (weigh-poly_add (order_cmp order.rows) (order_cmp_tied order.rows) p φ f g)
      ∙ same_refl p _ _ all
      ∙ same_add p _ _ (weigh φ g) (weigh φ g) (sym (weigh-sum_of φ (fs ++ f ∷ []))) refl
      ∙ sym (weigh-poly_add (order_cmp order.rows) (order_cmp_tied order.rows) p φ (sum_of p order (fs ++ f ∷ [])) g))

  -- nothing is added
  pub plus_nothing : (f : Polynomial) → IsPolynomial p order f → poly_add (order_cmp order.rows) p f [] ≡ f
  plus_nothing f h =
      equal _ _ (IsPolynomial-poly_add p order pos f [] h (record { canonical = tt; vars = tt })) h
      (λ φ. weigh-poly_add (order_cmp order.rows) (order_cmp_tied order.rows) p φ f [] ∙ same_refl p _ _ (omega arith))

-- the terms up to an index, and the one that stands there
pub pairs_more : (ts : List Term) (i : ℕ) (t : Term) → i < length ts → t ≡ get_or ts i t → pairs_of (take (i + 1) ts) ≡ pairs_of (take i ts) ++ pair_of t ∷ []
pairs_more ts i t inside is =
    ap pairs_of (take_more ts i t inside ∙ ap (λ u. take i ts ++ u ∷ []) (sym is)) ∙ map-append pair_of (take i ts) (t ∷ [])

-- the product with a term more on the left
pub product_more : (A : Algebra) → 1 < A.p → (parts : List Polynomial) (part g : Polynomial) (ts : List Term) (i : ℕ) (t : Term) → i < length ts → t ≡ get_or ts i t
    → AreSorted A.p A.order parts → IsPolynomial A.p A.order part
    → sum_of A.p A.order parts ≡ product A (pairs_of (take i ts)) g → part ≡ product A (pair_of t ∷ []) g
    → sum_of A.p A.order (parts ++ part ∷ []) ≡ product A (pairs_of (take (i + 1) ts)) g
product_more A above_one parts part g ts i t inside is hs hp sum this =
    let pos : 0 < A.p = omega arith in
    let one_more : pairs_of (take (i + 1) ts) ≡ pairs_of (take i ts) ++ pair_of t ∷ [] = pairs_more ts i t inside is in
    let all : AreSorted A.p A.order (parts ++ part ∷ []) = Each-append _ parts (part ∷ []) hs (hp, tt) in
    same_weights A _ _ (IsPolynomial-sum_of A.p pos A.order (parts ++ part ∷ []) all) (product_is_polynomial A above_one (pairs_of (take (i + 1) ts)) g)
    (λ φ.
    weighs φ
    ∙ same_add A.p _ _ _ _ (same_refl A.p _ _ (ap (weigh φ) sum) ∙ weigh-product A φ (pairs_of (take i ts)) g)
    (same_refl A.p _ _ (ap (weigh φ) this) ∙ weigh-product A φ (pair_of t ∷ []) g)
    ∙ same_refl A.p _ _ (sym (weigh-append (row_weight A φ g) (pairs_of (take i ts)) (pair_of t ∷ [])) ∙ ap (weigh (row_weight A φ g)) (sym one_more))
    ∙ sym (weigh-product A φ (pairs_of (take (i + 1) ts)) g))
  where
    weighs : (φ : Monomial → ℕ) → Same A.p (weigh φ (sum_of A.p A.order (parts ++ part ∷ []))) (weigh φ (sum_of A.p A.order parts) + weigh φ part)
    weighs φ =
        let pos : 0 < A.p = omega arith in
        let split : weigh_all A.p pos A.order φ (parts ++ part ∷ []) ≡ weigh_all A.p pos A.order φ parts + weigh φ part =
        omega (arith, weigh_all-append A.p pos A.order φ parts (part ∷ [])) in
        weigh-sum_of A.p pos A.order φ (parts ++ part ∷ [])
        ∙ same_refl A.p _ _ split
        ∙ same_add A.p _ _ (weigh φ part) (weigh φ part) (sym (weigh-sum_of A.p pos A.order φ parts)) refl

-- the product of nothing
pub nothing_times : (A : Algebra) (g : Polynomial) → product A [] g ≡ []
unfolding product
nothing_times A g = refl

-- what is known of a term at an index
pub term_at : (p n : ℕ) (ts : List Term) (i : ℕ) (t : Term) → i < length ts → t ≡ get_or ts i t → HasNumbers p (pairs_of ts) → HasVars n (pairs_of ts)
    → (t.coef < p) × (length t.mono ≡ n) × (degree t.mono ≤ poly_degree (pairs_of ts))
term_at p n ts i t inside is numbers vars = (
  subst (λ t. t.coef < p) (sym is) (numbers_at p ts i t inside numbers),
  subst (λ t. length t.mono ≡ n) (sym is) (vars_at n ts i t inside vars),
  omega (arith, ap (λ t. degree t.mono) is, degree_at ts i t inside),
)

-- polynomials whose degrees add up to at most the limit are in reach
pub within_reach : (f g : Polynomial) → poly_degree f + poly_degree g ≤ 4095 → in_reach f g ≡ true
within_reach [] g small = refl
within_reach (t ∷ f) [] small = refl
within_reach (t ∷ f) (u ∷ g) small = grind (arith, nat_tests)
