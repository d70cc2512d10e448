-- Two reduced bases of the same set of polynomials are equal.
use Rattle.std.proofs.Common.{◌≡◌, ◌≢◌, ℕ, suc, ◌-◌, ◌<◌, ◌⊎◌, inl, inr, ⊎_elim, Less, Equal, Greater, true, List, [], ◌∷◌, length, slice_index_or, refl, sym, ap, ◌∙◌, subst, arith}
use Rattle.monomials.specs.Monomials.{Monomial, divides}
use Rattle.monomials.specs.Leading.{leading_monomial, leading_coefficient}
use Rattle.monomials.specs.Polynomials.{Polynomial, Each, IsPolynomial}
use Rattle.monomials.specs.WellFounded.{IsWellFounded}
use Rattle.monomials.proofs.Modulo.{Same, same_refl, same_add, same_mul, same_minus, same_none, same_equal}
use Rattle.monomials.proofs.Weights.{weigh}
use Rattle.monomials.proofs.OrderLaws.{order_cmp_total, order_cmp_tied}
use Rattle.monomials.proofs.Canonical.{only_at, ties_itself, turn}
use Rattle.monomials.proofs.Keys.{EachKey}
use Rattle.word_model.specs.Words.{Algebra}
use Rattle.word_model.specs.Conditions.{IsGAlgebra}
use Rattle.word_model.specs.Reduction.{lead_divides}
use Rattle.word_model.specs.Ideals.{IsOneOf, Ascends, IsReducedBasis}
use Rattle.word_model.proofs.NormalForms.{same_weights}
use Rattle.word_model.proofs.LeadingMonomials.{order, rest_below}
use Rattle.word_model.proofs.LeastNumbers.{lead_divides-nonzero, lead_divides-divides}
use Rattle.word_model.proofs.Multiples.{leading_number}
use Rattle.word_model.proofs.PairCofactors.{length-leading_monomial}
use Rattle.word_model.proofs.Connections.{positive}
use Rattle.word_model.proofs.Differences.{sub, weigh-sub, sub_is, EachKey-sub}
use Rattle.word_model.proofs.CommonMultiples.{divides-trans, divides-antisym}
use Rattle.word_model.proofs.ReducedToZero.{lead_divides-is}
use Rattle.word_model.proofs.DivisorOrder.{divisor_not_above}

-- ---- members

pub each_one : {X : Type 0} (P : X → Type 0) (x : X) (xs : List X) → Each P xs → IsOneOf x xs → P x
each_one P x [] h m = absurd m
each_one P x (y ∷ ys) h (inl e) = subst P e h.0
each_one P x (y ∷ ys) h (inr m) = each_one P x ys h.1 m

pub one_each : {X : Type 0} (P : X → Type 0) (xs : List X) → ((x : X) → IsOneOf x xs → P x) → Each P xs
one_each P [] h = tt
one_each P (y ∷ ys) h = (h y (inl refl), one_each P ys (λ x m. h x (inr m)))

-- the place of one of a list
pub place_of : {X : Type 0} (xs : List X) (x d : X) → IsOneOf x xs → (k : ℕ) × (k < length xs) × (slice_index_or xs k d ≡ x)
place_of [] x d m = absurd m
place_of (y ∷ xs) x d (inl e) = (0, omega arith, e)
place_of (y ∷ xs) x d (inr m) = let i : (k : ℕ) × (k < length xs) × (slice_index_or xs k d ≡ x) = place_of xs x d m in (suc i.0, omega (arith, i.1), i.2)

module _ (A : Algebra) where
  -- rising lists with the same members are equal
  same_rising : (F H : List Polynomial) → Ascends A F → Ascends A H → ((f : Polynomial) → IsOneOf f F → IsOneOf f H) → ((f : Polynomial) → IsOneOf f H → IsOneOf f F) → F ≡ H
  same_rising [] [] a b to from = refl
  same_rising [] (h ∷ H) a b to from = absurd (from h (inl refl))
  same_rising (f ∷ F) [] a b to from = absurd (to f (inl refl))
  same_rising (f ∷ F) (h ∷ H) a b to from =
      let e : f ≡ h = first (to f (inl refl)) (from h (inl refl)) in
      λ k. e k ∷ same_rising F H a.1 b.1 (λ g m. later g f h F H e a.0 m (to g (inr m))) (λ g m. later g h f H F (sym e) b.0 m (from g (inr m))) k
    where
      first : IsOneOf f (h ∷ H) → IsOneOf h (f ∷ F) → f ≡ h
      first (inl e) n = sym e
      first (inr m) (inl e) = e
      first (inr m) (inr n) =
          let x : order A (leading_monomial h) (leading_monomial f) ≡ Less = each_one (λ g. order A (leading_monomial h) (leading_monomial g) ≡ Less) f H b.0 m in
          let y : order A (leading_monomial f) (leading_monomial h) ≡ Less = each_one (λ g. order A (leading_monomial f) (leading_monomial g) ≡ Less) h F a.0 n in
          let z : order A (leading_monomial f) (leading_monomial h) ≡ Greater =
          turn (order A) (order_cmp_total A.order.rows) (order_cmp_tied A.order.rows) A.p (leading_monomial h) (leading_monomial f) x in
          absurd (let no : Less ≡ Greater = sym y ∙ z in cc)

      later : (g f h : Polynomial) (F H : List Polynomial) → f ≡ h → Each (λ g. order A (leading_monomial f) (leading_monomial g) ≡ Less) F → IsOneOf g F → IsOneOf g (h ∷ H) → IsOneOf g H
      later g f h F H e above m (inr n) = n
      later g f h F H e above m (inl n) =
          let x : order A (leading_monomial f) (leading_monomial g) ≡ Less = each_one (λ g. order A (leading_monomial f) (leading_monomial g) ≡ Less) g F above m in
          let y : order A (leading_monomial f) (leading_monomial g) ≡ Equal =
          ap (λ k. order A (leading_monomial f) (leading_monomial k)) (sym (e ∙ n)) ∙ ties_itself (order A) (order_cmp_total A.order.rows) (order_cmp_tied A.order.rows) A.p (leading_monomial f) in
          absurd (let no : Less ≡ Equal = sym x ∙ y in cc)

module _ (A : Algebra) (ok : IsGAlgebra A) (well : IsWellFounded A.order) (I : Polynomial → Type 0) (is : (f : Polynomial) → I f → IsPolynomial A.p A.order f)
    (minus : (f g : Polynomial) → I f → I g → I (sub A ok f g)) where
  -- a monomial of f or of g
  abbrev Either : Polynomial → Polynomial → Monomial → Type 0
  Either f g m = ((w : ℕ × Monomial) × IsOneOf w f × (w.1 ≡ m)) ⊎ ((w : ℕ × Monomial) × IsOneOf w g × (w.1 ≡ m))

  sub-keys : (f g : Polynomial) → EachKey (Either f g) (sub A ok f g)
  sub-keys f g = EachKey-sub A ok (Either f g) f g (one_each (λ t. Either f g t.1) f (λ w m. inl (w, m, refl))) (one_each (λ t. Either f g t.1) g (λ w m. inr (w, m, refl)))

  -- monic polynomials with the same leading monomial differ by what does not lead with it
  leads_gone : (f g : Polynomial) → IsPolynomial A.p A.order f → IsPolynomial A.p A.order g → leading_coefficient f ≡ 1 → leading_coefficient g ≡ 1 → f ≢ [] → g ≢ []
      → leading_monomial f ≡ leading_monomial g → sub A ok f g ≢ [] → leading_monomial (sub A ok f g) ≡ leading_monomial f → ⊥
  leads_gone f g f_is g_is f_one g_one f_some g_some same d_some at =
      let d : Polynomial = sub A ok f g in
      let d_is : IsPolynomial A.p A.order d = sub_is A ok f g f_is g_is in
      let w : Monomial → ℕ = only_at (order A) (leading_monomial f) in
      let one : Same A.p (weigh w f) 1 = same_refl A.p _ _ (leading_number A f f_is.canonical f_some ∙ f_one) in
      let two : Same A.p (weigh w g) 1 = same_refl A.p _ _ (ap (λ m. weigh (only_at (order A) m) g) same ∙ leading_number A g g_is.canonical g_some ∙ g_one) in
      let none : Same A.p (weigh w d) 0 = weigh-sub A ok w f g ∙ same_add A.p _ _ _ _ one (same_mul A.p (A.p - 1) _ _ two) ∙ same_none A.p 1 (positive A ok) in
      let number : weigh w d ≡ leading_coefficient d = ap (λ m. weigh (only_at (order A) m) d) (sym at) ∙ leading_number A d d_is.canonical d_some in
      nonzero d d_is d_some (same_refl A.p _ _ (sym number) ∙ none)
    where
      nonzero : (d : Polynomial) → IsPolynomial A.p A.order d → d ≢ [] → Same A.p (leading_coefficient d) 0 → ⊥
      nonzero [] d_is some z = some refl
      nonzero (t ∷ d) d_is some z = let zero : t.0 ≡ 0 = same_equal A.p t.0 0 d_is.canonical.1 (positive A ok) z in omega (arith, d_is.canonical.0, zero)

  monic_some : (f : Polynomial) → leading_coefficient f ≡ 1 → f ≢ []
  monic_some [] one = absurd (omega (arith, one))
  monic_some (t ∷ f) one = λ none. cc

  -- a term of an element that is not its first has no monomial that leads a polynomial in I
  no_own : (K : List Polynomial) → IsReducedBasis A I K → (f : Polynomial) → IsOneOf f K → (w : ℕ × Monomial) → IsOneOf w f → (d : Polynomial) → I d → d ≢ [] → w.1 ≡ leading_monomial d
      → (leading_monomial d ≡ leading_monomial f → ⊥) → ⊥
  no_own K k [] m w mw d id some e apart = mw
  no_own K k (u ∷ r) m w mw d id some e apart =
      let g : (g : Polynomial) × IsOneOf g K × (lead_divides g (leading_monomial d) ≡ true) = k.divided d id some in
      let same : u ∷ r ≡ g.0 = each_one (λ t. lead_divides g.0 t.1 ≡ true → u ∷ r ≡ g.0) w (u ∷ r) (k.apart (u ∷ r) g.0 m g.1) mw (ap (lead_divides g.0) e ∙ g.2) in
      let dv : divides u.1 w.1 ≡ true = ap (λ f. lead_divides f w.1) same ∙ ap (lead_divides g.0) e ∙ g.2 in
      by dv (is (u ∷ r) (each_one I (u ∷ r) K k.inside m)) mw
    where
      by : divides u.1 w.1 ≡ true → IsPolynomial A.p A.order (u ∷ r) → IsOneOf w (u ∷ r) → ⊥
      by dv f_is (inl here) = apart (sym e ∙ ap (λ (t : ℕ × Monomial). t.1) (sym here))
      by dv f_is (inr later) =
          let below : order A w.1 u.1 ≡ Less = each_one (λ t. order A t.1 u.1 ≡ Less) w r (rest_below A u r f_is.canonical.3 f_is.canonical.2) later in
          let len : length w.1 ≡ A.order.vars = each_one (λ t. length t.1 ≡ A.order.vars) w r f_is.vars.1 later in
          divisor_not_above A well u.1 w.1 f_is.vars.0 len dv below

  module _ (F H : List Polynomial) (a : IsReducedBasis A I F) (b : IsReducedBasis A I H) where
    -- two elements with the same leading monomial
    equal : (f g : Polynomial) → IsOneOf f F → IsOneOf g H → leading_monomial f ≡ leading_monomial g → f ≡ g
    equal f g mf mg same = by (sub A ok f g) refl
      where
        f_in : I f
        f_in = each_one I f F a.inside mf

        g_in : I g
        g_in = each_one I g H b.inside mg

        f_one : leading_coefficient f ≡ 1
        f_one = each_one (λ f. leading_coefficient f ≡ 1) f F a.monic mf

        g_one : leading_coefficient g ≡ 1
        g_one = each_one (λ f. leading_coefficient f ≡ 1) g H b.monic mg

        by : (d : Polynomial) → sub A ok f g ≡ d → f ≡ g
        by [] e =
            same_weights A f g (is f f_in) (is g g_in)
            (λ φ. same_minus A.p (weigh φ f) (weigh φ g) (positive A ok) (sym (weigh-sub A ok φ f g) ∙ same_refl A.p _ _ (ap (weigh φ) e)))
        by (t ∷ d) e =
            let d_in : I (t ∷ d) = subst I e (minus f g f_in g_in) in
            let some : sub A ok f g ≢ [] = λ none. (let no : t ∷ d ≡ [] = sym e ∙ none in cc) in
            let apart : t.1 ≡ leading_monomial f → ⊥ =
            λ at. leads_gone f g (is f f_in) (is g g_in) f_one g_one (monic_some f f_one) (monic_some g g_one) same some (ap leading_monomial e ∙ at) in
            let key : Either f g t.1 = (subst (EachKey (Either f g)) e (sub-keys f g)).0 in
            absurd (⊎_elim
            (λ x. no_own F a f mf x.0 x.1 (t ∷ d) d_in (λ none. cc) x.2 apart)
            (λ x. no_own H b g mg x.0 x.1 (t ∷ d) d_in (λ none. cc) x.2 (λ at. apart (at ∙ sym same))) key)

    -- each element of F is one of H
    twin : (f : Polynomial) → IsOneOf f F → IsOneOf f H
    twin f m =
        let f_in : I f = each_one I f F a.inside m in
        let f_some : f ≢ [] = monic_some f (each_one (λ f. leading_coefficient f ≡ 1) f F a.monic m) in
        let g : (g : Polynomial) × IsOneOf g H × (lead_divides g (leading_monomial f) ≡ true) = b.divided f f_in f_some in
        let g_in : I g.0 = each_one I g.0 H b.inside g.1 in
        let g_some : g.0 ≢ [] = lead_divides-nonzero g.0 (leading_monomial f) g.2 in
        let k : (k : Polynomial) × IsOneOf k F × (lead_divides k (leading_monomial g.0) ≡ true) = a.divided g.0 g_in g_some in
        let k_in : I k.0 = each_one I k.0 F a.inside k.1 in
        let k_some : k.0 ≢ [] = lead_divides-nonzero k.0 (leading_monomial g.0) k.2 in
        let len : (f : Polynomial) → I f → f ≢ [] → length (leading_monomial f) ≡ A.order.vars = λ f i some. length-leading_monomial A.order.vars f (is f i).vars some in
        let lf : length (leading_monomial f) ≡ A.order.vars = len f f_in f_some in
        let lg : length (leading_monomial g.0) ≡ A.order.vars = len g.0 g_in g_some in
        let lk : length (leading_monomial k.0) ≡ A.order.vars = len k.0 k_in k_some in
        let g_f : divides (leading_monomial g.0) (leading_monomial f) ≡ true = lead_divides-divides g.0 (leading_monomial f) g.2 in
        let k_g : divides (leading_monomial k.0) (leading_monomial g.0) ≡ true = lead_divides-divides k.0 (leading_monomial g.0) k.2 in
        let k_f : divides (leading_monomial k.0) (leading_monomial f) ≡ true = divides-trans (leading_monomial k.0) (leading_monomial g.0) (leading_monomial f) (lk ∙ sym lg) k_g g_f in
        let f_k : f ≡ k.0 = first f f_some (a.apart f k.0 m k.1) (lead_divides-is k.0 (leading_monomial f) k_some k_f) in
        let f_g : divides (leading_monomial f) (leading_monomial g.0) ≡ true = ap (λ h. divides (leading_monomial h) (leading_monomial g.0)) f_k ∙ k_g in
        let same : leading_monomial f ≡ leading_monomial g.0 = divides-antisym (leading_monomial f) (leading_monomial g.0) (lf ∙ sym lg) f_g g_f in
        subst (λ h. IsOneOf h H) (sym (equal f g.0 m g.1 same)) g.1
      where
        first : {k : Polynomial} (f : Polynomial) → f ≢ [] → Each (λ t. lead_divides k t.1 ≡ true → f ≡ k) f → lead_divides k (leading_monomial f) ≡ true → f ≡ k
        first [] some h d = absurd (some refl)
        first (t ∷ f) some h d = h.0 d

  -- a reduced basis depends on the set alone
  pub reduced_unique : (F H : List Polynomial) → IsReducedBasis A I F → IsReducedBasis A I H → F ≡ H
  reduced_unique F H a b = same_rising A F H a.ascends b.ascends (twin F H a b) (twin H F b a)
