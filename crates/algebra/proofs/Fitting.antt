-- What the terms of an algebra's polynomials are, one after another.
use Rattle.std.proofs.Common.{◌≡◌, ◌↔◌, ℕ, zero, suc, ◌+◌, ◌-◌, ◌<◌, ◌≤◌, List, [], ◌∷◌, length, get_or, drop, sym, ap, ◌∙◌, subst, arith, ℤ}
use Rattle.std.proofs.Common.{Greater}
use Rattle.std.proofs.lemmas.List.{drop_more, drop_all}
use Rattle.monomials.specs.Orders.{RowOrder, order_cmp}
use Rattle.monomials.specs.Polynomials.{Polynomial, Each, HasNumbers, HasVars, IsCanonical, IsPolynomial}
use Rattle.monomials.proofs.Operations.{HasNumbers-canonical}
use Rattle.gpoly.specs.declared.Term.{Term}
use Rattle.gpoly.specs.Terms.{pairs_of, IsTermList}
use Rattle.algebra.specs.Inside.Falling.{IsStrictlyFalling}

-- the numbers are below p, and the monomials in n variables
abbrev pub AreTerms : ℕ → ℕ → List Term → Type 0
AreTerms p n ts = HasNumbers p (pairs_of ts) × HasVars n (pairs_of ts)

-- each monomial is above the next
abbrev pub AreFalling : List (List ℤ) → List Term → Type 0
AreFalling rows ts = IsStrictlyFalling (order_cmp rows) (pairs_of ts)

module _ (p n : ℕ) (ts : List Term) (i : ℕ) (t : Term) (inside : i < length ts) (is : t ≡ get_or ts i t) where
  split : drop i ts ≡ t ∷ drop (i + 1) ts
  split = drop_more ts i t inside ∙ ap (λ u. u ∷ drop (i + 1) ts) (sym is)

  -- the next of them
  pub terms_here : AreTerms p n (drop i ts) → (t.coef < p) × (length t.mono ≡ n)
  terms_here h = let r : AreTerms p n (t ∷ drop (i + 1) ts) = subst (AreTerms p n) split h in (r.0.0, r.1.0)

  -- and those behind it
  pub terms_next : t.coef < p → length t.mono ≡ n → AreTerms p n (drop i ts) ↔ AreTerms p n (drop (i + 1) ts)
  terms_next less vars = (
    λ h. (let r : AreTerms p n (t ∷ drop (i + 1) ts) = subst (AreTerms p n) split h in (r.0.1, r.1.1)),
    λ h. subst (AreTerms p n) (sym split) ((less, h.0), (vars, h.1)),
  )

-- none is left
pub terms_end : (p n : ℕ) (ts : List Term) (i : ℕ) → length ts ≤ i → AreTerms p n (drop i ts)
terms_end p n ts i past = subst (AreTerms p n) (sym (drop_all i ts past)) (tt, tt)

-- two terms that stand side by side, and those behind them
module _ (rows : List (List ℤ)) (ts : List Term) (i : ℕ) (d e : Term) (some : 1 ≤ i) (inside : i < length ts) where
  pair : drop (i - 1) ts ≡ get_or ts (i - 1) d ∷ get_or ts i e ∷ drop (i + 1) ts
  pair =
      let next : i - 1 + 1 ≡ i = omega arith in
      drop_more ts (i - 1) d (omega arith)
      ∙ ap (λ us. get_or ts (i - 1) d ∷ us) (ap (λ k. drop k ts) next ∙ drop_more ts i e inside)

  behind : drop i ts ≡ get_or ts i e ∷ drop (i + 1) ts
  behind = drop_more ts i e inside

  pub falling_here : AreFalling rows (drop (i - 1) ts) → order_cmp rows (get_or ts (i - 1) d).mono (get_or ts i e).mono ≡ Greater
  falling_here h =
      let r : AreFalling rows (get_or ts (i - 1) d ∷ get_or ts i e ∷ drop (i + 1) ts) = subst (AreFalling rows) pair h in r.0

  pub falling_next : order_cmp rows (get_or ts (i - 1) d).mono (get_or ts i e).mono ≡ Greater →
      AreFalling rows (drop (i - 1) ts) ↔ AreFalling rows (drop (i + 1 - 1) ts)
  falling_next above =
      let k : i + 1 - 1 ≡ i = omega arith in
      rw k (
        λ h.
            let r : AreFalling rows (get_or ts (i - 1) d ∷ get_or ts i e ∷ drop (i + 1) ts) = subst (AreFalling rows) pair h in
            subst (AreFalling rows) (sym behind) r.1,
        λ h.
            let r : AreFalling rows (get_or ts i e ∷ drop (i + 1) ts) = subst (AreFalling rows) behind h in
            subst (AreFalling rows) (sym pair) (above, r),
      )

at_most_one : (rows : List (List ℤ)) (ts : List Term) (j : ℕ) → length ts ≤ suc j → AreFalling rows (drop j ts)
at_most_one rows [] j past = subst (AreFalling rows) (sym (drop_all j [] (omega arith))) tt
at_most_one rows (t ∷ []) zero past = (tt, tt)
at_most_one rows (t ∷ (u ∷ ts)) zero past = absurd (omega arith)
at_most_one rows (t ∷ ts) (suc j) past = at_most_one rows ts j (omega arith)

-- at most one term is left
pub falling_end : (rows : List (List ℤ)) (ts : List Term) (i : ℕ) → length ts ≤ i → AreFalling rows (drop (i - 1) ts)
falling_end rows ts i past = at_most_one rows ts (i - 1) (omega arith)

-- ---- what a polynomial of an algebra is

falls_canonical : (rows : List (List ℤ)) (p : ℕ) (f : Polynomial) → Each (λ t. 0 < t.0) f → HasNumbers p f → IsStrictlyFalling (order_cmp rows) f
    → IsCanonical (order_cmp rows) p f
falls_canonical rows p [] nonzero numbers falls = tt
falls_canonical rows p (t ∷ f) nonzero numbers falls =
    (nonzero.0, numbers.0, falls.0, falls_canonical rows p f nonzero.1 numbers.1 falls.1)

canonical_falls : (rows : List (List ℤ)) (p : ℕ) (f : Polynomial) → IsCanonical (order_cmp rows) p f → IsStrictlyFalling (order_cmp rows) f
canonical_falls rows p [] h = tt
canonical_falls rows p (t ∷ f) h = (h.2, canonical_falls rows p f h.3)

-- numbers, variables and falling monomials
pub fits_is : (p : ℕ) (order : RowOrder) (f : Polynomial) → IsTermList f →
    ((HasNumbers p f × HasVars order.vars f) × IsStrictlyFalling (order_cmp order.rows) f) ↔ IsPolynomial p order f
fits_is p order f terms = (
  λ h. record { canonical = falls_canonical order.rows p f terms.nonzero h.0.0 h.1; vars = h.0.1 },
  λ h. ((HasNumbers-canonical (order_cmp order.rows) p f h.canonical, h.vars), canonical_falls order.rows p f h.canonical),
)

-- the same of terms that are those of the polynomial
pub fits_by : (p q n : ℕ) (order o : RowOrder) (f g : Polynomial) → q ≡ p → n ≡ order.vars → o ≡ order → g ≡ f → IsTermList f →
    ((HasNumbers q g × HasVars n g) × IsStrictlyFalling (order_cmp o.rows) g) ↔ IsPolynomial p order f
fits_by p q n order o f g eq en eo eg terms =
    subst (λ q. ((HasNumbers q g × HasVars n g) × IsStrictlyFalling (order_cmp o.rows) g) ↔ IsPolynomial p order f) (sym eq)
    (subst (λ n. ((HasNumbers p g × HasVars n g) × IsStrictlyFalling (order_cmp o.rows) g) ↔ IsPolynomial p order f) (sym en)
    (subst (λ (o : RowOrder). ((HasNumbers p g × HasVars order.vars g) × IsStrictlyFalling (order_cmp o.rows) g) ↔ IsPolynomial p order f) (sym eo)
    (subst (λ (g : Polynomial). ((HasNumbers p g × HasVars order.vars g) × IsStrictlyFalling (order_cmp order.rows) g) ↔ IsPolynomial p order f) (sym eg)
    (fits_is p order f terms))))
