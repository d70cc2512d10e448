-- The kind of a relation whose polynomial is a multiple of x_i, and lists of no term and of one.
use Rattle.std.proofs.Common.{◌≡◌, ◌≢◌, ℕ, ◌<◌, ◌≤◌, ◌↔◌, List, [], ◌∷◌, length, get_or, Some, refl, sym, ap, ◌∙◌, subst, arith}
use Rattle.monomials.specs.Monomials.{Monomial, one, variable}
use Rattle.monomials.specs.Polynomials.{Polynomial}
use Rattle.word_model.specs.Words.{sorted_word}
use Rattle.word_model.proofs.Letters.{sorted_word-variable, word_from-zeros}
use Rattle.closed_forms.specs.declared.PairKind.{PairKind}
use Rattle.closed_forms.specs.declared.PairKind.TheVariants.{Commuting, Quasi, Weyl, QWeyl, LeftLinear, RightLinear}
use Rattle.closed_forms.specs.Kinds.{IsOfKind}

-- a list without elements
pub no_element : {X : Type 0} (xs : List X) → length xs < 1 → xs ≡ []
no_element [] h = refl
no_element (x ∷ xs) h = absurd (omega arith)

-- a list of one element
pub one_element : {X : Type 0} (xs : List X) (x : X) → 1 ≤ length xs → length xs < 2 → x ≡ get_or xs 0 x → xs ≡ x ∷ []
one_element [] x low high is = absurd (omega arith)
one_element (y ∷ []) x low high is = ap (λ z. z ∷ []) (sym is)
one_element (y ∷ z ∷ xs) x low high is = absurd (omega arith)

-- one term
abbrev single : ℕ → Monomial → Polynomial
single e m = (e, m) ∷ []

-- the number of the first term
abbrev first_number : Polynomial → ℕ
first_number [] = 0
first_number (t ∷ f) = t.0

-- the monomial of the first term
abbrev first_monomial : Polynomial → Monomial
first_monomial [] = []
first_monomial (t ∷ f) = t.1

-- the monomial 1 is no variable
one_not_variable : (n v : ℕ) → 1 ≤ v → one n ≡ variable n v → ⊥
one_not_variable n v low e =
    let word : [] ≡ v ∷ [] = sym (word_from-zeros 1 n) ∙ ap sorted_word e ∙ sorted_word-variable n v low in
    cc

-- variables differ
variables_differ : (n v w : ℕ) → 1 ≤ v → v < w → variable n v ≡ variable n w → ⊥
variables_differ n v w low less e =
    let word : v ∷ [] ≡ w ∷ [] = sym (sorted_word-variable n v low) ∙ ap sorted_word e ∙ sorted_word-variable n w (omega arith) in
    let same : v ≡ w = cc in
    absurd (omega arith)

module _ (p n i j : ℕ) (low : 1 ≤ i) (ij : i < j) (e : ℕ) (m : Monomial) where
  not_empty : single e m ≡ [] → ⊥
  not_empty is = cc

  number_is : (k : ℕ) (l : Monomial) → single e m ≡ single k l → e ≡ k
  number_is k l is = ap first_number is

  monomial_is : (k : ℕ) (l : Monomial) → single e m ≡ single k l → m ≡ l
  monomial_is k l is = ap first_monomial is

  only_left : m ≡ variable n i → (kind : PairKind) → IsOfKind p n i j kind 1 (single e m) → Some (LeftLinear e) ≡ Some kind
  only_left is Commuting h = absurd (not_empty h.polynomial)
  only_left is (Quasi q) h = absurd (not_empty h.polynomial)
  only_left is (Weyl delta) h = absurd (one_not_variable n i low (sym (monomial_is delta (one n) h.polynomial) ∙ is))
  only_left is (QWeyl q delta) h = absurd (h.proper.1 (sym h.number))
  only_left is (LeftLinear alpha) h = ap (λ r. Some (LeftLinear r)) (number_is alpha (variable n i) h.polynomial)
  only_left is (RightLinear beta) h = absurd (variables_differ n i j low ij (sym is ∙ monomial_is beta (variable n j) h.polynomial))

  is_left : m ≡ variable n i → e ≢ 0 → e < p → (kind : PairKind) → Some (LeftLinear e) ≡ Some kind → IsOfKind p n i j kind 1 (single e m)
  is_left is nonzero below kind found =
      let same : LeftLinear e ≡ kind = cc in
      let own : IsOfKind p n i j (LeftLinear e) 1 (single e m) = record { proper = (nonzero, below); number = refl; polynomial = ap (single e) is } in
      subst (λ k. IsOfKind p n i j k 1 (single e m)) same own

  -- y x = x y + e x is of the kind LeftLinear, and of no other
  pub left_kind : m ≡ variable n i → e ≢ 0 → e < p → (kind : PairKind) → (Some (LeftLinear e) ≡ Some kind) ↔ IsOfKind p n i j kind 1 (single e m)
  left_kind is nonzero below kind = (is_left is nonzero below kind, only_left is kind)
