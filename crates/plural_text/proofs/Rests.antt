-- Texts of terms in a row are read as them.
use Rattle.std.proofs.Common.{◌≡◌, ◌≢◌, ℕ, ◌<◌, ◌≤◌, ◌^◌, ◌==◌, max, not, List, [], ◌∷◌, ◌++◌, codes, length, take, drop, true, Option, Some, None, refl, sym, ◌∙◌, ap, subst, arith, inl, inr, append_assoc}
use Rattle.std.specs.List.{list_all, position_or_len}
use Rattle.std.proofs.lemmas.Bool.{cases_Bool}
use Rattle.std.proofs.lemmas.List.{append-nil, take_at, drop_at, length-append}
use Rattle.std.specs.declared.cmp.Ordering.{Ordering}
use Rattle.monomials.specs.Monomials.{Monomial, degree, one}
use Rattle.monomials.specs.Orders.{RowOrder, order_cmp}
use Rattle.monomials.specs.Polynomials.{Polynomial, Each, HasVars, IsCanonical, IsPolynomial, poly_degree, from_terms}
use Rattle.monomials.proofs.OrderLaws.{order_cmp_total, order_cmp_tied}
use Rattle.monomials.proofs.Canonical.{from_terms-canonical}
use Rattle.word_model.specs.Texts.{term_text, with_sign, later_texts, polynomial_text}
use Rattle.plural_text.specs.Names.{AreNames}
use Rattle.plural_text.specs.Spelling.{Spells}
use Rattle.plural_text.specs.Readings.{is_sign, first_len, read_term, PolyTerm}
use Rattle.plural_text.proofs.Characters.{none_found, found_behind}
use Rattle.plural_text.proofs.Terms.{ReadsAs, IsTerm, zero_reads, term_reads}

-- the terms of a polynomial of degree at most 4095
are_terms : (p n : ℕ) (cmp : Monomial → Monomial → Ordering) (f : Polynomial) → IsCanonical cmp p f → HasVars n f → poly_degree f ≤ 4095
    → Each (IsTerm p n) f
are_terms p n cmp [] canonical vars small = tt
are_terms p n cmp (t ∷ f) canonical vars small =
    let both : max (degree t.1) (poly_degree f) ≤ 4095 = small in (
      record { nonzero = canonical.0; below = canonical.1; vars = vars.0; small = omega arith },
      are_terms p n cmp f canonical.3 vars.1 (omega arith),
    )

pub spelled_terms : (p : ℕ) (order : RowOrder) (names : List (List ℕ)) (bytes : List ℕ) (f : Polynomial) → Spells p order names bytes f
    → Each (IsTerm p order.vars) f
spelled_terms p order names bytes f h = are_terms p order.vars (order_cmp order.rows) f h.polynomial.canonical h.polynomial.vars h.degree

-- a later term begins with a sign
sign_first : (text : List ℕ) → (b : ℕ) × (behind : List ℕ) × (with_sign text ≡ b ∷ behind) × (is_sign b ≡ true)
sign_first [] = (43, [], refl, refl)
sign_first (b ∷ text) =
    elim (cases_Bool (b == 45)) [
      | inl minus ↦ (b, text, rw minus refl, rw minus (elim (cases_Bool (b == 43)) [ inl plus ↦ rw plus refl | inr other ↦ rw other refl ]))
      | inr other ↦ (43, b ∷ text, rw other refl, refl)
    ]

module _ (p : ℕ) (names : List (List ℕ)) where
  -- What is left of a text where these terms are left: a text of the first of them, and the later ones.
  pub record IsRestOf (rest : List ℕ) (t : PolyTerm) (f : Polynomial) : Type 0 where
    pub text : List ℕ
    pub reads : ReadsAs p names text t
    pub whole : rest ≡ text ++ later_texts p names f

  -- the same, also where no term is left
  abbrev pub IsRest : List ℕ → Polynomial → Type 0
  IsRest rest [] = rest ≡ []
  IsRest rest (t ∷ f) = IsRestOf rest t f

  -- the first term ends where the later ones begin
  first_ends : (text : List ℕ) (f : Polynomial) → list_all (λ b. not (is_sign b)) text ≡ true
      → position_or_len is_sign (text ++ later_texts p names f) ≡ length text
  first_ends text [] h = ap (position_or_len is_sign) (append-nil text) ∙ none_found is_sign text h
  first_ends text (t ∷ f) h =
      let sign = sign_first (term_text p names t) in
      ap (λ later. position_or_len is_sign (text ++ (later ++ later_texts p names f))) sign.2
      ∙ found_behind is_sign text sign.0 (sign.1 ++ later_texts p names f) h sign.3

  first_len_is : (text : List ℕ) (f : Polynomial) → 1 ≤ length text → list_all (λ b. not (is_sign b)) (drop 1 text) ≡ true
      → first_len (text ++ later_texts p names f) ≡ length text
  first_len_is [] f some h = absurd (omega arith)
  first_len_is (b ∷ text) f some h = omega (arith, first_ends text f h)

  module _ (are : AreNames (length names) names) (fits : p < 2 ^ 64) where
    -- the later terms are a rest
    later_rest : (f : Polynomial) → Each (IsTerm p (length names)) f → IsRest (later_texts p names f) f
    later_rest [] h = refl
    later_rest (t ∷ f) h = record { text = with_sign (term_text p names t); reads = (term_reads p names are fits t h.0).1; whole = refl }

    -- all terms are a rest
    pub whole_rest : (t : PolyTerm) (f : Polynomial) → IsTerm p (length names) t → IsRest (polynomial_text p names (t ∷ f)) (t ∷ f)
    whole_rest t f h = record { text = term_text p names t; reads = (term_reads p names are fits t h).0; whole = refl }

    -- the first of the terms left is read, and leaves the others
    pub record StepsTo (rest : List ℕ) (t : PolyTerm) (f : Polynomial) : Type 0 where
      pub some : 1 ≤ length rest
      pub read : read_term p names (take (first_len rest) rest) ≡ Some t
      pub others : IsRest (drop (first_len rest) rest) f

    pub next_rest : (rest : List ℕ) (t : PolyTerm) (f : Polynomial) → IsRest rest (t ∷ f) → Each (IsTerm p (length names)) f → StepsTo rest t f
    next_rest rest t f h terms =
        let later : List ℕ = later_texts p names f in
        let size : first_len rest ≡ length h.text = ap first_len h.whole ∙ first_len_is h.text f h.reads.some h.reads.unsigned in
        let front : take (first_len rest) rest ≡ h.text =
        ap (λ n. take n rest) size ∙ (ap (take (length h.text)) h.whole ∙ take_at h.text later (length h.text) refl) in
        let behind : drop (first_len rest) rest ≡ later =
        ap (λ n. drop n rest) size ∙ (ap (drop (length h.text)) h.whole ∙ drop_at h.text later (length h.text) refl) in
        record {
          some = subst (λ bytes. 1 ≤ length bytes) (sym h.whole) (omega (arith, h.reads.some, length-append h.text later));
          read = ap (read_term p names) front ∙ h.reads.read;
          others = subst (λ bytes. IsRest bytes f) (sym behind) (later_rest f terms);
        }

    -- terms with one text are the same
    one_rest : (f g : Polynomial) (rest : List ℕ) → Each (IsTerm p (length names)) f → Each (IsTerm p (length names)) g
        → IsRest rest f → IsRest rest g → f ≡ g
    one_rest [] [] rest hf hg rf rg = refl
    one_rest [] (u ∷ g) rest hf hg rf rg = absurd (omega (arith, (next_rest rest u g rg hg.1).some, ap length rf))
    one_rest (t ∷ f) [] rest hf hg rf rg = absurd (omega (arith, (next_rest rest t f rf hf.1).some, ap length rg))
    one_rest (t ∷ f) (u ∷ g) rest hf hg rf rg =
        let first = next_rest rest t f rf hf.1 in
        let other = next_rest rest u g rg hg.1 in
        let heads : ◌≡◌ {A = Option PolyTerm} (Some t) (Some u) = sym first.read ∙ other.read in
        let tails = one_rest f g (drop (first_len rest) rest) hf.1 hg.1 first.others other.others in cc

    -- 0 is the text of no nonzero polynomial
    zero_alone : 0 < p → (t : PolyTerm) (f : Polynomial) → Each (IsTerm p (length names)) (t ∷ f) → polynomial_text p names (t ∷ f) ≡ codes "0" → ⊥
    zero_alone some t f h same =
        let zero_term : PolyTerm = (0, one (length names)) in
        let rest : IsRest (codes "0") (zero_term ∷ []) = record { text = codes "0"; reads = zero_reads p names are fits some; whole = refl } in
        let first = next_rest (codes "0") zero_term [] rest tt in
        let other = next_rest (codes "0") t f (subst (λ bytes. IsRest bytes (t ∷ f)) same (whole_rest t f h.0)) h.1 in
        let heads : ◌≡◌ {A = Option PolyTerm} (Some zero_term) (Some t) = sym first.read ∙ other.read in
        let terms : zero_term ≡ t = cc in
        let number : 0 ≡ t.0 = ap (λ (z : PolyTerm). z.0) terms in omega (arith, h.0.nonzero)

    -- one text, one polynomial
    pub one_polynomial : 0 < p → (f g : Polynomial) → Each (IsTerm p (length names)) f → Each (IsTerm p (length names)) g
        → polynomial_text p names f ≡ polynomial_text p names g → f ≡ g
    one_polynomial some [] [] hf hg same = refl
    one_polynomial some [] (u ∷ g) hf hg same = absurd (zero_alone some u g hg (sym same))
    one_polynomial some (t ∷ f) [] hf hg same = absurd (zero_alone some t f hf same)
    one_polynomial some (t ∷ f) (u ∷ g) hf hg same =
        one_rest (t ∷ f) (u ∷ g) (polynomial_text p names (t ∷ f)) hf hg (whole_rest t f hf.0)
        (subst (λ bytes. IsRest bytes (u ∷ g)) (sym same) (whole_rest u g hg.0))

-- the law of `texts_decide`
pub spelled_once : (p : ℕ) (order : RowOrder) (names : List (List ℕ)) (bytes : List ℕ) (f g : Polynomial) → 0 < p → p < 2 ^ 64
    → AreNames order.vars names → Spells p order names bytes f → Spells p order names bytes g → f ≡ g
spelled_once p order names bytes f g some fits are hf hg =
    let same : AreNames (length names) names = subst (λ n. AreNames n names) (sym are.count) are in
    one_polynomial p names same fits some f g
    (subst (λ n. Each (IsTerm p n) f) (sym are.count) (spelled_terms p order names bytes f hf))
    (subst (λ n. Each (IsTerm p n) g) (sym are.count) (spelled_terms p order names bytes g hg)) (hf.text ∙ sym hg.text)

-- ---- a text that is read term by term

-- A text of a polynomial other than 0, of which the terms `done` are read and `rest` is left.
abbrev pub IsReading : ℕ → RowOrder → List (List ℕ) → List ℕ → Polynomial → List ℕ → Type 0
IsReading p order names bytes done rest =
    (f : Polynomial) → Spells p order names bytes f → f ≢ [] → (g : Polynomial) × (f ≡ done ++ g) × IsRest p names rest g

module _ (p : ℕ) (order : RowOrder) (names : List (List ℕ)) (fits : p < 2 ^ 64) (named : AreNames order.vars names) where
  are_names : AreNames (length names) names
  are_names = subst (λ n. AreNames n names) (sym named.count) named

  terms_of : (bytes : List ℕ) (f : Polynomial) → Spells p order names bytes f → Each (IsTerm p (length names)) f
  terms_of bytes f h = subst (λ n. Each (IsTerm p n) f) (sym named.count) (spelled_terms p order names bytes f h)

  -- nothing is read yet
  begins_by : (bytes : List ℕ) (f : Polynomial) → Each (IsTerm p (length names)) f → polynomial_text p names f ≡ bytes → f ≢ []
      → IsRest p names bytes f
  begins_by bytes [] terms text some = absurd (some refl)
  begins_by bytes (t ∷ f) terms text some =
      subst (λ z. IsRest p names z (t ∷ f)) text (whole_rest p names are_names fits t f terms.0)

  pub reading_begins : (bytes : List ℕ) → IsReading p order names bytes [] bytes
  reading_begins bytes f h some = (f, refl, begins_by bytes f (terms_of bytes f h) h.text some)

  -- the terms behind others
  later_terms : (done g : Polynomial) → Each (IsTerm p (length names)) (done ++ g) → Each (IsTerm p (length names)) g
  later_terms [] g h = h
  later_terms (t ∷ done) g h = later_terms done g h.1

  -- the first of the terms left, by the rest of the text
  goes_on : (rest : List ℕ) (g : Polynomial) → 1 ≤ length rest → IsRest p names rest g → Each (IsTerm p (length names)) g
      → (t : PolyTerm) × (later : Polynomial) × (g ≡ t ∷ later) × (StepsTo p names are_names fits rest t later)
  goes_on rest [] some left terms = absurd (omega (arith, ap length left))
  goes_on rest (t ∷ g) some left terms = (t, g, refl, next_rest p names are_names fits rest t g left terms.1)

  -- one more term is read
  pub reading_goes_on : (bytes rest : List ℕ) (done : Polynomial) (t : PolyTerm) → 1 ≤ length rest
      → read_term p names (take (first_len rest) rest) ≡ Some t → IsReading p order names bytes done rest
      → IsReading p order names bytes (done ++ t ∷ []) (drop (first_len rest) rest)
  reading_goes_on bytes rest done t some read reading f h nonzero =
      let left = reading f h nonzero in
      let terms : Each (IsTerm p (length names)) left.0 =
      later_terms done left.0 (subst (λ z. Each (IsTerm p (length names)) z) left.1 (terms_of bytes f h)) in
      let next = goes_on rest left.0 some left.2 terms in
      let heads : ◌≡◌ {A = Option PolyTerm} (Some next.0) (Some t) = sym next.3.read ∙ read in
      let same : next.0 ≡ t = cc in (
        next.1,
        left.1 ∙ (ap (λ z. done ++ z) (next.2 ∙ ap (λ (u : PolyTerm). u ∷ next.1) same) ∙ sym (append_assoc done (t ∷ []) next.1)),
        next.3.others,
      )

  -- where no term is read, the text is of no polynomial other than 0
  nothing_left : (bytes rest : List ℕ) (done f : Polynomial) → 1 ≤ length rest → read_term p names (take (first_len rest) rest) ≡ None
      → IsReading p order names bytes done rest → Spells p order names bytes f → f ≢ [] → ⊥
  nothing_left bytes rest done f some unread reading h nonzero =
      let left = reading f h nonzero in
      let terms : Each (IsTerm p (length names)) left.0 =
      later_terms done left.0 (subst (λ z. Each (IsTerm p (length names)) z) left.1 (terms_of bytes f h)) in
      let next = goes_on rest left.0 some left.2 terms in
      let heads : ◌≡◌ {A = Option PolyTerm} (Some next.0) None = sym next.3.read ∙ unread in cc

  pub reading_stops : (bytes rest : List ℕ) (done f : Polynomial) → 1 ≤ length rest → read_term p names (take (first_len rest) rest) ≡ None
      → IsReading p order names bytes done rest → Spells p order names bytes f → f ≡ []
  reading_stops bytes rest done [] some unread reading h = refl
  reading_stops bytes rest done (t ∷ f) some unread reading h =
      absurd (nothing_left bytes rest done (t ∷ f) some unread reading h (λ e. cc))

  -- where nothing is left, all terms are read
  all_read : (done f g : Polynomial) → f ≡ done ++ g → IsRest p names [] g → Each (IsTerm p (length names)) g → done ≡ f
  all_read done f [] whole left terms = sym (whole ∙ append-nil done)
  all_read done f (t ∷ g) whole left terms = absurd (omega (arith, (next_rest p names are_names fits [] t g left terms.1).some))

  pub reading_ends : (bytes : List ℕ) (done f : Polynomial) → IsReading p order names bytes done [] → Spells p order names bytes f → f ≢ []
      → done ≡ f
  reading_ends bytes done f reading h nonzero =
      let left = reading f h nonzero in
      all_read done f left.0 left.1 left.2
      (later_terms done left.0 (subst (λ z. Each (IsTerm p (length names)) z) left.1 (terms_of bytes f h)))

-- the polynomial with the terms of a canonical one is that one
spelled_sorted : (p : ℕ) (order : RowOrder) (f : Polynomial) → IsPolynomial p order f → from_terms (order_cmp order.rows) p f ≡ f
spelled_sorted p order [] h = refl
spelled_sorted p order (t ∷ f) h =
    from_terms-canonical (order_cmp order.rows) (order_cmp_total order.rows) (order_cmp_tied order.rows) p (omega (arith, h.canonical.1)) (t ∷ f)
    h.canonical

pub spelled_from_terms : (p q : ℕ) (order sorting : RowOrder) (names : List (List ℕ)) (bytes : List ℕ) (f terms r : Polynomial) → q ≡ p
    → sorting ≡ order → Spells p order names bytes f → terms ≡ f → r ≡ from_terms (order_cmp sorting.rows) q terms → r ≡ f
spelled_from_terms p q order sorting names bytes f terms r same_field same_order h same_terms is =
    is ∙ (ap (λ (z : Polynomial). from_terms (order_cmp sorting.rows) q z) same_terms
    ∙ (ap (λ (z : ℕ). from_terms (order_cmp sorting.rows) z f) same_field
    ∙ (ap (λ (z : RowOrder). from_terms (order_cmp z.rows) p f) same_order ∙ spelled_sorted p order f h.polynomial)))
