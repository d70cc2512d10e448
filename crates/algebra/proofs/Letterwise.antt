-- Products by letters, and by terms, as the program computes them.
use Rattle.std.proofs.Common.{◌≡◌, ℕ, zero, suc, ◌+◌, ◌*◌, ◌<◌, ◌≤◌, List, [], ◌∷◌, ◌++◌, length, get_or, take, drop, refl, sym, ap, ◌∙◌, arith, length-append}
use Rattle.std.proofs.lemmas.List.{map-append, take_more, drop_more}
use Rattle.monomials.specs.Monomials.{degree}
use Rattle.monomials.specs.Orders.{order_cmp}
use Rattle.monomials.specs.Polynomials.{Polynomial, Each, HasVars, poly_add, poly_scale, poly_degree}
use Rattle.monomials.proofs.Keys.{Each-append, EachKey-poly_scale}
use Rattle.gpoly.specs.declared.Term.{Term}
use Rattle.gpoly.specs.Terms.{pair_of, pairs_of}
use Rattle.word_model.specs.Words.{Algebra, Word, sorted_word, word_value, RewritesDown}
use Rattle.word_model.specs.Products.{product, variable_polynomial, times_letters, with_letter}
use Rattle.word_model.proofs.Letters.{Each-map, Each-both, IsWord-sorted_word, length-word_from}
use Rattle.word_model.proofs.NormalForms.{product-variable}
use Rattle.word_model.proofs.Degrees.{HasDegrees-poly_degree, poly_degree-le}
use Rattle.word_model.proofs.TermProducts.{poly_degree-variable, product-append}
use Rattle.algebra.specs.Inside.WordSums.{between, reduced}
use Rattle.algebra.proofs.OverlapSums.{IsFit, word_value-reduced}

-- the words of a polynomial with a letter behind them
pub letter_fits : (n v : ℕ) (f : Polynomial) → HasVars n f → poly_degree f < 4095 → 1 ≤ v → v ≤ n → Each (λ t. IsFit n t.1) (between 1 [] f (v ∷ []))
letter_fits n v f vars small low high =
    Each-map (λ t. IsFit n t.1) (λ t. (1 * t.0, sorted_word t.1 ++ v ∷ [])) f
    (Each-both _ (λ t. degree t.1 ≤ 4094) _ (λ t len deg. (
      Each-append _ (sorted_word t.1) (v ∷ []) (IsWord-sorted_word n t.1 len) ((low, high), tt),
      omega (arith, length-append (sorted_word t.1) (v ∷ []), length-word_from 1 t.1),
    )) f vars (HasDegrees-poly_degree f 4094 (omega arith)))

-- their value is the product with the variable
pub letter_value : (A : Algebra) → 1 < A.p → (f : Polynomial) (v : ℕ) → 1 ≤ v
    → word_value A (reduced A.p (between 1 [] f (v ∷ []))) ≡ product A f (variable_polynomial A v)
letter_value A above_one f v low =
    word_value-reduced A above_one (between 1 [] f (v ∷ [])) ∙ ap (word_value A) (once f) ∙ sym (product-variable A above_one f v low)
  where
    once : (f : Polynomial) → between 1 [] f (v ∷ []) ≡ with_letter v f
    once [] = refl
    once (t ∷ f) = let one : 1 * t.0 ≡ t.0 = omega arith in λ i. (one i, sorted_word t.1 ++ v ∷ []) ∷ once f i

-- a multiple has no greater degree
pub poly_degree-poly_scale : (p k : ℕ) (f : Polynomial) → poly_degree (poly_scale p k f) ≤ poly_degree f
poly_degree-poly_scale p k f =
    poly_degree-le (poly_scale p k f) (poly_degree f)
    (EachKey-poly_scale p (λ m. degree m ≤ poly_degree f) k f (HasDegrees-poly_degree f (poly_degree f) (omega arith)))

-- the degree of a term at an index
pub degree_at : (ts : List Term) (i : ℕ) (d : Term) → i < length ts → degree (get_or ts i d).mono ≤ poly_degree (pairs_of ts)
degree_at [] i d l = absurd (omega arith)
degree_at (t ∷ ts) zero d l = omega arith
degree_at (t ∷ ts) (suc i) d l = omega (arith, degree_at ts i d (omega arith))

-- the product with one term more
pub product_more : (A : Algebra) → 1 < A.p → (f : Polynomial) (ts : List Term) (i : ℕ) (t : Term) → i < length ts → t ≡ get_or ts i t
    → poly_add (order_cmp A.order.rows) A.p (product A f (pairs_of (take i ts))) (product A f (pair_of t ∷ [])) ≡ product A f (pairs_of (take (i + 1) ts))
product_more A above_one f ts i t inside is =
    let one_more : take (i + 1) ts ≡ take i ts ++ t ∷ [] = take_more ts i t inside ∙ ap (λ u. take i ts ++ u ∷ []) (sym is) in
    sym (ap (λ us. product A f (pairs_of us)) one_more ∙ ap (product A f) (map-append pair_of (take i ts) (t ∷ [])) ∙ product-append A above_one f (pairs_of (take i ts)) (pair_of t ∷ []))

-- the product with one letter more
pub letters_more : (A : Algebra) (f g : Polynomial) (w : Word) (i : ℕ) → i < length w → g ≡ product A f (variable_polynomial A (get_or w i 0))
    → times_letters A g (drop (i + 1) w) ≡ times_letters A f (drop i w)
letters_more A f g w i inside is =
    ap (λ h. times_letters A h (drop (i + 1) w)) is ∙ sym (ap (times_letters A f) (drop_more w i 0 inside))

-- it has at most one degree more, and one letter less is left
pub degree_more : (A : Algebra) → RewritesDown A → (f g : Polynomial) (w : Word) (i : ℕ) → i < length w → HasVars A.order.vars f
    → 1 ≤ get_or w i 0 → get_or w i 0 ≤ A.order.vars → g ≡ product A f (variable_polynomial A (get_or w i 0))
    → poly_degree f + length (drop i w) ≤ 4095 → poly_degree g + length (drop (i + 1) w) ≤ 4095
degree_more A downward f g w i inside vars low high is small =
    omega (arith, ap poly_degree is, poly_degree-variable A downward f (get_or w i 0) vars low high, ap length (drop_more w i 0 inside))
