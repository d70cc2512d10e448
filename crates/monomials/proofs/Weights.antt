-- The value of a polynomial where each key has a weight, and what the operations on polynomials do to it.
use Rattle.std.proofs.Common.{◌≡◌, ℕ, zero, suc, ◌+◌, ◌*◌, ◌%◌, List, [], ◌∷◌, ◌++◌, map, sum_by, refl, sym, ap, ◌∙◌, arith}
use Rattle.std.proofs.Common.{Ordering, Equal}
use Rattle.std.specs.List.Sorted.{IsPermutation}
use Rattle.std.proofs.lemmas.List.Sums.{sum_by-cons}
use Rattle.std.proofs.lemmas.List.Sorted.{sum_by-IsPermutation}
use Rattle.monomials.specs.Polynomials.{cons_nonzero, insert_term, from_terms, poly_add, poly_scale, sum_over, Each}
use Rattle.monomials.proofs.Modulo.{Same, same_refl, same_add, same_mul, same_mul_right, same_rest}
use Rattle.monomials.proofs.Insertion.{insert_term_cases}

-- the sum of c times the weight of k, over the terms c k
abbrev pub weigh : {K : Type 0} → (K → ℕ) → List (ℕ × K) → ℕ
weigh φ [] = 0
weigh φ (t ∷ f) = t.0 * φ t.1 + weigh φ f

-- a weight is additive in the list
pub weigh-append : {K : Type 0} (φ : K → ℕ) (f g : List (ℕ × K)) → weigh φ (f ++ g) ≡ weigh φ f + weigh φ g
weigh-append φ [] g = omega arith
weigh-append φ (t ∷ f) g = omega (arith, weigh-append φ f g)

-- a zero term weighs nothing
pub weigh-cons_nonzero : {K : Type 0} (φ : K → ℕ) (c : ℕ) (k : K) (f : List (ℕ × K))
    → weigh φ (cons_nonzero c k f) ≡ c * φ k + weigh φ f
weigh-cons_nonzero φ zero k f = omega arith
weigh-cons_nonzero φ (suc c) k f = refl

-- weights that are the same at each key
pub weigh_alike : {K : Type 0} (p : ℕ) (φ ψ : K → ℕ) → ((k : K) → Same p (φ k) (ψ k)) → (f : List (ℕ × K))
    → Same p (weigh φ f) (weigh ψ f)
weigh_alike p φ ψ alike [] = refl
weigh_alike p φ ψ alike (t ∷ f) = same_add p _ _ _ _ (same_mul p t.0 _ _ (alike t.1)) (weigh_alike p φ ψ alike f)

-- weights that are the same at the keys of the list
pub weigh_alike_on : {K : Type 0} (p : ℕ) (φ ψ : K → ℕ) (f : List (ℕ × K)) → Each (λ t. Same p (φ t.1) (ψ t.1)) f
    → Same p (weigh φ f) (weigh ψ f)
weigh_alike_on p φ ψ [] h = refl
weigh_alike_on p φ ψ (t ∷ f) h = same_add p _ _ _ _ (same_mul p t.0 _ _ h.0) (weigh_alike_on p φ ψ f h.1)

-- weights that are equal at each key
pub weigh_equal : {K : Type 0} (φ ψ : K → ℕ) → ((k : K) → φ k ≡ ψ k) → (f : List (ℕ × K)) → weigh φ f ≡ weigh ψ f
weigh_equal φ ψ alike [] = refl
weigh_equal φ ψ alike (t ∷ f) = λ i. t.0 * alike t.1 i + weigh_equal φ ψ alike f i

-- a weight, as a sum over the terms
pub weigh-sum_by : {K : Type 0} (φ : K → ℕ) (f : List (ℕ × K)) → weigh φ f ≡ sum_by (λ t. t.0 * φ t.1) f
weigh-sum_by φ [] = refl
weigh-sum_by φ (t ∷ f) = ap (λ x. t.0 * φ t.1 + x) (weigh-sum_by φ f) ∙ sym (sum_by-cons (λ t. t.0 * φ t.1) t f)

-- the order of the terms does not matter
pub weigh-IsPermutation : {K : Type 0} (φ : K → ℕ) (f g : List (ℕ × K)) → IsPermutation f g → weigh φ g ≡ weigh φ f
weigh-IsPermutation φ f g h =
    weigh-sum_by φ g ∙ sum_by-IsPermutation (λ t. t.0 * φ t.1) f g h ∙ sym (weigh-sum_by φ f)

-- new keys, weighed
pub weigh-map_key : {J K : Type 0} (φ : K → ℕ) (h : J → K) (f : List (ℕ × J))
    → weigh φ (map (λ t. (t.0, h t.1)) f) ≡ weigh (λ j. φ (h j)) f
weigh-map_key φ h [] = refl
weigh-map_key φ h (t ∷ f) = ap (λ x. t.0 * φ (h t.1) + x) (weigh-map_key φ h f)

-- new keys and multiples of the numbers, weighed
pub weigh-times : {J K : Type 0} (φ : K → ℕ) (c : ℕ) (h : J → K) (f : List (ℕ × J))
    → weigh φ (map (λ t. (c * t.0, h t.1)) f) ≡ c * weigh (λ j. φ (h j)) f
weigh-times φ c h [] = omega arith
weigh-times φ c h (t ∷ f) = omega (arith, weigh-times φ c h f)

-- where each key weighs nothing
pub weigh-zero : {K : Type 0} (f : List (ℕ × K)) → weigh (λ k. 0) f ≡ 0
weigh-zero [] = refl
weigh-zero (t ∷ f) = omega (arith, weigh-zero f)

-- a multiple of the weights
pub weigh-scaled : {K : Type 0} (c : ℕ) (φ : K → ℕ) (f : List (ℕ × K)) → weigh (λ k. c * φ k) f ≡ c * weigh φ f
weigh-scaled c φ [] = omega arith
weigh-scaled c φ (t ∷ f) = omega (arith, weigh-scaled c φ f)

-- a sum of weights
pub weigh-sum : {K : Type 0} (φ ψ : K → ℕ) (f : List (ℕ × K)) → weigh (λ k. φ k + ψ k) f ≡ weigh φ f + weigh ψ f
weigh-sum φ ψ [] = omega arith
weigh-sum φ ψ (t ∷ f) = omega (arith, weigh-sum φ ψ f)

-- two sums change places
pub weigh-swap : {J K : Type 0} (φ : J → K → ℕ) (f : List (ℕ × J)) (g : List (ℕ × K))
    → weigh (λ j. weigh (λ k. φ j k) g) f ≡ weigh (λ k. weigh (λ j. φ j k) f) g
weigh-swap φ [] g = sym (weigh-zero g)
weigh-swap φ (t ∷ f) g =
    ap (λ x. t.0 * weigh (λ k. φ t.1 k) g + x) (weigh-swap φ f g)
    ∙ ap (λ x. x + weigh (λ k. weigh (λ j. φ j k) f) g) (sym (weigh-scaled t.0 (φ t.1) g))
    ∙ sym (weigh-sum (λ k. t.0 * φ t.1 k) (λ k. weigh (λ j. φ j k) f) g)

-- c x + the sum over f, of values of the same form over g, in either order
pub weigh-exchange : {J K : Type 0} (c c' x : ℕ) (y : J → ℕ) (z : K → ℕ) (q : J → K → ℕ) (f : List (ℕ × J)) (g : List (ℕ × K))
    → c * (c' * x + weigh z g) + weigh (λ j. c' * y j + weigh (λ k. q j k) g) f
    ≡ c' * (c * x + weigh y f) + weigh (λ k. c * z k + weigh (λ j. q j k) f) g
weigh-exchange c c' x y z q f g =
    omega (arith, weigh-sum (λ j. c' * y j) (λ j. weigh (λ k. q j k) g) f, weigh-scaled c' y f, weigh-swap q f g, weigh-sum (λ k. c * z k) (λ k. weigh (λ j. q j k) f) g, weigh-scaled c z g)

module _ {K : Type 0} (p : ℕ) (φ : K → ℕ) where
  -- the weight of a multiple
  pub weigh-poly_scale : (c : ℕ) (f : List (ℕ × K)) → Same p (weigh φ (poly_scale p c f)) (c * weigh φ f)
  weigh-poly_scale c [] = same_refl p _ _ (omega arith)
  weigh-poly_scale c (t ∷ f) =
      let e : (c * t.0) * φ t.1 + c * weigh φ f ≡ c * (t.0 * φ t.1 + weigh φ f) = omega arith in
      same_refl p _ _ (weigh-cons_nonzero φ ((c * t.0) % p) t.1 (poly_scale p c f))
      ∙ same_add p _ _ _ _ (same_mul_right p (φ t.1) _ _ (same_rest p (c * t.0))) (weigh-poly_scale c f)
      ∙ same_refl p _ _ e

module _ {K : Type 0} (cmp : K → K → Ordering) (tied : (x y : K) → cmp x y ≡ Equal → x ≡ y) (p : ℕ) (φ : K → ℕ) where
  in_front : (c : ℕ) (k : K) (f : List (ℕ × K)) → Same p (weigh φ (cons_nonzero (c % p) k f)) (c * φ k + weigh φ f)
  in_front c k f =
      same_refl p _ _ (weigh-cons_nonzero φ (c % p) k f)
      ∙ same_add p _ _ _ _ (same_mul_right p (φ k) _ _ (same_rest p c)) refl

  -- the weight of t + f
  pub weigh-insert_term : (c : ℕ) (k : K) (f : List (ℕ × K)) → Same p (weigh φ (insert_term cmp p c k f)) (c * φ k + weigh φ f)
  weigh-insert_term c k [] = in_front c k []
  weigh-insert_term c k (t ∷ f) =
      insert_term_cases cmp p (λ r. Same p (weigh φ r) (c * φ k + weigh φ (t ∷ f))) c k t f
      (λ is. in_front c k (t ∷ f))
      (λ is.
      let e : (c + t.0) * φ k + weigh φ f ≡ c * φ k + (t.0 * φ k + weigh φ f) = omega arith in
      in_front (c + t.0) k f ∙ same_refl p _ _ (e ∙ ap (λ x. c * φ k + (t.0 * φ x + weigh φ f)) (tied k t.1 is)))
      (λ is.
      let e : t.0 * φ t.1 + (c * φ k + weigh φ f) ≡ c * φ k + (t.0 * φ t.1 + weigh φ f) = omega arith in
      same_add p (t.0 * φ t.1) _ _ _ refl (weigh-insert_term c k f) ∙ same_refl p _ _ e)

  -- the weight of a sum of terms
  pub weigh-from_terms : (f : List (ℕ × K)) → Same p (weigh φ (from_terms cmp p f)) (weigh φ f)
  weigh-from_terms [] = refl
  weigh-from_terms (t ∷ f) =
      weigh-insert_term t.0 t.1 (from_terms cmp p f) ∙ same_add p (t.0 * φ t.1) _ _ _ refl (weigh-from_terms f)

  -- the weight of a sum
  pub weigh-poly_add : (f g : List (ℕ × K)) → Same p (weigh φ (poly_add cmp p f g)) (weigh φ f + weigh φ g)
  weigh-poly_add [] g = same_refl p _ _ (omega arith)
  weigh-poly_add (t ∷ f) g =
      let e : t.0 * φ t.1 + (weigh φ f + weigh φ g) ≡ (t.0 * φ t.1 + weigh φ f) + weigh φ g = omega arith in
      weigh-insert_term t.0 t.1 (poly_add cmp p f g)
      ∙ same_add p (t.0 * φ t.1) _ _ _ refl (weigh-poly_add f g)
      ∙ same_refl p _ _ e

  -- the weight of a linear extension is the weight of f where a key weighs what its value weighs
  pub weigh-sum_over : {J : Type 0} (value : J → List (ℕ × K)) (f : List (ℕ × J))
      → Same p (weigh φ (sum_over cmp p value f)) (weigh (λ j. weigh φ (value j)) f)
  weigh-sum_over value [] = refl
  weigh-sum_over value (t ∷ f) =
      weigh-poly_add (poly_scale p t.0 (value t.1)) (sum_over cmp p value f)
      ∙ same_add p _ _ _ _ (weigh-poly_scale p φ t.0 (value t.1)) (weigh-sum_over value f)
