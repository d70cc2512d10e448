-- Two descents of a word that share a letter may be rewritten in either order, where no triple has a rest.
use Rattle.std.proofs.Common.{◌≡◌, ℕ, ◌+◌, ◌-◌, ◌*◌, ◌<◌, ◌≤◌, [], ◌∷◌, ◌++◌, length, Some, refl, sym, ap, ◌∙◌, subst, subst₂, arith, append_assoc}
use Rattle.monomials.specs.Monomials.{Monomial}
use Rattle.monomials.specs.Polynomials.{Polynomial, Each}
use Rattle.monomials.proofs.Modulo.{Same, same_refl, same_add, same_lin, same_minus}
use Rattle.monomials.proofs.Weights.{weigh, weigh-append, weigh-times, weigh_alike_on}
use Rattle.monomials.proofs.Keys.{Each-append, Each-second, Each-weaker}
use Rattle.word_model.specs.Words.{Algebra, Word, WordSum, IsWord, sorted_word, leftmost_descent, c_of, d_of, RewritesDown}
use Rattle.word_model.specs.Conditions.{times_words, overlap, IsConfluent}
use Rattle.word_model.proofs.Letters.{Each-map}
use Rattle.word_model.proofs.Descents.{descent}
use Rattle.word_model.proofs.Termination.{IsLess, measure}
use Rattle.word_model.proofs.NormalForms.{word_weight, weigh-word_value}
use Rattle.word_model.proofs.Induction.{less_swapped, less_replaced}
use Rattle.word_model.proofs.Rules.{rule_of, by_descent, AnyPair, any_at_less}
use Rattle.word_model.proofs.Inside.{inside, weight_between}

-- ---- the two ways down, as sums

pub six_terms : (q cij cix cjx d_x x_d j_d d_j d_i i_d : ℕ)
    → cix * cjx * d_x + (q * x_d + (cjx * j_d + (q * cij * d_j + (1 * d_i + q * (cij * cix) * i_d))))
    ≡ (cix * cjx * d_x + cjx * j_d + d_i) + q * (x_d + cij * d_j + cij * cix * i_d)
six_terms q cij cix cjx d_x x_d j_d d_j d_i i_d = omega arith

pub one_side : (cij cix cjx z d_x j_d d_i : ℕ)
    → cjx * (cix * (cij * z + d_x) + j_d) + d_i ≡ cjx * cix * cij * z + (cix * cjx * d_x + cjx * j_d + d_i)
one_side cij cix cjx z d_x j_d d_i = omega arith

other_side : (cij cix cjx z x_d d_j i_d : ℕ)
    → cjx * cix * cij * z + (x_d + cij * d_j + cij * cix * i_d) ≡ cij * (cix * (cjx * z + i_d) + d_j) + x_d
other_side cij cix cjx z x_d d_j i_d = omega arith

-- ---- the letters behind one letter more

abbrev pub second_of : Algebra → (Word → ℕ) → Word → ℕ → ℕ → ℕ → Word → ℕ
second_of A ψ a c h g v = c_of A g h * ψ (a ++ c ∷ g ∷ h ∷ v) + weigh (λ m. ψ (a ++ c ∷ (sorted_word m ++ v))) (d_of A g h)

pub one_letter_more : (a : Word) (c : ℕ) (y : Word) → (a ++ c ∷ []) ++ y ≡ a ++ c ∷ y
one_letter_more a c y = append_assoc a (c ∷ []) y

-- the rule of the letters h g behind a and c
pub second_is : (A : Algebra) (ψ : Word → ℕ) (a : Word) (c h g : ℕ) (v : Word) → rule_of A ψ (a ++ c ∷ []) h g v ≡ second_of A ψ a c h g v
second_is A ψ a c h g v t = c_of A g h * ψ (one_letter_more a c (g ∷ h ∷ v) t) + weigh (λ m. ψ (one_letter_more a c (sorted_word m ++ v) t)) (d_of A g h)

module _ (A : Algebra) (l : ℕ) (a : Word) (c h g : ℕ) (v : Word) (word : IsWord A.order.vars (a ++ c ∷ h ∷ g ∷ v)) (short : length (a ++ c ∷ h ∷ g ∷ v) ≤ l) (falls : g < h) where
  word' : IsWord A.order.vars ((a ++ c ∷ []) ++ h ∷ g ∷ v)
  word' = subst (IsWord A.order.vars) (sym (one_letter_more a c (h ∷ g ∷ v))) word

  short' : length ((a ++ c ∷ []) ++ h ∷ g ∷ v) ≤ l
  short' = subst (λ w. length w ≤ l) (sym (one_letter_more a c (h ∷ g ∷ v))) short

  second_swapped : IsLess A l (a ++ c ∷ h ∷ g ∷ v) (a ++ c ∷ g ∷ h ∷ v)
  second_swapped =
      subst₂ (IsLess A l) (one_letter_more a c (h ∷ g ∷ v)) (one_letter_more a c (g ∷ h ∷ v)) (less_swapped A l (a ++ c ∷ []) h g v word' short' falls)

  second_replaced : RewritesDown A → Each (λ t. IsLess A l (a ++ c ∷ h ∷ g ∷ v) (a ++ c ∷ (sorted_word t.1 ++ v))) (d_of A g h)
  second_replaced downward =
      Each-weaker _ _ (λ t less. subst₂ (IsLess A l) (one_letter_more a c (h ∷ g ∷ v)) (one_letter_more a c (sorted_word t.1 ++ v)) less)
      (d_of A g h) (less_replaced A downward l (a ++ c ∷ []) h g v word' short' falls)

less_than_less : (A : Algebra) (l : ℕ) (u v w : Word) → IsLess A l u v → IsLess A l v w → IsLess A l u w
less_than_less A l u v w first second = (second.0, second.1, omega (arith, first.2, second.2))

module _ (A : Algebra) (downward : RewritesDown A) (confluent : IsConfluent A) (pos : 0 < A.p) (l k : ℕ) (any : AnyPair A l k) (φ : Monomial → ℕ)
    (a : Word) (x j i : ℕ) (v : Word) (word : IsWord A.order.vars (a ++ x ∷ j ∷ i ∷ v)) (short : length (a ++ x ∷ j ∷ i ∷ v) ≤ l)
    (jx : j < x) (ij : i < j) (below : measure A l (a ++ x ∷ j ∷ i ∷ v) ≤ k) where
  -- ---- the words on the two ways down

  abbrev whole : Word
  whole = a ++ x ∷ j ∷ i ∷ v

  ix : i < x
  ix = omega arith

  to_jxi : IsLess A l whole (a ++ j ∷ x ∷ i ∷ v)
  to_jxi = less_swapped A l a x j (i ∷ v) word short jx

  to_jix : IsLess A l whole (a ++ j ∷ i ∷ x ∷ v)
  to_jix = less_than_less A l whole (a ++ j ∷ x ∷ i ∷ v) (a ++ j ∷ i ∷ x ∷ v) to_jxi (second_swapped A l a j x i v to_jxi.0 to_jxi.1 ix)

  to_xij : IsLess A l whole (a ++ x ∷ i ∷ j ∷ v)
  to_xij = second_swapped A l a x j i v word short ij

  to_ixj : IsLess A l whole (a ++ i ∷ x ∷ j ∷ v)
  to_ixj = less_than_less A l whole (a ++ x ∷ i ∷ j ∷ v) (a ++ i ∷ x ∷ j ∷ v) to_xij (less_swapped A l a x i (j ∷ v) to_xij.0 to_xij.1 ix)

  onward : (w : Word) → IsLess A l whole w → (of : Monomial → Word) (f : Polynomial) → Each (λ t. IsLess A l w (of t.1)) f → Each (λ t. IsLess A l whole (of t.1)) f
  onward w less of f h = Each-weaker _ _ (λ t next. less_than_less A l whole w (of t.1) less next) f h

  less_d_x : Each (λ t. IsLess A l whole (a ++ (sorted_word t.1 ++ x ∷ v))) (d_of A i j)
  less_d_x = onward (a ++ j ∷ i ∷ x ∷ v) to_jix (λ m. a ++ (sorted_word m ++ x ∷ v)) (d_of A i j) (less_replaced A downward l a j i (x ∷ v) to_jix.0 to_jix.1 ij)

  less_x_d : Each (λ t. IsLess A l whole (a ++ x ∷ (sorted_word t.1 ++ v))) (d_of A i j)
  less_x_d = second_replaced A l a x j i v word short ij downward

  less_j_d : Each (λ t. IsLess A l whole (a ++ j ∷ (sorted_word t.1 ++ v))) (d_of A i x)
  less_j_d = onward (a ++ j ∷ x ∷ i ∷ v) to_jxi (λ m. a ++ j ∷ (sorted_word m ++ v)) (d_of A i x) (second_replaced A l a j x i v to_jxi.0 to_jxi.1 ix downward)

  less_d_j : Each (λ t. IsLess A l whole (a ++ (sorted_word t.1 ++ j ∷ v))) (d_of A i x)
  less_d_j = onward (a ++ x ∷ i ∷ j ∷ v) to_xij (λ m. a ++ (sorted_word m ++ j ∷ v)) (d_of A i x) (less_replaced A downward l a x i (j ∷ v) to_xij.0 to_xij.1 ix)

  less_d_i : Each (λ t. IsLess A l whole (a ++ (sorted_word t.1 ++ i ∷ v))) (d_of A j x)
  less_d_i = less_replaced A downward l a x j (i ∷ v) word short jx

  less_i_d : Each (λ t. IsLess A l whole (a ++ i ∷ (sorted_word t.1 ++ v))) (d_of A j x)
  less_i_d = onward (a ++ i ∷ x ∷ j ∷ v) to_ixj (λ m. a ++ i ∷ (sorted_word m ++ v)) (d_of A j x) (second_replaced A l a i x j v to_ixj.0 to_ixj.1 jx downward)

  -- ---- what they weigh: the sorted word, and six sums over the terms of the relations

  abbrev z : ℕ
  z = word_weight A φ (a ++ i ∷ j ∷ x ∷ v)

  abbrev d_x : ℕ
  d_x = weigh (λ m. word_weight A φ (a ++ (sorted_word m ++ x ∷ v))) (d_of A i j)

  abbrev x_d : ℕ
  x_d = weigh (λ m. word_weight A φ (a ++ x ∷ (sorted_word m ++ v))) (d_of A i j)

  abbrev j_d : ℕ
  j_d = weigh (λ m. word_weight A φ (a ++ j ∷ (sorted_word m ++ v))) (d_of A i x)

  abbrev d_j : ℕ
  d_j = weigh (λ m. word_weight A φ (a ++ (sorted_word m ++ j ∷ v))) (d_of A i x)

  abbrev d_i : ℕ
  d_i = weigh (λ m. word_weight A φ (a ++ (sorted_word m ++ i ∷ v))) (d_of A j x)

  abbrev i_d : ℕ
  i_d = weigh (λ m. word_weight A φ (a ++ i ∷ (sorted_word m ++ v))) (d_of A j x)

  at_second : (c h g : ℕ) (y : Word) → IsLess A l whole (a ++ c ∷ h ∷ g ∷ y) → g < h
      → Same A.p (word_weight A φ (a ++ c ∷ h ∷ g ∷ y)) (second_of A (word_weight A φ) a c h g y)
  at_second c h g y less falls =
      same_refl A.p _ _ (ap (word_weight A φ) (sym (one_letter_more a c (h ∷ g ∷ y))))
      ∙ any_at_less A l k any whole below (a ++ c ∷ []) h g y (subst (IsLess A l whole) (sym (one_letter_more a c (h ∷ g ∷ y))) less) falls φ
      ∙ same_refl A.p _ _ (second_is A (word_weight A φ) a c h g y)

  -- x j first
  way_down : leftmost_descent whole ≡ Some (descent a x j (i ∷ v))
      → Same A.p (word_weight A φ whole) (c_of A j x * (c_of A i x * (c_of A i j * z + d_x) + j_d) + d_i)
  way_down e =
      by_descent A downward φ a x j (i ∷ v) word e
      ∙ same_lin A.p (c_of A j x) _ _ d_i d_i
      (at_second j x i v to_jxi ix ∙ same_lin A.p (c_of A i x) _ _ j_d j_d (any_at_less A l k any whole below a j i (x ∷ v) to_jix ij φ) refl)
      refl

  -- j i first
  other_way_down : Same A.p (second_of A (word_weight A φ) a x j i v) (c_of A i j * (c_of A i x * (c_of A j x * z + i_d) + d_j) + x_d)
  other_way_down =
      same_lin A.p (c_of A i j) _ _ x_d x_d
      (any_at_less A l k any whole below a x i (j ∷ v) to_xij ix φ ∙ same_lin A.p (c_of A i x) _ _ d_j d_j (at_second i x j v to_ixj jx) refl)
      refl

  -- ---- the words of the overlap, between a and v

  abbrev ψ : Word → ℕ
  ψ s = word_weight A φ (a ++ (s ++ v))

  abbrev χ : Monomial → ℕ
  χ = weight_between A downward l k any φ a v

  ψ_is : (s : Word) → IsLess A l whole (a ++ (s ++ v)) → Same A.p (ψ s) (word_weight A χ s)
  ψ_is s less = inside A downward l k any φ a v s less.0 less.1 (omega (arith, less.2))

  last_letter : (c : ℕ) (m : Monomial) → a ++ ((sorted_word m ++ c ∷ []) ++ v) ≡ a ++ (sorted_word m ++ c ∷ v)
  last_letter c m = ap (λ w. a ++ w) (append_assoc (sorted_word m) (c ∷ []) v)

  at_part : (c : ℕ) (of : Monomial → Word) (f : Polynomial) → Each (λ t. IsLess A l whole (a ++ (of t.1 ++ v))) f
      → Each (λ t. Same A.p (ψ t.1) (word_weight A χ t.1)) (times_words c of f)
  at_part c of f less =
      Each-map (λ t. Same A.p (ψ t.1) (word_weight A χ t.1)) (λ t. (c * t.0, of t.1)) f (Each-weaker _ _ (λ t next. ψ_is (of t.1) next) f less)

  with_last : (c : ℕ) (f : Polynomial) → Each (λ t. IsLess A l whole (a ++ (sorted_word t.1 ++ c ∷ v))) f
      → Each (λ t. IsLess A l whole (a ++ ((sorted_word t.1 ++ c ∷ []) ++ v))) f
  with_last c f h = Each-weaker _ _ (λ t less. subst (IsLess A l whole) (sym (last_letter c t.1)) less) f h

  parts_alike : Each (λ t. Same A.p (ψ t.1) (word_weight A χ t.1)) (overlap A i j x)
  parts_alike =
      Each-append _ (times_words (c_of A i x * c_of A j x) (λ m. sorted_word m ++ x ∷ []) (d_of A i j)) _ (at_part _ _ (d_of A i j) (with_last x (d_of A i j) less_d_x))
      (Each-append _ (times_words (A.p - 1) (λ m. x ∷ sorted_word m) (d_of A i j)) _ (at_part _ _ (d_of A i j) less_x_d)
      (Each-append _ (times_words (c_of A j x) (λ m. j ∷ sorted_word m) (d_of A i x)) _ (at_part _ _ (d_of A i x) less_j_d)
      (Each-append _ (times_words ((A.p - 1) * c_of A i j) (λ m. sorted_word m ++ j ∷ []) (d_of A i x)) _ (at_part _ _ (d_of A i x) (with_last j (d_of A i x) less_d_j))
      (Each-append _ (times_words 1 (λ m. sorted_word m ++ i ∷ []) (d_of A j x)) _ (at_part _ _ (d_of A j x) (with_last i (d_of A j x) less_d_i))
      (at_part _ _ (d_of A j x) less_i_d)))))

  in_bounds : (1 ≤ i) × (x ≤ A.order.vars)
  in_bounds = let back : IsWord A.order.vars (x ∷ j ∷ i ∷ v) = Each-second _ a (x ∷ j ∷ i ∷ v) word in (back.1.1.0.0, back.0.1)

  -- the overlap weighs nothing there
  overlap_zero : Same A.p (weigh ψ (overlap A i j x)) 0
  overlap_zero =
      weigh_alike_on A.p ψ (word_weight A χ) (overlap A i j x) parts_alike
      ∙ sym (weigh-word_value A χ (overlap A i j x))
      ∙ same_refl A.p _ _ (ap (weigh χ) (confluent.none i j x in_bounds.0 ij jx in_bounds.1))

  sum_last : (c : ℕ) (f : Polynomial) → weigh (λ m. ψ (sorted_word m ++ c ∷ [])) f ≡ weigh (λ m. word_weight A φ (a ++ (sorted_word m ++ c ∷ v))) f
  sum_last c f t = weigh (λ m. word_weight A φ (last_letter c m t)) f

  -- it weighs the difference of the two ways
  overlap_is : weigh ψ (overlap A i j x)
      ≡ (c_of A i x * c_of A j x * d_x + c_of A j x * j_d + d_i) + (A.p - 1) * (x_d + c_of A i j * d_j + c_of A i j * c_of A i x * i_d)
  overlap_is =
      let p1 : WordSum = times_words (c_of A i x * c_of A j x) (λ m. sorted_word m ++ x ∷ []) (d_of A i j) in
      let p2 : WordSum = times_words (A.p - 1) (λ m. x ∷ sorted_word m) (d_of A i j) in
      let p3 : WordSum = times_words (c_of A j x) (λ m. j ∷ sorted_word m) (d_of A i x) in
      let p4 : WordSum = times_words ((A.p - 1) * c_of A i j) (λ m. sorted_word m ++ j ∷ []) (d_of A i x) in
      let p5 : WordSum = times_words 1 (λ m. sorted_word m ++ i ∷ []) (d_of A j x) in
      let p6 : WordSum = times_words ((A.p - 1) * (c_of A i j * c_of A i x)) (λ m. i ∷ sorted_word m) (d_of A j x) in
      let q1 : weigh ψ p1 ≡ c_of A i x * c_of A j x * d_x =
      weigh-times ψ (c_of A i x * c_of A j x) (λ m. sorted_word m ++ x ∷ []) (d_of A i j) ∙ ap (λ y. c_of A i x * c_of A j x * y) (sum_last x (d_of A i j)) in
      let q2 : weigh ψ p2 ≡ (A.p - 1) * x_d = weigh-times ψ (A.p - 1) (λ m. x ∷ sorted_word m) (d_of A i j) in
      let q3 : weigh ψ p3 ≡ c_of A j x * j_d = weigh-times ψ (c_of A j x) (λ m. j ∷ sorted_word m) (d_of A i x) in
      let q4 : weigh ψ p4 ≡ (A.p - 1) * c_of A i j * d_j =
      weigh-times ψ ((A.p - 1) * c_of A i j) (λ m. sorted_word m ++ j ∷ []) (d_of A i x) ∙ ap (λ y. (A.p - 1) * c_of A i j * y) (sum_last j (d_of A i x)) in
      let q5 : weigh ψ p5 ≡ 1 * d_i = weigh-times ψ 1 (λ m. sorted_word m ++ i ∷ []) (d_of A j x) ∙ ap (λ y. 1 * y) (sum_last i (d_of A j x)) in
      let q6 : weigh ψ p6 ≡ (A.p - 1) * (c_of A i j * c_of A i x) * i_d =
      weigh-times ψ ((A.p - 1) * (c_of A i j * c_of A i x)) (λ m. i ∷ sorted_word m) (d_of A j x) in
      weigh-append ψ p1 (p2 ++ (p3 ++ (p4 ++ (p5 ++ p6))))
      ∙ ap (λ y. weigh ψ p1 + y) (weigh-append ψ p2 (p3 ++ (p4 ++ (p5 ++ p6))))
      ∙ ap (λ y. weigh ψ p1 + (weigh ψ p2 + y)) (weigh-append ψ p3 (p4 ++ (p5 ++ p6)))
      ∙ ap (λ y. weigh ψ p1 + (weigh ψ p2 + (weigh ψ p3 + y))) (weigh-append ψ p4 (p5 ++ p6))
      ∙ ap (λ y. weigh ψ p1 + (weigh ψ p2 + (weigh ψ p3 + (weigh ψ p4 + y)))) (weigh-append ψ p5 p6)
      ∙ (λ t. q1 t + (q2 t + (q3 t + (q4 t + (q5 t + q6 t)))))
      ∙ six_terms (A.p - 1) (c_of A i j) (c_of A i x) (c_of A j x) d_x x_d j_d d_j d_i i_d

  -- where x j is the leftmost descent, j i may be rewritten first
  pub touching : leftmost_descent whole ≡ Some (descent a x j (i ∷ v)) → Same A.p (word_weight A φ whole) (second_of A (word_weight A φ) a x j i v)
  touching e =
      let free : Same A.p (c_of A i x * c_of A j x * d_x + c_of A j x * j_d + d_i) (x_d + c_of A i j * d_j + c_of A i j * c_of A i x * i_d) =
      same_minus A.p _ _ pos (same_refl A.p _ _ (sym overlap_is) ∙ overlap_zero) in
      way_down e
      ∙ same_refl A.p _ _ (one_side (c_of A i j) (c_of A i x) (c_of A j x) z d_x j_d d_i)
      ∙ same_add A.p (c_of A j x * c_of A i x * c_of A i j * z) _ _ _ refl free
      ∙ same_refl A.p _ _ (other_side (c_of A i j) (c_of A i x) (c_of A j x) z x_d d_j i_d)
      ∙ sym other_way_down
