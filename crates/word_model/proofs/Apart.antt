-- Two descents of a word that stand apart may be rewritten in either order.
use Rattle.std.proofs.Common.{◌≡◌, ℕ, ◌+◌, ◌*◌, ◌<◌, ◌≤◌, ◌∷◌, ◌++◌, length, Some, sym, ap, ◌∙◌, subst, subst₂, append_assoc}
use Rattle.monomials.specs.Monomials.{Monomial}
use Rattle.monomials.specs.Polynomials.{Each}
use Rattle.monomials.proofs.Modulo.{Same, same_refl, same_lin}
use Rattle.monomials.proofs.Weights.{weigh, weigh_alike_on, weigh-exchange}
use Rattle.monomials.proofs.Keys.{Each-weaker}
use Rattle.word_model.specs.Words.{Algebra, Word, IsWord, sorted_word, leftmost_descent, c_of, d_of, RewritesDown}
use Rattle.word_model.proofs.Descents.{descent}
use Rattle.word_model.proofs.Termination.{IsLess, measure}
use Rattle.word_model.proofs.NormalForms.{word_weight}
use Rattle.word_model.proofs.Induction.{less_swapped, less_replaced}
use Rattle.word_model.proofs.Rules.{rule_of, by_descent, rule_alike, AnyPair, any_at_less}

module _ (A : Algebra) (downward : RewritesDown A) (l k : ℕ) (any : AnyPair A l k) (φ : Monomial → ℕ) (a : Word) (h g : ℕ) (b : Word) (j i : ℕ) (v : Word) where
  -- the weight where the letters j i are rewritten in words that begin with x
  abbrev second_rule : Word → ℕ
  second_rule x = rule_of A (word_weight A φ) x j i v

  -- the weight where the letters h g are rewritten in words that end with y
  abbrev first_rule : Word → ℕ
  first_rule y = c_of A g h * word_weight A φ ((a ++ g ∷ h ∷ b) ++ y) + weigh (λ m. word_weight A φ ((a ++ (sorted_word m ++ b)) ++ y)) (d_of A g h)

  regroup : (y : Word) → (a ++ h ∷ g ∷ b) ++ y ≡ a ++ h ∷ g ∷ (b ++ y)
  regroup y = append_assoc a (h ∷ g ∷ b) y

  regroup_swapped : (y : Word) → (a ++ g ∷ h ∷ b) ++ y ≡ a ++ g ∷ h ∷ (b ++ y)
  regroup_swapped y = append_assoc a (g ∷ h ∷ b) y

  regroup_replaced : (m : Monomial) (y : Word) → (a ++ (sorted_word m ++ b)) ++ y ≡ a ++ (sorted_word m ++ (b ++ y))
  regroup_replaced m y = append_assoc a (sorted_word m ++ b) y ∙ ap (λ x. a ++ x) (append_assoc (sorted_word m) b y)

  first_rule_is : (y : Word) → rule_of A (word_weight A φ) a h g (b ++ y) ≡ first_rule y
  first_rule_is y t = c_of A g h * word_weight A φ (sym (regroup_swapped y) t) + weigh (λ m. word_weight A φ (sym (regroup_replaced m y) t)) (d_of A g h)

  -- the word with both
  abbrev whole : Word
  whole = (a ++ h ∷ g ∷ b) ++ j ∷ i ∷ v

  module _ (word : IsWord A.order.vars whole) (short : length whole ≤ l) (ij : i < j) (gh : g < h) (below : measure A l whole ≤ k) where
    word' : IsWord A.order.vars (a ++ h ∷ g ∷ (b ++ j ∷ i ∷ v))
    word' = subst (IsWord A.order.vars) (regroup (j ∷ i ∷ v)) word

    short' : length (a ++ h ∷ g ∷ (b ++ j ∷ i ∷ v)) ≤ l
    short' = subst (λ w. length w ≤ l) (regroup (j ∷ i ∷ v)) short

    first_swapped : IsLess A l whole ((a ++ g ∷ h ∷ b) ++ j ∷ i ∷ v)
    first_swapped =
        subst₂ (IsLess A l) (sym (regroup (j ∷ i ∷ v))) (sym (regroup_swapped (j ∷ i ∷ v))) (less_swapped A l a h g (b ++ j ∷ i ∷ v) word' short' gh)

    first_replaced : Each (λ t. IsLess A l whole ((a ++ (sorted_word t.1 ++ b)) ++ j ∷ i ∷ v)) (d_of A g h)
    first_replaced =
        Each-weaker _ _ (λ t less. subst₂ (IsLess A l) (sym (regroup (j ∷ i ∷ v))) (sym (regroup_replaced t.1 (j ∷ i ∷ v))) less)
        (d_of A g h) (less_replaced A downward l a h g (b ++ j ∷ i ∷ v) word' short' gh)

    -- h g first, and then j i
    one_way : leftmost_descent (a ++ h ∷ g ∷ (b ++ j ∷ i ∷ v)) ≡ Some (descent a h g (b ++ j ∷ i ∷ v)) → Same A.p (word_weight A φ whole) (rule_of A second_rule a h g b)
    one_way e =
        same_refl A.p _ _ (ap (word_weight A φ) (regroup (j ∷ i ∷ v)))
        ∙ by_descent A downward φ a h g (b ++ j ∷ i ∷ v) word' e
        ∙ same_refl A.p _ _ (first_rule_is (j ∷ i ∷ v))
        ∙ rule_alike A (λ x. word_weight A φ (x ++ j ∷ i ∷ v)) second_rule a h g b
        (any_at_less A l k any whole below (a ++ g ∷ h ∷ b) j i v first_swapped ij φ)
        (Each-weaker _ _ (λ t less. any_at_less A l k any whole below (a ++ (sorted_word t.1 ++ b)) j i v less ij φ) (d_of A g h) first_replaced)

    by_first : (y : Word) → IsLess A l whole ((a ++ h ∷ g ∷ b) ++ y) → Same A.p (word_weight A φ ((a ++ h ∷ g ∷ b) ++ y)) (first_rule y)
    by_first y less =
        same_refl A.p _ _ (ap (word_weight A φ) (regroup y))
        ∙ any_at_less A l k any whole below a h g (b ++ y) (subst (IsLess A l whole) (regroup y) less) gh φ
        ∙ same_refl A.p _ _ (first_rule_is y)

    -- j i first, and then h g
    other_way : Same A.p (second_rule (a ++ h ∷ g ∷ b)) (c_of A i j * first_rule (i ∷ j ∷ v) + weigh (λ m. first_rule (sorted_word m ++ v)) (d_of A i j))
    other_way =
        same_lin A.p (c_of A i j) _ _ _ _
        (by_first (i ∷ j ∷ v) (less_swapped A l (a ++ h ∷ g ∷ b) j i v word short ij))
        (weigh_alike_on A.p (λ m. word_weight A φ ((a ++ h ∷ g ∷ b) ++ (sorted_word m ++ v))) (λ m. first_rule (sorted_word m ++ v)) (d_of A i j)
        (Each-weaker _ _ (λ t less. by_first (sorted_word t.1 ++ v) less) (d_of A i j) (less_replaced A downward l (a ++ h ∷ g ∷ b) j i v word short ij)))

    -- where h g is the leftmost descent, j i may be rewritten first
    pub apart : leftmost_descent (a ++ h ∷ g ∷ (b ++ j ∷ i ∷ v)) ≡ Some (descent a h g (b ++ j ∷ i ∷ v)) → Same A.p (word_weight A φ whole) (second_rule (a ++ h ∷ g ∷ b))
    apart e =
        one_way e
        ∙ same_refl A.p _ _ (weigh-exchange (c_of A g h) (c_of A i j) (word_weight A φ ((a ++ g ∷ h ∷ b) ++ i ∷ j ∷ v))
        (λ m. word_weight A φ ((a ++ (sorted_word m ++ b)) ++ i ∷ j ∷ v))
        (λ m. word_weight A φ ((a ++ g ∷ h ∷ b) ++ (sorted_word m ++ v)))
        (λ m m'. word_weight A φ ((a ++ (sorted_word m ++ b)) ++ (sorted_word m' ++ v))) (d_of A g h) (d_of A i j))
        ∙ sym other_way
