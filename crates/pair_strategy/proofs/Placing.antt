-- Where a job goes among those that are queued.
use Rattle.std.proofs.Common.{◌≡◌, ℕ, ◌+◌, ◌<◌, Bool, true, false, List, [], ◌∷◌, ◌++◌, length, reverse, take, drop, get_or, if◌then◌else◌, refl, sym, ap, ◌∙◌, subst, add-one, drop-cons, append_assoc}
use Rattle.std.proofs.Common.{Less, Greater, is_lt}
use Rattle.std.specs.Prelude.{insert}
use Rattle.std.proofs.lemmas.Bool.{or_parts}
use Rattle.std.proofs.lemmas.List.{reverse-append, take_more, take-append-drop}
use Rattle.gpoly.proofs.Lists.{reverse-cons, Each-reverse, Each-reversed}
use Rattle.monomials.specs.Orders.{RowOrder}
use Rattle.monomials.specs.Polynomials.{Each}
use Rattle.monomials.proofs.Keys.{Each-append, Each-weaker}
use Rattle.word_model.specs.Jobs.{same_job, is_queued}
use Rattle.word_model.proofs.Ranks.{less_is}
use Rattle.pair_strategy.specs.Queues.{keyed_cmp, jobs_in, with_item, IsRising}
use Rattle.pair_strategy.specs.declared.keys.Keyed.{Keyed}
use Rattle.pair_strategy.proofs.Ordered.{keyed_total, keys_differ, is_greater, not_less, below}

-- ---- lists

-- a list, turned, round the element at a place
reverse-at : {X : Type 0} (xs : List X) (i : ℕ) (d : X) → i < length xs
    → reverse xs ≡ reverse (drop (i + 1) xs) ++ get_or xs i d ∷ reverse (take i xs)
reverse-at {X} xs i d low =
    let x : X = get_or xs i d in
    let rest : drop i xs ≡ x ∷ drop (i + 1) xs = rw add-one (drop-cons xs i d low) in
    ap reverse (sym (take-append-drop i xs))
    ∙ reverse-append (take i xs) (drop i xs)
    ∙ ap (λ ys. reverse ys ++ reverse (take i xs)) rest
    ∙ ap (λ ys. ys ++ reverse (take i xs)) (reverse-cons x (drop (i + 1) xs))
    ∙ append_assoc (reverse (drop (i + 1) xs)) (x ∷ []) (reverse (take i xs))

-- a list, turned, with one more at a place
reverse-insert : {X : Type 0} (xs : List X) (i : ℕ) (x : X) → reverse (insert xs i x) ≡ reverse (drop i xs) ++ x ∷ reverse (take i xs)
reverse-insert xs i x =
    reverse-append (take i xs) (x ∷ drop i xs)
    ∙ ap (λ ys. ys ++ reverse (take i xs)) (reverse-cons x (drop i xs))
    ∙ append_assoc (reverse (drop i xs)) (x ∷ []) (reverse (take i xs))

-- what holds of a list and of one more holds of them together
pub Each-with_item : (P : Keyed → Type 0) (o : RowOrder) (a : Keyed) (items : List Keyed) → P a → Each P items → Each P (with_item o a items)
Each-with_item P o a [] here h = (here, tt)
Each-with_item P o a (b ∷ items) here h = by (is_lt (keyed_cmp o a b)) (Each-with_item P o a items here h.1)
  where
    by : (t : Bool) → Each P (with_item o a items) → Each P (if t then a ∷ b ∷ items else b ∷ with_item o a items)
    by true ih = (here, h)
    by false ih = (h.0, ih)

module _ (o : RowOrder) where
  -- ---- one more in its place

  -- the keys go on rising
  pub rising-with_item : (a : Keyed) (items : List Keyed) → IsRising o items → is_queued (jobs_in items) a.job ≡ false → IsRising o (with_item o a items)
  rising-with_item a [] rising absent = (tt, tt)
  rising-with_item a (b ∷ items) rising absent =
      let parts = or_parts (same_job a.job b.job) (is_queued (jobs_in items) a.job) absent in
      by (is_lt (keyed_cmp o a b)) refl parts.0 (rising-with_item a items rising.1 parts.1)
    where
      by : (t : Bool) → is_lt (keyed_cmp o a b) ≡ t → same_job a.job b.job ≡ false → IsRising o (with_item o a items)
          → IsRising o (if t then a ∷ b ∷ items else b ∷ with_item o a items)
      by true e other ih =
          let less : keyed_cmp o a b ≡ Less = less_is (keyed_cmp o a b) e in
          ((less, Each-weaker (λ c. keyed_cmp o b c ≡ Less) (λ c. keyed_cmp o a c ≡ Less) (λ c h. (keyed_total o).trans a b c less h) items rising.0), rising)
      by false e other ih =
          let greater : keyed_cmp o a b ≡ Greater = is_greater (keyed_cmp o a b) e (keys_differ o a b other) in
          (Each-with_item (λ c. keyed_cmp o b c ≡ Less) o a items (below (keyed_total o) a b greater) rising.0, ih)

  -- it stands behind those that it is not less than, where it is less than the others
  with_item-at : (a : Keyed) (fs bs : List Keyed) → Each (λ b. is_lt (keyed_cmp o a b) ≡ false) fs → Each (λ b. is_lt (keyed_cmp o a b) ≡ true) bs
      → fs ++ a ∷ bs ≡ with_item o a (fs ++ bs)
  with_item-at a [] [] h k = refl
  with_item-at a [] (b ∷ bs) h k = rw k.0 refl
  with_item-at a (b ∷ fs) bs h k = rw h.0 (ap (λ items. b ∷ items) (with_item-at a fs bs h.1 k))

  -- ---- the search

  -- those before an element are less than it, and those behind it greater
  rising-around : (fs : List Keyed) (x : Keyed) (bs : List Keyed) → IsRising o (fs ++ x ∷ bs)
      → Each (λ y. keyed_cmp o y x ≡ Less) fs × Each (λ y. keyed_cmp o x y ≡ Less) bs
  rising-around [] x bs rising = (tt, rising.0)
  rising-around (a ∷ fs) x bs rising =
      let later = rising-around fs x bs rising.1 in
      ((from fs rising.0, later.0), later.1)
    where
      from : (fs : List Keyed) → Each (λ y. keyed_cmp o a y ≡ Less) (fs ++ x ∷ bs) → keyed_cmp o a x ≡ Less
      from [] h = h.0
      from (y ∷ fs) h = from fs h.1

  module _ (a : Keyed) (v : List Keyed) (i : ℕ) (d : Keyed) (low : i < length v) (rising : IsRising o (reverse v)) where
    around : Each (λ y. keyed_cmp o y (get_or v i d) ≡ Less) (reverse (drop (i + 1) v)) × Each (λ y. keyed_cmp o (get_or v i d) y ≡ Less) (reverse (take i v))
    around =
        rising-around (reverse (drop (i + 1) v)) (get_or v i d) (reverse (take i v))
        (subst (IsRising o) (reverse-at v i d low) rising)

    -- a key that is less than one in a falling list is less than all up to it
    pub less_up_to : is_lt (keyed_cmp o a (get_or v i d)) ≡ true → Each (λ b. is_lt (keyed_cmp o a b) ≡ true) (take (i + 1) v)
    less_up_to e =
        let x : Keyed = get_or v i d in
        let less : keyed_cmp o a x ≡ Less = less_is (keyed_cmp o a x) e in
        let before : Each (λ y. keyed_cmp o x y ≡ Less) (take i v) = Each-reversed (λ y. keyed_cmp o x y ≡ Less) (take i v) around.1 in
        subst (Each (λ b. is_lt (keyed_cmp o a b) ≡ true)) (sym (take_more v i d low))
        (Each-append (λ b. is_lt (keyed_cmp o a b) ≡ true) (take i v) (x ∷ [])
        (Each-weaker (λ y. keyed_cmp o x y ≡ Less) (λ b. is_lt (keyed_cmp o a b) ≡ true) (λ y h. ap is_lt ((keyed_total o).trans a x y less h)) (take i v) before)
        (e, tt))

    -- one that is not is less than none from it on
    pub not_less_from : is_lt (keyed_cmp o a (get_or v i d)) ≡ false → Each (λ b. is_lt (keyed_cmp o a b) ≡ false) (drop i v)
    not_less_from e =
        let x : Keyed = get_or v i d in
        let behind : Each (λ y. keyed_cmp o y x ≡ Less) (drop (i + 1) v) = Each-reversed (λ y. keyed_cmp o y x ≡ Less) (drop (i + 1) v) around.0 in
        let rest : drop i v ≡ x ∷ drop (i + 1) v = rw add-one (drop-cons v i d low) in
        subst (Each (λ b. is_lt (keyed_cmp o a b) ≡ false)) (sym rest)
        (e, Each-weaker (λ y. keyed_cmp o y x ≡ Less) (λ b. is_lt (keyed_cmp o a b) ≡ false) later (drop (i + 1) v) behind)
      where
        later : (y : Keyed) → keyed_cmp o y (get_or v i d) ≡ Less → is_lt (keyed_cmp o a y) ≡ false
        later y h =
            not_less (keyed_cmp o a y)
            (λ less. let no : true ≡ false = sym (ap is_lt ((keyed_total o).trans a y (get_or v i d) less h)) ∙ e in cc)

  -- the place that is found
  pub placed : (a : Keyed) (v : List Keyed) (i : ℕ) → Each (λ b. is_lt (keyed_cmp o a b) ≡ true) (take i v) → Each (λ b. is_lt (keyed_cmp o a b) ≡ false) (drop i v)
      → reverse (insert v i a) ≡ with_item o a (reverse v)
  placed a v i h k =
      reverse-insert v i a
      ∙ with_item-at a (reverse (drop i v)) (reverse (take i v))
      (Each-reverse (λ b. is_lt (keyed_cmp o a b) ≡ false) (drop i v) k) (Each-reverse (λ b. is_lt (keyed_cmp o a b) ≡ true) (take i v) h)
      ∙ ap (with_item o a) (sym (reverse-append (take i v) (drop i v)) ∙ ap reverse (take-append-drop i v))
