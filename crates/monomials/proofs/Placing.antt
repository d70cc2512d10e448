-- Sixteen places that hold the entries of a row.
use Rattle.std.proofs.Common.{◌≡◌, ℕ, ◌+◌, ◌-◌, ◌≤◌, ◌<◌, Bool, true, false, cond, ◌||◌, nat_eq, List, ◌++◌, length, map, replicate, take, get_or, set, arith, refl, sym, ◌∙◌, ap, inl, inr, pos, length-append}
use Rattle.std.specs.List.{list_any}
use Rattle.std.proofs.lemmas.Bool.{cases_lt}
use Rattle.std.proofs.lemmas.Bool.Decides.{nat_tests}
use Rattle.std.proofs.lemmas.List.{ext_get_or, map-append, get_or_append_left, get_or-append_right, get_or-take, get_or-set_same, get_or-set_other, length-take-le, length-replicate, get_or-replicate}
use Rattle.std.proofs.lemmas.List.Folds.{list_any_more}
use Rattle.std.proofs.lemmas.List.FromFn.{length-map-range_with_len, get_or-map-range_with_len}
use Rattle.monomials.specs.Blocks.{weights_row}
use Rattle.monomials.specs.ExtraRows.{mark, marks}
use Rattle.monomials.proofs.Exponents.{get_or-zeros}
use Rattle.monomials.proofs.GradedRows.{map-replicate}

-- weights with zeros around them
module _ (n at : ℕ) (ws ps : List ℕ) (whole : length ps ≡ 16) (few : n ≤ 16) (fits : at + length ws ≤ n)
    (before : (k : ℕ) → k < at → get_or ps k 0 ≡ 0) (done : (k : ℕ) → k < length ws → get_or ps (at + k) 0 ≡ get_or ws k 0)
    (rest : (k : ℕ) → at + length ws ≤ k → get_or ps k 0 ≡ 0) where
  held : take n ps ≡ replicate at 0 ++ (ws ++ replicate (n - (at + length ws)) 0)
  held =
      let zs : List ℕ = replicate (n - (at + length ws)) 0 in
      let front : List ℕ = replicate at 0 in
      let lf : length front ≡ at = length-replicate at 0 in
      let lz : length zs ≡ n - (at + length ws) = length-replicate (n - (at + length ws)) 0 in
      let lt : length (take n ps) ≡ n = length-take-le n ps (omega (arith, whole)) in
      ext_get_or 0 (take n ps) (front ++ (ws ++ zs)) (omega (arith, lt, length-append front (ws ++ zs), length-append ws zs, lf, lz))
      (λ k l.
      get_or-take n ps k 0 (omega (arith, lt)) ∙
      elim (cases_lt k at) [
        | inl low ↦ before k low ∙ (sym (get_or-replicate at k 0 0 low) ∙ sym (get_or_append_left front (ws ++ zs) 0 k (omega (arith, lf))))
        | inr high ↦
            let e : at + (k - at) ≡ k = omega arith in
            let right : get_or (front ++ (ws ++ zs)) k 0 ≡ get_or (ws ++ zs) (k - at) 0 = get_or-append_right front (ws ++ zs) at k 0 lf (omega arith) in
            elim (cases_lt (k - at) (length ws)) [
              | inl in' ↦ ap (λ j. get_or ps j 0) (sym e) ∙ (done (k - at) in' ∙ (sym (get_or_append_left ws zs 0 (k - at) in') ∙ sym right))
              | inr out ↦
                  rest k (omega arith)
                  ∙ (sym (get_or-zeros (n - (at + length ws)) (k - at - length ws))
                  ∙ (sym (get_or-append_right ws zs (length ws) (k - at) 0 refl (omega arith)) ∙ sym right))
            ]
      ])

  pub placed : map pos (take n ps) ≡ weights_row n at ws
  placed =
      let zs : List ℕ = replicate (n - (at + length ws)) 0 in
      ap (λ xs. map pos xs) held
      ∙ (map-append pos (replicate at 0) (ws ++ zs)
      ∙ ((λ i. map-replicate pos at 0 i ++ map-append pos ws zs i)
      ∙ ap (λ xs. replicate at (pos 0) ++ (map pos ws ++ xs)) (map-replicate pos (n - (at + length ws)) 0)))

-- one more weight
module _ (at i w : ℕ) (ws ps : List ℕ) (whole : length ps ≡ 16) (fits : at + length ws ≤ 16) (more : i < length ws) (is : w ≡ get_or ws i 0) where
  pub place_before : ((k : ℕ) → k < at → get_or ps k 0 ≡ 0) → (k : ℕ) → k < at → get_or (set ps (at + i) w) k 0 ≡ 0
  place_before h k l = get_or-set_other ps (at + i) k w 0 (λ e. omega (arith, e, l)) ∙ h k l

  pub place_done : ((k : ℕ) → k < i → get_or ps (at + k) 0 ≡ get_or ws k 0) →
      (k : ℕ) → k < i + 1 → get_or (set ps (at + i) w) (at + k) 0 ≡ get_or ws k 0
  place_done h k l =
      elim (cases_lt k i) [
        | inl low ↦ get_or-set_other ps (at + i) (at + k) w 0 (λ e. omega (arith, e, low)) ∙ h k low
        | inr high ↦
            let e : k ≡ i = omega arith in
            rw e (get_or-set_same ps (at + i) w 0 (omega (arith, whole)) ∙ is)
      ]

  pub place_rest : ((k : ℕ) → at + i ≤ k → get_or ps k 0 ≡ 0) → (k : ℕ) → at + (i + 1) ≤ k → get_or (set ps (at + i) w) k 0 ≡ 0
  place_rest h k l = get_or-set_other ps (at + i) k w 0 (λ e. omega (arith, e, l)) ∙ h k (omega arith)

-- marks at variables
pub marks_are : (n : ℕ) (vars ps : List ℕ) → length ps ≡ 16 → n ≤ 16 → ((k : ℕ) → k < 16 → get_or ps k 0 ≡ mark vars (k + 1)) →
    take n ps ≡ marks n vars
marks_are n vars ps whole few h =
    let lt : length (take n ps) ≡ n = length-take-le n ps (omega (arith, whole)) in
    ext_get_or 0 (take n ps) (marks n vars) (lt ∙ sym (length-map-range_with_len (mark vars) 1 n))
    (λ k l.
    get_or-take n ps k 0 (omega (arith, lt))
    ∙ (h k (omega (arith, lt)) ∙ sym (get_or-map-range_with_len (mark vars) 1 n k (k + 1) 0 (omega (arith, lt)) (omega arith))))

either : (a : Bool) → cond {A = ℕ} (a || true) 1 0 ≡ 1
either true = refl
either false = refl

neither : (a : Bool) → cond {A = ℕ} (a || false) 1 0 ≡ cond a 1 0
neither true = refl
neither false = refl

-- one more variable
pub marks_more : (vars ps : List ℕ) (i v : ℕ) → length ps ≡ 16 → i < length vars → v ≡ get_or vars i 0 → 1 ≤ v → v ≤ 16 →
    ((k : ℕ) → k < 16 → get_or ps k 0 ≡ mark (take i vars) (k + 1)) →
    (k : ℕ) → k < 16 → get_or (set ps (v - 1) 1) k 0 ≡ mark (take (i + 1) vars) (k + 1)
marks_more vars ps i v whole more is first last h k l = by (nat_eq v (k + 1)) refl
  where
    next : mark (take (i + 1) vars) (k + 1) ≡ cond {A = ℕ} (list_any (λ u. nat_eq u (k + 1)) (take i vars) || nat_eq v (k + 1)) 1 0
    next =
        ap (λ b. cond {A = ℕ} b 1 0) (list_any_more (λ u. nat_eq u (k + 1)) vars i 0 more)
        ∙ ap (λ u. cond {A = ℕ} (list_any (λ u. nat_eq u (k + 1)) (take i vars) || nat_eq u (k + 1)) 1 0) (sym is)

    by : (t : Bool) → nat_eq v (k + 1) ≡ t → get_or (set ps (v - 1) 1) k 0 ≡ mark (take (i + 1) vars) (k + 1)
    by true t =
        let e : v ≡ k + 1 = grind (arith, nat_tests, t) in
        let j : v - 1 ≡ k = omega arith in
        rw j (get_or-set_same ps k 1 0 (omega (arith, whole)))
        ∙ (sym (either (list_any (λ u. nat_eq u (k + 1)) (take i vars)))
        ∙ (ap (λ b. cond {A = ℕ} (list_any (λ u. nat_eq u (k + 1)) (take i vars) || b) 1 0) (sym t) ∙ sym next))
    by false t =
        let ne : k ≡ v - 1 → ⊥ = λ e. (let e' : v ≡ k + 1 = omega (arith, e) in grind (arith, nat_tests, t, e')) in
        get_or-set_other ps (v - 1) k 1 0 ne
        ∙ (h k l
        ∙ (sym (neither (list_any (λ u. nat_eq u (k + 1)) (take i vars)))
        ∙ (ap (λ b. cond {A = ℕ} (list_any (λ u. nat_eq u (k + 1)) (take i vars) || b) 1 0) (sym t) ∙ sym next)))
