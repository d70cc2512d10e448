-- Where all pairs of elements are linked, the multiples of a sum that reach a monomial become one.
use Rattle.std.proofs.Common.{◌≡◌, ℕ, ◌+◌, ◌*◌, ◌%◌, ◌⊎◌, inl, inr, ⊎_elim, Less, Equal, Greater, Bool, true, false, nat_eq, List, [], ◌∷◌, length, refl, sym, ap, ◌∙◌, arith}
use Rattle.std.proofs.lemmas.Bool.Decides.{nat_tests}
use Rattle.monomials.specs.Monomials.{Monomial, divides}
use Rattle.monomials.specs.Polynomials.{Polynomial}
use Rattle.monomials.proofs.Modulo.{Same, same_refl, same_add, same_lin, same_mul_right}
use Rattle.monomials.proofs.Weights.{weigh}
use Rattle.monomials.proofs.OrderLaws.{order_cmp_total, order_cmp_tied}
use Rattle.monomials.proofs.Canonical.{turn_back}
use Rattle.monomials.proofs.Keys.{Each-weaker, EachKey}
use Rattle.word_model.specs.Words.{Algebra}
use Rattle.word_model.specs.Conditions.{NonZero, IsGAlgebra}
use Rattle.word_model.proofs.LeadingMonomials.{order}
use Rattle.word_model.proofs.MultipleWeights.{Multiple, lead, IsThere, Fits, Under, AtMost, top, lift, is_lift, top_divides}
use Rattle.word_model.proofs.Frames.{Frame, IsLow, low_zero, low_same, low_add, low_scale, low_one}
use Rattle.word_model.proofs.Connections.{Connected, at_multiple, AllLinked}

-- ---- the greatest of the monomials that multiples reach

module _ (A : Algebra) (G : List Polynomial) where
  -- one of them is at least all others
  abbrev pub Greatest : (Multiple → Type 0) → List (ℕ × Multiple) → Type 0
  Greatest P r = (k : Multiple) × P k × EachKey (AtMost A G (top A G k)) r

  at_most_higher : (s t : Monomial) → order A s t ≡ Less → (k : Multiple) → AtMost A G s k → AtMost A G t k
  at_most_higher s t less k h =
      (h.0, ⊎_elim (λ below. inl ((order_cmp_total A.order.rows).trans (top A G k) s t below less)) (λ is. inl (ap (λ x. order A x t) is ∙ less)) h.1)

  pub greatest : (P : Multiple → Type 0) → ((k : Multiple) → P k → Fits A G k) → (e : ℕ × Multiple) (r : List (ℕ × Multiple)) → EachKey P (e ∷ r) → Greatest P (e ∷ r)
  greatest P fits e [] h = (e.1, h.0, ((fits e.1 h.0, inr refl), tt))
  greatest P fits e (e' ∷ r) h =
      let g : Greatest P (e' ∷ r) = greatest P fits e' r h.1 in
      elim (order A (top A G e.1) (top A G g.0)) as (λ o. order A (top A G e.1) (top A G g.0) ≡ o → Greatest P (e ∷ e' ∷ r)) [
        | Less ↦ λ is. (g.0, g.1, ((fits e.1 h.0, inl is), g.2))
        | Equal ↦ λ is. (g.0, g.1, ((fits e.1 h.0, inr (order_cmp_tied A.order.rows (top A G e.1) (top A G g.0) is)), g.2))
        | Greater ↦ λ is. (
          e.1,
          h.0,
          (
            (fits e.1 h.0, inr refl),
            Each-weaker _ _ (λ x k.
                at_most_higher (top A G g.0) (top A G e.1)
                (turn_back (order A) (order_cmp_total A.order.rows) (order_cmp_tied A.order.rows) A.p (top A G e.1) (top A G g.0) is) x.1 k)
                (e' ∷ r) g.2,
          ),
        )
      ] refl

-- ---- collecting

module _ (A : Algebra) (ok : IsGAlgebra A) (G : List Polynomial) (frame : Frame A G) where
  -- a value that is a multiple of one element with leading monomial t, and what is below t
  pub record IsTopped (t : Monomial) (F : frame.Test → ℕ) : Type 0 where
    pub i : ℕ
    pub there : IsThere A G i
    pub divides_it : divides (lead A G i) t ≡ true
    pub number : ℕ
    pub rest : frame.Test → ℕ
    pub low : IsLow A ok G frame t rest
    pub value : (x : frame.Test) → Same A.p (F x) (number * frame.weight x (lift A G t i) + rest x)

  -- or it is below t
  abbrev pub Collected : Monomial → (frame.Test → ℕ) → Type 0
  Collected t F = IsLow A ok G frame t F ⊎ IsTopped t F

  -- a number that is zero leaves nothing at t
  pub topped_or_low : (t : Monomial) (F : frame.Test → ℕ) (p : IsTopped t F) → IsLow A ok G frame t F ⊎ NonZero A.p p.number
  topped_or_low t F p = by (nat_eq (p.number % A.p) (0 % A.p)) refl
    where
      nothing : (x y : ℕ) → 0 * x + y ≡ y
      nothing x y = omega arith

      by : (b : Bool) → nat_eq (p.number % A.p) (0 % A.p) ≡ b → IsLow A ok G frame t F ⊎ NonZero A.p p.number
      by true e =
          let z : Same A.p p.number 0 = grind (arith, nat_tests, e) in
          inl (low_same A ok G frame t p.rest F
          (λ x.
          p.value x
          ∙ same_add A.p _ _ (p.rest x) (p.rest x) (same_mul_right A.p (frame.weight x (lift A G t p.i)) p.number 0 z) refl
          ∙ same_refl A.p _ _ (nothing (frame.weight x (lift A G t p.i)) (p.rest x))) p.low)
      by false e = inr (λ z. (let t : nat_eq (p.number % A.p) (0 % A.p) ≡ true = grind (arith, nat_tests, z) in let no : true ≡ false = sym t ∙ e in cc))

  module _ (all : AllLinked A ok G frame) where
    join_top : (t : Monomial) → length t ≡ A.order.vars → (e : ℕ × Multiple) → Fits A G e.1 → top A G e.1 ≡ t → (F : frame.Test → ℕ)
        → Collected t F → IsTopped t (λ x. e.0 * frame.weight x e.1 + F x)
    join_top t ht e fits is F (inl l) = record {
      i = e.1.1;
      there = fits.1;
      divides_it = top_divides A G t e.1 fits is;
      number = e.0;
      rest = F;
      low = l;
      value = λ x. same_refl A.p _ _ (ap (λ k. e.0 * frame.weight x k + F x) (is_lift A G t e.1 fits is));
    }
    join_top t ht e fits is F (inr p) =
        let c : Connected A ok G frame t e.1.1 p.i =
        at_multiple A ok G frame t e.1.1 p.i ht fits.1 p.there (top_divides A G t e.1 fits is) p.divides_it (all.pair e.1.1 p.i fits.1 p.there) in
        record {
          i = p.i;
          there = p.there;
          divides_it = p.divides_it;
          number = e.0 * c.factor + p.number;
          rest = λ x. e.0 * c.rest x + p.rest x;
          low = low_add A ok G frame t (λ x. e.0 * c.rest x) p.rest (low_scale A ok G frame t e.0 c.rest c.low) p.low;
          value = λ x.
              same_refl A.p _ _ (ap (λ k. e.0 * frame.weight x k + F x) (is_lift A G t e.1 fits is))
              ∙ same_lin A.p e.0 _ _ _ _ (c.value x) (p.value x)
              ∙ same_refl A.p _ _ (regroup e.0 c.factor (frame.weight x (lift A G t p.i)) (c.rest x) p.number (p.rest x));
        }
      where
        regroup : (e c w r n s : ℕ) → e * (c * w + r) + (n * w + s) ≡ (e * c + n) * w + (e * r + s)
        regroup e c w r n s = omega arith

    join_low : (t : Monomial) (e : ℕ × Multiple) → Under A G t e.1 → (F : frame.Test → ℕ) → Collected t F → Collected t (λ x. e.0 * frame.weight x e.1 + F x)
    join_low t e under F (inl l) =
        inl (low_add A ok G frame t (λ x. e.0 * frame.weight x e.1) F (low_scale A ok G frame t e.0 (λ x. frame.weight x e.1) (low_one A ok G frame t e.1 under)) l)
    join_low t e under F (inr p) = inr (record {
      i = p.i;
      there = p.there;
      divides_it = p.divides_it;
      number = p.number;
      rest = λ x. e.0 * frame.weight x e.1 + p.rest x;
      low =
          low_add A ok G frame t (λ x. e.0 * frame.weight x e.1) p.rest
          (low_scale A ok G frame t e.0 (λ x. frame.weight x e.1) (low_one A ok G frame t e.1 under)) p.low;
      value = λ x.
          same_add A.p (e.0 * frame.weight x e.1) (e.0 * frame.weight x e.1) _ _ refl (p.value x)
          ∙ same_refl A.p _ _ (regroup (e.0 * frame.weight x e.1) (p.number * frame.weight x (lift A G t p.i)) (p.rest x));
    })
      where
        regroup : (x y z : ℕ) → x + (y + z) ≡ y + (x + z)
        regroup x y z = omega arith

    -- a sum of multiples at most t
    pub collect : (t : Monomial) → length t ≡ A.order.vars → (r : List (ℕ × Multiple)) → EachKey (AtMost A G t) r → Collected t (λ x. weigh (frame.weight x) r)
    collect t ht [] h = inl (low_zero A ok G frame t)
    collect t ht (e ∷ r) h =
        ⊎_elim
        (λ less. join_low t e (h.0.0, less) (λ x. weigh (frame.weight x) r) (collect t ht r h.1))
        (λ is. inr (join_top t ht e h.0.0 is (λ x. weigh (frame.weight x) r) (collect t ht r h.1)))
        h.0.1
