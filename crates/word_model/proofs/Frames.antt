-- Values below a monomial: sums of multiples whose leading monomials are below it, up to values that do not count.
use Rattle.std.proofs.Common.{◌≡◌, ℕ, ◌+◌, ◌*◌, Less, true, List, ◌++◌, length, sym, ap, ◌∙◌, subst, arith}
use Rattle.monomials.specs.Monomials.{Monomial, plus, minus, divides}
use Rattle.monomials.specs.Polynomials.{Polynomial}
use Rattle.monomials.proofs.Modulo.{Same, same_refl, same_add, same_mul}
use Rattle.monomials.proofs.Weights.{weigh}
use Rattle.monomials.proofs.Keys.{Each-weaker}
use Rattle.word_model.specs.Words.{Algebra, sorted_word, normal_form}
use Rattle.word_model.specs.Conditions.{NonZero, IsGAlgebra}
use Rattle.word_model.proofs.Sums.{IsSum, sum_zero, sum_same, sum_add, sum_scale, sum_one, sum_all, sum_weaker}
use Rattle.word_model.proofs.LeadingMonomials.{order}
use Rattle.word_model.proofs.MultipleWeights.{IsSplit, split, Multiple, lead, IsThere, Fits, Under, lift, lift_fits, top_lift, length-lead, lower_under, under_lower, shifted_under}
use Rattle.word_model.proofs.CommonMultiples.{minus-multiple}

-- What tests see of multiples of the elements of G, and the values that do not count. A test behind a monomial u sees
-- of a multiple what the test sees of u times the multiple.
pub record Frame (A : Algebra) (G : List Polynomial) : Type 1 where
  pub Test : Type 0
  pub shift : Monomial → Test → Test
  pub weight : Test → Multiple → ℕ
  pub shifts : (u : Monomial) (k : Multiple) → length u ≡ A.order.vars → Fits A G k → (x : Test)
      → Same A.p (weight (shift u x) k) (weigh (λ m. weight x (m, k.1)) (normal_form A (sorted_word u ++ sorted_word k.0)))
  pub Void : (Test → ℕ) → Type 0
  pub void_zero : Void (λ x. 0)
  pub void_add : (F H : Test → ℕ) → Void F → Void H → Void (λ x. F x + H x)
  pub void_scale : (c : ℕ) (F : Test → ℕ) → Void F → Void (λ x. c * F x)
  pub void_shift : (u : Monomial) → length u ≡ A.order.vars → (F : Test → ℕ) → Void F → Void (λ x. F (shift u x))
  pub void_same : (F H : Test → ℕ) → ((x : Test) → Same A.p (H x) (F x)) → Void F → Void H

module _ (A : Algebra) (ok : IsGAlgebra A) (G : List Polynomial) (frame : Frame A G) where
  -- a value below t
  pub record IsLow (t : Monomial) (F : frame.Test → ℕ) : Type 0 where
    pub main : frame.Test → ℕ
    pub extra : frame.Test → ℕ
    pub sum : IsSum A.p frame.weight (Under A G t) main
    pub void : frame.Void extra
    pub value : (x : frame.Test) → Same A.p (F x) (main x + extra x)

  pub low_sum : (t : Monomial) (F : frame.Test → ℕ) → IsSum A.p frame.weight (Under A G t) F → IsLow t F
  low_sum t F s = record { main = F; extra = λ x. 0; sum = s; void = frame.void_zero; value = λ x. same_refl A.p _ _ (more (F x)) }
    where
      more : (x : ℕ) → x ≡ x + 0
      more x = omega arith

  pub low_void : (t : Monomial) (F : frame.Test → ℕ) → frame.Void F → IsLow t F
  low_void t F v = record { main = λ x. 0; extra = F; sum = sum_zero A.p frame.weight (Under A G t); void = v; value = λ x. same_refl A.p _ _ (more (F x)) }
    where
      more : (x : ℕ) → x ≡ 0 + x
      more x = omega arith

  pub low_zero : (t : Monomial) → IsLow t (λ x. 0)
  low_zero t = low_void t (λ x. 0) frame.void_zero

  pub low_one : (t : Monomial) (k : Multiple) → Under A G t k → IsLow t (λ x. frame.weight x k)
  low_one t k h = low_sum t (λ x. frame.weight x k) (sum_one A.p frame.weight (Under A G t) k h)

  pub low_same : (t : Monomial) (F H : frame.Test → ℕ) → ((x : frame.Test) → Same A.p (H x) (F x)) → IsLow t F → IsLow t H
  low_same t F H e l = record { main = l.main; extra = l.extra; sum = l.sum; void = l.void; value = λ x. e x ∙ l.value x }

  pub low_add : (t : Monomial) (F H : frame.Test → ℕ) → IsLow t F → IsLow t H → IsLow t (λ x. F x + H x)
  low_add t F H a b = record {
    main = λ x. a.main x + b.main x;
    extra = λ x. a.extra x + b.extra x;
    sum = sum_add A.p frame.weight (Under A G t) a.main b.main a.sum b.sum;
    void = frame.void_add a.extra b.extra a.void b.void;
    value = λ x. same_add A.p (F x) (a.main x + a.extra x) (H x) (b.main x + b.extra x) (a.value x) (b.value x) ∙ same_refl A.p _ _ (regroup (a.main x) (a.extra x) (b.main x) (b.extra x));
  }
    where
      regroup : (w x y z : ℕ) → w + x + (y + z) ≡ w + y + (x + z)
      regroup w x y z = omega arith

  pub low_scale : (t : Monomial) (c : ℕ) (F : frame.Test → ℕ) → IsLow t F → IsLow t (λ x. c * F x)
  low_scale t c F a = record {
    main = λ x. c * a.main x;
    extra = λ x. c * a.extra x;
    sum = sum_scale A.p frame.weight (Under A G t) c a.main a.sum;
    void = frame.void_scale c a.extra a.void;
    value = λ x. same_mul A.p c (F x) (a.main x + a.extra x) (a.value x) ∙ same_refl A.p _ _ (regroup (a.main x) (a.extra x));
  }
    where
      regroup : (x y : ℕ) → c * (x + y) ≡ c * x + c * y
      regroup x y = omega arith

  pub low_weaker : (t t' : Monomial) (F : frame.Test → ℕ) → order A t t' ≡ Less → IsLow t F → IsLow t' F
  low_weaker t t' F less l =
      record { main = l.main; extra = l.extra; sum = sum_weaker A.p frame.weight (Under A G t) (Under A G t') (under_lower A G t t' less) l.main l.sum; void = l.void; value = l.value }

  -- ---- multiples of values

  -- u times a multiple below t
  one_shifted : (u t : Monomial) (k : Multiple) → length u ≡ A.order.vars → length t ≡ A.order.vars → Under A G t k
      → IsSum A.p frame.weight (Under A G (plus u t)) (λ x. frame.weight (frame.shift u x) k)
  one_shifted u t k hu ht under =
      sum_same A.p frame.weight (Under A G (plus u t)) (λ x. weigh (λ m. frame.weight x (m, k.1)) (normal_form A (sorted_word u ++ sorted_word k.0))) (λ x. frame.weight (frame.shift u x) k)
      (frame.shifts u k hu under.0)
      (sum_all A.p frame.weight (Under A G (plus u t)) (λ m x. frame.weight x (m, k.1)) (normal_form A (sorted_word u ++ sorted_word k.0))
      (Each-weaker _ _ (λ e h. sum_one A.p frame.weight (Under A G (plus u t)) (e.1, k.1) h) (normal_form A (sorted_word u ++ sorted_word k.0)) (shifted_under A G ok u t k hu ht under)))

  -- u times a value below t is below u t
  pub low_shift : (u t : Monomial) → length u ≡ A.order.vars → length t ≡ A.order.vars → (F : frame.Test → ℕ) → IsLow t F → IsLow (plus u t) (λ x. F (frame.shift u x))
  low_shift u t hu ht F l = record {
    main = λ x. l.main (frame.shift u x);
    extra = λ x. l.extra (frame.shift u x);
    sum =
        sum_same A.p frame.weight (Under A G (plus u t)) (λ x. weigh (λ k. frame.weight (frame.shift u x) k) l.sum.terms) (λ x. l.main (frame.shift u x))
        (λ x. l.sum.value (frame.shift u x))
        (sum_all A.p frame.weight (Under A G (plus u t)) (λ k x. frame.weight (frame.shift u x) k) l.sum.terms
        (Each-weaker _ _ (λ e under. one_shifted u t e.1 hu ht under) l.sum.terms l.sum.each));
    void = frame.void_shift u hu l.extra l.void;
    value = λ x. l.value (frame.shift u x);
  }

  -- u times the multiple with leading monomial t is that with u t, times a number that is not zero, and what is below
  pub record IsLifted (u t : Monomial) (i : ℕ) : Type 0 where
    pub number : ℕ
    pub nonzero : NonZero A.p number
    pub rest : frame.Test → ℕ
    pub low : IsLow (plus u t) rest
    pub value : (x : frame.Test) → Same A.p (frame.weight (frame.shift u x) (lift A G t i)) (number * frame.weight x (lift A G (plus u t) i) + rest x)

  pub lifted : (u t : Monomial) (i : ℕ) → length u ≡ A.order.vars → length t ≡ A.order.vars → IsThere A G i → divides (lead A G i) t ≡ true → IsLifted u t i
  lifted u t i hu ht there d =
      let k : Multiple = lift A G t i in
      let fits : Fits A G k = lift_fits A G t i ht there in
      let s : IsSplit A ok u k.0 = split A ok u k.0 hu fits.0 in
      let same : plus u (minus t (lead A G i)) ≡ minus (plus u t) (lead A G i) = sym (minus-multiple u t (lead A G i) (hu ∙ sym ht) (length-lead A G i there ∙ sym ht) d) in
      record {
        number = s.number;
        nonzero = s.nonzero;
        rest = λ x. weigh (λ m. frame.weight x (m, i)) s.lower;
        low =
            low_sum (plus u t) (λ x. weigh (λ m. frame.weight x (m, i)) s.lower)
            (sum_all A.p frame.weight (Under A G (plus u t)) (λ m x. frame.weight x (m, i)) s.lower
            (Each-weaker _ _ (λ e b. sum_one A.p frame.weight (Under A G (plus u t)) (e.1, i)
            (subst (λ x. Under A G (plus u x) (e.1, i)) (top_lift A G t i ht there d) (lower_under A G u k e.1 hu fits b.0 b.1))) s.lower s.below));
        value = λ x.
            frame.shifts u k hu fits x ∙ same_refl A.p _ _ (ap (λ f. weigh (λ m. frame.weight x (m, i)) f) s.is)
            ∙ same_refl A.p _ _ (ap (λ m. s.number * frame.weight x (m, i) + weigh (λ m. frame.weight x (m, i)) s.lower) same);
      }
