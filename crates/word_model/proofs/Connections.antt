-- Two elements are connected at a monomial that both leading monomials divide where their multiples with that leading
-- monomial differ by a factor and by what is below it.
use Rattle.std.proofs.Common.{◌≡◌, ℕ, ◌+◌, ◌-◌, ◌*◌, ◌<◌, true, List, length, refl, sym, ◌∙◌, subst, arith}
use Rattle.monomials.specs.Monomials.{Monomial, plus, minus, lcm, divides}
use Rattle.monomials.specs.Polynomials.{Polynomial}
use Rattle.monomials.proofs.Modulo.{Same, same_refl, same_mul, same_mul_right, same_lin, same_move}
use Rattle.word_model.specs.Words.{Algebra}
use Rattle.word_model.specs.Conditions.{NonZero, IsGAlgebra}
use Rattle.word_model.proofs.LeadingMonomials.{NonZero-product, NonZero-below}
use Rattle.word_model.proofs.Divisions.{length-minus, plus-minus}
use Rattle.word_model.proofs.CommonMultiples.{length-lcm, lcm-comm, divides-lcm, divides-lcm_second, lcm-divides}
use Rattle.word_model.proofs.MultipleWeights.{lead, IsThere, length-lead, lift}
use Rattle.word_model.proofs.Frames.{Frame, IsLow, low_zero, low_add, low_scale, low_shift, IsLifted, lifted}

-- ---- factors

module _ (A : Algebra) (ok : IsGAlgebra A) where
  pub positive : 0 < A.p
  positive = let more : 1 < A.p = ok.field.more in omega arith

  pub one_nonzero : NonZero A.p 1
  one_nonzero = NonZero-below A.p 1 (omega arith) ok.field.more

  -- a number with an inverse is not zero
  pub inverse_nonzero : (a b : ℕ) → Same A.p (b * a) 1 → NonZero A.p b
  inverse_nonzero a b e z = one_nonzero (sym e ∙ same_mul_right A.p a b 0 z ∙ same_refl A.p _ _ (omega arith))

  -- a factor with an inverse is divided away
  pub solved : (k e x y : ℕ) → Same A.p (e * k) 1 → Same A.p (k * x) y → Same A.p x (e * y)
  solved k e x y inv h =
      let a : x ≡ 1 * x = omega arith in
      let b : e * k * x ≡ e * (k * x) = omega arith in
      same_refl A.p _ _ a ∙ same_mul_right A.p x 1 (e * k) (sym inv) ∙ same_refl A.p _ _ b ∙ same_mul A.p e (k * x) y h

module _ (A : Algebra) (ok : IsGAlgebra A) (G : List Polynomial) (frame : Frame A G) where
  pub record Connected (t : Monomial) (i j : ℕ) : Type 0 where
    pub factor : ℕ
    pub nonzero : NonZero A.p factor
    pub rest : frame.Test → ℕ
    pub low : IsLow A ok G frame t rest
    pub value : (x : frame.Test) → Same A.p (frame.weight x (lift A G t i)) (factor * frame.weight x (lift A G t j) + rest x)

  pub connected_refl : (t : Monomial) (i : ℕ) → Connected t i i
  connected_refl t i = record { factor = 1; nonzero = one_nonzero A ok; rest = λ x. 0; low = low_zero A ok G frame t; value = λ x. same_refl A.p _ _ (once (frame.weight x (lift A G t i))) }
    where
      once : (x : ℕ) → x ≡ 1 * x + 0
      once x = omega arith

  pub connected_trans : (t : Monomial) (i j k : ℕ) → Connected t i j → Connected t j k → Connected t i k
  connected_trans t i j k a b = record {
    factor = a.factor * b.factor;
    nonzero = NonZero-product A.p a.factor b.factor ok.field a.nonzero b.nonzero;
    rest = λ x. a.factor * b.rest x + a.rest x;
    low = low_add A ok G frame t (λ x. a.factor * b.rest x) a.rest (low_scale A ok G frame t a.factor b.rest b.low) a.low;
    value = λ x.
        a.value x ∙ same_lin A.p a.factor _ _ (a.rest x) (a.rest x) (b.value x) refl
        ∙ same_refl A.p _ _ (regroup a.factor b.factor (frame.weight x (lift A G t k)) (b.rest x) (a.rest x));
  }
    where
      regroup : (c d x y z : ℕ) → c * (d * x + y) + z ≡ c * d * x + (c * y + z)
      regroup c d x y z = omega arith

  pub connected_sym : (t : Monomial) (i j : ℕ) → Connected t i j → Connected t j i
  connected_sym t i j a =
      let u : (b : ℕ) × Same A.p (b * a.factor) 1 = ok.field.unit a.factor a.nonzero in
      record {
        factor = u.0;
        nonzero = inverse_nonzero A ok a.factor u.0 u.1;
        rest = λ x. u.0 * ((A.p - 1) * a.rest x);
        low = low_scale A ok G frame t u.0 (λ x. (A.p - 1) * a.rest x) (low_scale A ok G frame t (A.p - 1) a.rest a.low);
        value = λ x.
            solved A ok a.factor u.0 (frame.weight x (lift A G t j)) (frame.weight x (lift A G t i) + (A.p - 1) * a.rest x) u.1
            (same_move A.p (frame.weight x (lift A G t i)) (a.factor * frame.weight x (lift A G t j)) (a.rest x) (positive A ok) (a.value x))
            ∙ same_refl A.p _ _ (spread u.0 (frame.weight x (lift A G t i)) ((A.p - 1) * a.rest x));
      }
    where
      spread : (c x y : ℕ) → c * (x + y) ≡ c * x + c * y
      spread c x y = omega arith

  -- what is connected at a monomial is connected at its multiples
  pub connected_up : (u t : Monomial) (i j : ℕ) → length u ≡ A.order.vars → length t ≡ A.order.vars → IsThere A G i → IsThere A G j
      → divides (lead A G i) t ≡ true → divides (lead A G j) t ≡ true → Connected t i j → Connected (plus u t) i j
  connected_up u t i j hu ht ti tj di dj c =
      let w : Monomial = plus u t in
      let si : IsLifted A ok G frame u t i = lifted A ok G frame u t i hu ht ti di in
      let sj : IsLifted A ok G frame u t j = lifted A ok G frame u t j hu ht tj dj in
      let v : (b : ℕ) × Same A.p (b * si.number) 1 = ok.field.unit si.number si.nonzero in
      let moved : frame.Test → ℕ = λ (x : frame.Test). c.rest (frame.shift u x) in
      record {
        factor = v.0 * (c.factor * sj.number);
        nonzero =
            NonZero-product A.p v.0 (c.factor * sj.number) ok.field (inverse_nonzero A ok si.number v.0 v.1)
            (NonZero-product A.p c.factor sj.number ok.field c.nonzero sj.nonzero);
        rest = λ x. v.0 * ((c.factor * sj.rest x + moved x) + (A.p - 1) * si.rest x);
        low =
            low_scale A ok G frame w v.0 (λ x. (c.factor * sj.rest x + moved x) + (A.p - 1) * si.rest x)
            (low_add A ok G frame w (λ x. c.factor * sj.rest x + moved x) (λ x. (A.p - 1) * si.rest x)
            (low_add A ok G frame w (λ x. c.factor * sj.rest x) moved (low_scale A ok G frame w c.factor sj.rest sj.low) (low_shift A ok G frame u t hu ht c.rest c.low))
            (low_scale A ok G frame w (A.p - 1) si.rest si.low));
        value = λ x.
            (let b : ℕ = frame.weight x (lift A G w j) in
            let both : Same A.p (c.factor * (sj.number * b + sj.rest x) + moved x) (si.number * frame.weight x (lift A G w i) + si.rest x) =
            same_lin A.p c.factor _ _ (moved x) (moved x) (sym (sj.value x)) refl ∙ sym (c.value (frame.shift u x)) ∙ si.value x in
            solved A ok si.number v.0 (frame.weight x (lift A G w i)) _ v.1
            (same_move A.p (c.factor * (sj.number * b + sj.rest x) + moved x) (si.number * frame.weight x (lift A G w i)) (si.rest x) (positive A ok) both)
            ∙ same_refl A.p _ _ (regroup v.0 c.factor sj.number b (sj.rest x) (moved x) ((A.p - 1) * si.rest x)));
      }
    where
      regroup : (v c s b r m z : ℕ) → v * ((c * (s * b + r) + m) + z) ≡ v * (c * s) * b + v * ((c * r + m) + z)
      regroup v c s b r m z = omega arith

  -- the least common multiple of two leading monomials
  abbrev pub common : ℕ → ℕ → Monomial
  common i j = lcm (lead A G i) (lead A G j)

  pub same_lengths : (i j : ℕ) → IsThere A G i → IsThere A G j → length (lead A G i) ≡ length (lead A G j)
  same_lengths i j ti tj = length-lead A G i ti ∙ sym (length-lead A G j tj)

  pub length-common : (i j : ℕ) → IsThere A G i → IsThere A G j → length (common i j) ≡ A.order.vars
  length-common i j ti tj = length-lcm (lead A G i) (lead A G j) (same_lengths i j ti tj) ∙ length-lead A G i ti

  pub divides-common : (i j : ℕ) → IsThere A G i → IsThere A G j → divides (lead A G i) (common i j) ≡ true
  divides-common i j ti tj = divides-lcm (lead A G i) (lead A G j) (same_lengths i j ti tj)

  pub divides-common_second : (i j : ℕ) → IsThere A G i → IsThere A G j → divides (lead A G j) (common i j) ≡ true
  divides-common_second i j ti tj = divides-lcm_second (lead A G i) (lead A G j) (same_lengths i j ti tj)

  -- what is connected at the least common multiple is connected at each common multiple
  pub at_multiple : (t : Monomial) (i j : ℕ) → length t ≡ A.order.vars → IsThere A G i → IsThere A G j
      → divides (lead A G i) t ≡ true → divides (lead A G j) t ≡ true → Connected (common i j) i j → Connected t i j
  at_multiple t i j ht ti tj di dj c =
      let l : Monomial = common i j in
      let hl : length l ≡ A.order.vars = length-common i j ti tj in
      let d : divides l t ≡ true = lcm-divides (lead A G i) (lead A G j) t (same_lengths i j ti tj) di dj in
      subst (λ t. Connected t i j) (plus-minus t l (ht ∙ sym hl) d)
      (connected_up (minus t l) l i j (length-minus t l (ht ∙ sym hl) ∙ ht) hl ti tj (divides-common i j ti tj) (divides-common_second i j ti tj) c)

  -- connected at the least common multiple
  abbrev pub Linked : ℕ → ℕ → Type 0
  Linked i j = Connected (common i j) i j

  pub linked_turn : (i j : ℕ) → Linked i j → Linked j i
  linked_turn i j c = subst (λ t. Connected t j i) (lcm-comm (lead A G i) (lead A G j)) (connected_sym (common i j) i j c)

  -- The chain rule: where both are linked with a third element whose leading monomial divides their common multiple, they
  -- are linked.
  pub linked_chain : (i j w : ℕ) → IsThere A G i → IsThere A G j → IsThere A G w → divides (lead A G w) (common i j) ≡ true → Linked w i → Linked w j → Linked i j
  linked_chain i j w ti tj tw d ci cj =
      let t : Monomial = common i j in
      let ht : length t ≡ A.order.vars = length-common i j ti tj in
      connected_trans t i w j
      (connected_sym t w i (at_multiple t w i ht tw ti d (divides-common i j ti tj) ci))
      (at_multiple t w j ht tw tj d (divides-common_second i j ti tj) cj)

  -- all pairs of elements are linked
  pub record AllLinked : Type 0 where
    pub pair : (i j : ℕ) → IsThere A G i → IsThere A G j → Linked i j
