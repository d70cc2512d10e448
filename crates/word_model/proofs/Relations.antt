-- Where all pairs of elements are linked up to values that do not count, a sum of multiples whose value is zero does not
-- count.
use Rattle.std.proofs.Common.{◌≡◌, ℕ, ◌+◌, ◌*◌, ⊎_elim, List, [], ◌∷◌, length, refl, sym, ap, ◌∙◌, subst, arith}
use Rattle.monomials.specs.Monomials.{Monomial}
use Rattle.monomials.specs.Polynomials.{Polynomial}
use Rattle.monomials.specs.WellFounded.{IsWellFounded, IsBelow}
use Rattle.monomials.proofs.Modulo.{Same, same_refl, same_add, same_lin}
use Rattle.monomials.proofs.Weights.{weigh, weigh_alike_on}
use Rattle.monomials.proofs.OrderLaws.{order_cmp_total, order_cmp_tied}
use Rattle.monomials.proofs.Canonical.{only_at, only_at-same, only_at-below, turn}
use Rattle.monomials.proofs.Keys.{Each-weaker, EachKey}
use Rattle.monomials.proofs.WellFoundedness.{monomial_induction}
use Rattle.word_model.specs.Words.{Algebra}
use Rattle.word_model.specs.Conditions.{NonZero, IsGAlgebra}
use Rattle.word_model.proofs.LeadingMonomials.{order, NonZero-product, Leads, VanishesBelow}
use Rattle.word_model.proofs.MultipleWeights.{Multiple, multiple_weight, Fits, Under, AtMost, top, length-top, lift, lift_fits, top_lift, multiple_leads}
use Rattle.word_model.proofs.Frames.{Frame, IsLow}
use Rattle.word_model.proofs.Connections.{AllLinked}
use Rattle.word_model.proofs.Collecting.{Greatest, greatest, IsTopped, topped_or_low, collect}
use Rattle.word_model.proofs.Criterion.{sum_vanishes}

module _ (A : Algebra) (ok : IsGAlgebra A) (G : List Polynomial) (frame : Frame A G) (all : AllLinked A ok G frame) (well : IsWellFounded A.order)
    (test : (Monomial → ℕ) → frame.Test) (tested : (φ : Monomial → ℕ) (k : Multiple) → Fits A G k → Same A.p (frame.weight (test φ) k) (multiple_weight A G φ k))
    (killed : (F : frame.Test → ℕ) → frame.Void F → (φ : Monomial → ℕ) → Same A.p (F (test φ)) 0) where
  at_tests : (r : List (ℕ × Multiple)) → EachKey (Fits A G) r → (φ : Monomial → ℕ) → Same A.p (weigh (frame.weight (test φ)) r) (weigh (multiple_weight A G φ) r)
  at_tests r h φ = weigh_alike_on A.p (frame.weight (test φ)) (multiple_weight A G φ) r (Each-weaker _ _ (λ e f. tested φ e.1 f) r h)

  -- the weight that is 1 at t alone
  abbrev at : Monomial → Monomial → ℕ
  at t = only_at (order A) t

  at_itself : (t : Monomial) → at t t ≡ 1
  at_itself t = only_at-same (order A) (order_cmp_total A.order.rows) (order_cmp_tied A.order.rows) A.p t

  at_below : (t : Monomial) → VanishesBelow A (at t) t
  at_below t m less =
      only_at-below (order A) (order_cmp_total A.order.rows) (order_cmp_tied A.order.rows) A.p t m
      (turn (order A) (order_cmp_total A.order.rows) (order_cmp_tied A.order.rows) A.p m t less)

  -- what is below t weighs nothing there
  low_at : (t : Monomial) (F : frame.Test → ℕ) → IsLow A ok G frame t F → Same A.p (F (test (at t))) 0
  low_at t F l =
      let φ : Monomial → ℕ = at t in
      l.value (test φ)
      ∙ same_add A.p _ _ _ _
      (l.sum.value (test φ) ∙ at_tests l.sum.terms (Each-weaker _ _ (λ e u. u.0) l.sum.terms l.sum.each) φ
      ∙ sum_vanishes A ok G t (λ φ. weigh (multiple_weight A G φ) l.sum.terms) (record { terms = l.sum.terms; each = l.sum.each; value = λ φ. refl }) φ (at_below t))
      (killed l.extra l.void φ)
      ∙ same_refl A.p _ _ (omega arith)

  -- a value that is nothing has no part at t
  no_top : (t : Monomial) → length t ≡ A.order.vars → (F : frame.Test → ℕ) → ((φ : Monomial → ℕ) → Same A.p (F (test φ)) 0) → IsTopped A ok G frame t F → IsLow A ok G frame t F
  no_top t ht F zero p = ⊎_elim (λ low. low) (λ nonzero. absurd (never nonzero)) (topped_or_low A ok G frame t F p)
    where
      once : (x : ℕ) → x * 1 ≡ x
      once x = omega arith

      more : (x : ℕ) → x ≡ x + 0
      more x = omega arith

      never : NonZero A.p p.number → ⊥
      never nonzero =
          let k : Multiple = lift A G t p.i in
          let fits : Fits A G k = lift_fits A G t p.i ht p.there in
          let l : Leads A t (λ φ. multiple_weight A G φ k) =
          subst (λ m. Leads A m (λ φ. multiple_weight A G φ k)) (top_lift A G t p.i ht p.there p.divides_it) (multiple_leads A G ok k fits) in
          let φ : Monomial → ℕ = at t in
          let one : Same A.p (frame.weight (test φ) k) l.0 =
          tested φ k fits ∙ l.2 φ (at_below t) ∙ same_refl A.p _ _ (ap (λ x. l.0 * x) (at_itself t) ∙ once l.0) in
          let sum : Same A.p (p.number * l.0 + 0) 0 = sym (same_lin A.p p.number _ _ _ _ one (low_at t p.rest p.low)) ∙ sym (p.value (test φ)) ∙ zero φ in
          NonZero-product A.p p.number l.0 ok.field nonzero l.1 (same_refl A.p _ _ (more (p.number * l.0)) ∙ sum)

  -- what there is to show, of sums at most t
  abbrev Falls : Monomial → Type 0
  Falls t = (r : List (ℕ × Multiple)) → EachKey (AtMost A G t) r → ((φ : Monomial → ℕ) → Same A.p (weigh (multiple_weight A G φ) r) 0) → frame.Void (λ x. weigh (frame.weight x) r)

  lower : (t : Monomial) → ((a : Monomial) → IsBelow A.order a t → Falls a) → (s : List (ℕ × Multiple)) → EachKey (Under A G t) s
      → ((φ : Monomial → ℕ) → Same A.p (weigh (multiple_weight A G φ) s) 0) → frame.Void (λ x. weigh (frame.weight x) s)
  lower t again [] under zero = frame.void_zero
  lower t again (e ∷ s) under zero =
      let g : Greatest A G (Under A G t) (e ∷ s) = greatest A G (Under A G t) (λ k u. u.0) e s under in
      again (top A G g.0) (record { vars = length-top A G g.0 g.1.0; less = g.1.1 }) (e ∷ s) g.2 zero

  step : (t : Monomial) → length t ≡ A.order.vars → ((a : Monomial) → IsBelow A.order a t → Falls a) → Falls t
  step t ht again r h zero = by (⊎_elim (λ l. l) (λ p. no_top t ht (λ x. weigh (frame.weight x) r) at_zero p) (collect A ok G frame all t ht r h))
    where
      at_zero : (φ : Monomial → ℕ) → Same A.p (weigh (frame.weight (test φ)) r) 0
      at_zero φ = at_tests r (Each-weaker _ _ (λ e m. m.0) r h) φ ∙ zero φ

      more : (x : ℕ) → x ≡ x + 0
      more x = omega arith

      by : IsLow A ok G frame t (λ x. weigh (frame.weight x) r) → frame.Void (λ x. weigh (frame.weight x) r)
      by l =
          frame.void_same (λ x. weigh (frame.weight x) l.sum.terms + l.extra x) (λ x. weigh (frame.weight x) r)
          (λ x. l.value x ∙ same_add A.p _ _ (l.extra x) (l.extra x) (l.sum.value x) refl)
          (frame.void_add (λ x. weigh (frame.weight x) l.sum.terms) l.extra
          (lower t again l.sum.terms l.sum.each
          (λ φ.
          same_refl A.p _ _ (more (weigh (multiple_weight A G φ) l.sum.terms))
          ∙ sym (same_add A.p _ _ _ _ (l.sum.value (test φ) ∙ at_tests l.sum.terms (Each-weaker _ _ (λ e u. u.0) l.sum.terms l.sum.each) φ) (killed l.extra l.void φ))
          ∙ sym (l.value (test φ)) ∙ at_zero φ)) l.void)

  -- a sum of multiples whose value is zero does not count
  pub relation_void : (r : List (ℕ × Multiple)) → EachKey (Fits A G) r → ((φ : Monomial → ℕ) → Same A.p (weigh (multiple_weight A G φ) r) 0) → frame.Void (λ x. weigh (frame.weight x) r)
  relation_void [] h zero = frame.void_zero
  relation_void (e ∷ r) h zero =
      let g : Greatest A G (Fits A G) (e ∷ r) = greatest A G (Fits A G) (λ k fits. fits) e r h in
      monomial_induction A.order well Falls step (top A G g.0) (length-top A G g.0 g.1) (e ∷ r) g.2 zero
