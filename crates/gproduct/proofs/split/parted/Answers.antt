use Rattle.std.proofs.Common.{◌≡◌, ◌+◌, ◌*◌, ◌%◌, ◌<◌, ◌≤◌, ℕ, List, [], ◌∷◌, ◌++◌, length, take, slice_index_or, refl, sym, ap, ◌∙◌, subst, subst₂, arith}
use Rattle.std.proofs.lemmas.List.{take_all, map-append}
use Rattle.monomials.specs.Monomials.{Monomial, degree, plus}
use Rattle.monomials.specs.Polynomials.{Polynomial, poly_degree}
use Rattle.gpoly.specs.declared.Term.{Term}
use Rattle.gpoly.specs.Terms.{pair_of, pairs_of}
use Rattle.word_model.specs.Words.{Algebra}
use Rattle.word_model.specs.Conditions.{IsGAlgebra}
use Rattle.gproduct.specs.Inside.Passing.{IsParted}
use Rattle.gproduct.proofs.Sums.{pairs_more, term_at}
use Rattle.gproduct.proofs.Parted.{nothing_parted, passed_more, rest_more}
use Rattle.gproduct.proofs.split.parted.Goals as goal
use Rattle.gproduct.proofs.split.parted.Goals.{then-passes+in_ok-push, else-passes+in_ok-push-2}

pub passes-requires-clause-right : goal.passes-requires-clause-right
passes-requires-clause-right c =
    let A = c.args.seat.now.algebra in
    (term_at A.p A.order.vars c.args.terms.now c.loop-term.term-index c.term-item.result c.loop-term-test.true c.term-item.is c.requires.numbers c.requires.term_vars).1

pub mul-coef-requires-clause-b_in_range : goal.mul-coef-requires-clause-b_in_range
mul-coef-requires-clause-b_in_range c =
    let A = c.args.seat.now.algebra in
    let prime : c.field-field.result ≡ A.p = c.field-field.ensures ∙ ap (λ (A : Algebra). A.p) c.algebra-algebra.ensures in
    subst (λ p. c.term-item.result.coef < p) (sym prime)
    (term_at A.p A.order.vars c.args.terms.now c.loop-term.term-index c.term-item.result c.loop-term-test.true c.term-item.is c.requires.numbers c.requires.term_vars).0

pub plus-mono-requires-clause-same_length : goal.plus-mono-requires-clause-same_length
plus-mono-requires-clause-same_length c =
    let A = c.args.seat.now.algebra in
    c.requires.vars
    ∙ sym (term_at A.p A.order.vars c.args.terms.now c.loop-term.term-index c.term-item.result c.loop-term-test.true c.term-item.is c.requires.numbers c.requires.term_vars).1

pub plus-mono-requires-clause-small : goal.plus-mono-requires-clause-small
plus-mono-requires-clause-small c =
    let A = c.args.seat.now.algebra in
    omega (
      arith,
      (term_at A.p A.order.vars c.args.terms.now c.loop-term.term-index c.term-item.result c.loop-term-test.true c.term-item.is c.requires.numbers c.requires.term_vars).2,
      c.requires.within,
    )

pub loop-term-init : goal.loop-term-init
loop-term-init c =
    let A = c.args.seat.now.algebra in
    let downward = (subst (λ (A : Algebra). IsGAlgebra A) c.algebra-algebra.ensures c.n-n.ensures.accepted).downward in
    subst₂ (λ passed rest. IsParted A c.args.coef c.args.mono.now [] passed rest) (sym (ap pairs_of c.new-passed.ensures.items)) (sym (ap pairs_of c.new-rest.ensures.items))
    (nothing_parted A downward c.args.coef c.args.mono.now)

-- a step with the term at an index
module _ (A : Algebra) (k : ℕ) (m : Monomial) (ts : List Term) (i : ℕ) (t : Term) (inside : i < length ts) (is : t ≡ slice_index_or ts i t) where
  moved : (passed rest passed' rest' : Polynomial) → passed ≡ passed' → rest ≡ rest'
      → IsParted A k m (pairs_of (take i ts) ++ pair_of t ∷ []) passed rest → IsParted A k m (pairs_of (take (i + 1) ts)) passed' rest'
  moved passed rest passed' rest' p r h = rw (pairs_more ts i t inside is, sym p, sym r) h

pushed : (us vs : List Term) (t : Term) → vs ≡ us ++ t ∷ [] → pairs_of us ++ pair_of t ∷ [] ≡ pairs_of vs
pushed us vs t is = sym (ap pairs_of is ∙ map-append pair_of us (t ∷ []))

pub loop-term-preserved : goal.loop-term-preserved
loop-term-preserved c =
    let A = c.args.seat.now.algebra in
    let k : ℕ = c.args.coef in
    let m : Monomial = c.args.mono.now in
    let ts : List Term = c.args.terms.now in
    let i : ℕ = c.loop-term.term-index in
    let t : Term = c.term-item.result in
    let accepted : IsGAlgebra A = subst IsGAlgebra c.algebra-algebra.ensures c.n-n.ensures.accepted in
    let more : 0 < A.p = omega (arith, accepted.field.more) in
    let prime : c.field-field.result ≡ A.p = c.field-field.ensures ∙ ap (λ (A : Algebra). A.p) c.algebra-algebra.ensures in
    let is_term : (t.coef < A.p) × (length t.mono ≡ A.order.vars) × (degree t.mono ≤ poly_degree (pairs_of ts)) =
    term_at A.p A.order.vars ts i t c.loop-term-test.true c.term-item.is c.requires.numbers c.requires.term_vars in
    let small : degree m + degree t.mono ≤ 4095 = omega (arith, is_term.2, c.requires.within) in
    let passed : Polynomial = pairs_of c.loop-term.passed.items in
    let rest : Polynomial = pairs_of c.loop-term.rest.items in
    let passed' : Polynomial = pairs_of c.if-passes.passed.items in
    let rest' : Polynomial = pairs_of c.if-passes.rest.items in
    elim c.if-passes.branch [
      | then-passes+in_ok-push w ↦
          let number : w.mul-coef.result ≡ (k * t.coef) % A.p = w.mul-coef.ensures.value ∙ ap (λ p. (k * t.coef) % p) prime in
          let new : passed ++ ((k * t.coef) % A.p, plus m t.mono) ∷ [] ≡ passed' =
          (λ n. passed ++ (sym number n, sym w.plus-mono.ensures n) ∷ [])
          ∙ pushed c.loop-term.passed.items w.push.new.self.items (record { coef = w.mul-coef.result; mono = w.plus-mono.result }) w.in_ok-push.ensures.items
          ∙ ap (λ v. pairs_of v.items) (sym w.passed-is) in
          moved A k m ts i t c.loop-term-test.true c.term-item.is _ rest passed' rest' new (ap (λ v. pairs_of v.items) (sym w.rest-is))
          (passed_more A accepted.downward k m more c.requires.vars (pairs_of (take i ts)) passed rest c.loop-term.invariant (pair_of t) is_term.0 is_term.1 small (w.if-passes.ensures refl))
      | else-passes+in_ok-push-2 w ↦
          let new : rest ++ pair_of t ∷ [] ≡ rest' =
          pushed c.loop-term.rest.items w.push-else-passes.new.self.items t w.in_ok-push-2.ensures.items ∙ ap (λ v. pairs_of v.items) (sym w.rest-is) in
          moved A k m ts i t c.loop-term-test.true c.term-item.is passed _ passed' rest' (ap (λ v. pairs_of v.items) (sym w.passed-is)) new
          (rest_more A accepted.downward k m more c.requires.vars (pairs_of (take i ts)) passed rest c.loop-term.invariant (pair_of t) is_term.0 is_term.1 small)
    ]

pub returns : goal.returns
returns c =
    subst (λ ts. IsParted c.args.seat.now.algebra c.args.coef c.args.mono.now (pairs_of ts) (pairs_of c.loop-term.passed.items) (pairs_of c.loop-term.rest.items))
    (take_all c.loop-term.term-index c.args.terms.now c.loop-term-test.false) c.loop-term.invariant
