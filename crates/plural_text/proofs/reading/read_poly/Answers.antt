use Rattle.std.proofs.Common.{◌≡◌, ◌≢◌, ◌≤◌, [], codes, map, string_bytes, sym, ◌∙◌, ap, subst}
use Rattle.std.proofs.lemmas.Bool.{false≢true}
use Rattle.std.proofs.lemmas.Slice.Eq.{bytes_eq-Decides}
use Rattle.monomials.specs.Polynomials.{Each, IsPolynomial}
use Rattle.monomials.specs.Monomials.{degree}
use Rattle.gpoly.specs.Terms.{pairs_of}
use Rattle.gpoly.proofs.TermLists.{poly_degree_small}
use Rattle.word_model.specs.Texts.{polynomial_text}
use Rattle.plural_text.proofs.Rests.{spelled_from_terms}
use Rattle.plural_text.proofs.reading.read_poly.Goals as goal

pub returns-then-eq-2-clause-read : goal.returns-then-eq-2-clause-read
returns-then-eq-2-clause-read c =
    let alg = c.args.alg.now in
    let names = map string_bytes c.args.names.now in
    let bytes = c.args.bytes.now in
    let f = c.in_ok-f.f in
    let same : c.as_slice-2.result.now ≡ bytes = (bytes_eq-Decides c.as_slice-2.result.now bytes).0 (sym c.eq-2.ensures ∙ c.if-eq-2.true) in
    let printed : c.in_ok-text.text.items ≡ polynomial_text alg.p names f = c.in_ok-text.ensures in
    record {
      polynomial = subst (λ p. IsPolynomial p alg.order f) c.field.ensures (subst (λ order. IsPolynomial c.field.result order f) c.order.ensures c.in_ok-f.ensures.sorted);
      degree = poly_degree_small 4095 f (subst (Each (λ t. degree t.1 ≤ 4095)) c.f.view_is c.f.invariant.small);
      text = sym printed ∙ (sym c.as_slice-2.ensures.value ∙ same);
    }

pub returns-clause-not_poly : goal.returns-clause-not_poly
returns-clause-not_poly c = λ e f h.
    let alg = c.args.alg.now in
    let names = map string_bytes c.args.names.now in
    let bytes = c.args.bytes.now in
    let not_zero : bytes ≡ codes "0" → ⊥ =
    λ is. false≢true (sym c.if-eq.false ∙ (c.eq.ensures ∙ (bytes_eq-Decides bytes c.as_slice.result.now).1 (is ∙ sym c.as_slice.ensures))) in
    let nonzero : f ≢ [] = λ is. not_zero (sym h.text ∙ ap (polynomial_text alg.p names) is) in
    let terms : pairs_of c.deref.result.now ≡ f = ap pairs_of c.deref.ensures.value ∙ c.in_ok-terms.ensures.read f h nonzero in
    let read : c.in_ok-f.f ≡ f =
    spelled_from_terms alg.p c.field.result alg.order c.order.result.now names bytes f (pairs_of c.deref.result.now) c.in_ok-f.f c.field.ensures c.order.ensures h
    terms c.in_ok-f.ensures.value in
    let printed : c.in_ok-text.text.items ≡ polynomial_text alg.p names c.in_ok-f.f = c.in_ok-text.ensures in
    let same : c.as_slice-2.result.now ≡ bytes =
    c.as_slice-2.ensures.value ∙ (printed ∙ (ap (polynomial_text alg.p names) read ∙ h.text)) in
    false≢true (sym c.if-eq-2.false ∙ (c.eq-2.ensures ∙ (bytes_eq-Decides c.as_slice-2.result.now bytes).1 same))
