use Rattle.std.proofs.Common.{◌≡◌, ℕ, ◌<◌, ◌≤◌, ◌∙◌, [], length, drop, get_or, sym, ap, subst, arith, append-nil}
use Rattle.std.proofs.lemmas.List.{drop_all}
use Rattle.monomials.specs.Orders.{order_cmp}
use Rattle.monomials.specs.Polynomials.{HasNumbers, IsPolynomial, poly_degree, poly_scale}
use Rattle.monomials.proofs.Operations.{HasNumbers-canonical}
use Rattle.gpoly.proofs.Lists.{Each-get_or}
use Rattle.word_model.specs.Words.{IsWord, sorted_word}
use Rattle.word_model.specs.Products.{times_letters}
use Rattle.word_model.proofs.Letters.{IsWord-sorted_word, length-word_from}
use Rattle.word_model.proofs.TermProducts.{product-term}
use Rattle.algebra.proofs.Letterwise.{poly_degree-poly_scale, letters_more, degree_more}
use Rattle.algebra.proofs.Algebra.times_term.Goals as goal
use Rattle.algebra.proofs.Algebra.times_term.Goals.{After-deref-letter-items}

pub scale-requires-clause-numbers : goal.scale-requires-clause-numbers
scale-requires-clause-numbers c =
    let a = c.args.self.now in
    subst (λ p. HasNumbers p c.args.f.now) (sym c.field.ensures) (HasNumbers-canonical (order_cmp a.order.rows) a.p c.args.f.now c.requires.sorted.canonical)

-- the letters are those of the sorted word
letters : (c : After-deref-letter-items) → c.deref-letter-items.result.now ≡ sorted_word c.args.term.now.mono
letters c = c.deref-letter-items.ensures.value ∙ c.in_ok-word.ensures ∙ append-nil (sorted_word c.args.term.now.mono)

-- a letter at an index is a variable
letter_at : (c : After-deref-letter-items) (i : ℕ) → i < length c.deref-letter-items.result.now
    → (1 ≤ get_or c.deref-letter-items.result.now i 0) × (get_or c.deref-letter-items.result.now i 0 ≤ c.args.self.now.order.vars)
letter_at c i inside =
    let n = c.args.self.now.order.vars in
    Each-get_or (λ v. (1 ≤ v) × (v ≤ n)) c.deref-letter-items.result.now i 0 inside
    (subst (IsWord n) (sym (letters c)) (IsWord-sorted_word n c.args.term.now.mono c.requires.vars))

pub loop-letter-init : goal.loop-letter-init
loop-letter-init c =
    let a = c.args.self.now in
    let f = c.args.f.now in
    let k = c.args.term.now.coef in
    let start : c.in_ok-product.product ≡ poly_scale a.p k f = c.in_ok-product.ensures.value ∙ ap (λ p. poly_scale p k f) c.field.ensures in
    record {
      sorted =
          subst (λ p. IsPolynomial p a.order c.in_ok-product.product) c.field.ensures
          (c.in_ok-product.ensures.sorted a.order (subst (λ p. IsPolynomial p a.order f) (sym c.field.ensures) c.requires.sorted));
      within = omega (arith, ap poly_degree start, poly_degree-poly_scale a.p k f, ap length (letters c), length-word_from 1 c.args.term.now.mono, c.requires.within);
      value = λ i. times_letters a (start i) (letters c i);
    }

pub times_letter-requires-clause-first : goal.times_letter-requires-clause-first
times_letter-requires-clause-first c =
    (letter_at (goal.at.times_letter-requires-clause-first c).After-deref-letter-items c.loop-letter.letter-index c.loop-letter-test.true).0

pub times_letter-requires-clause-last : goal.times_letter-requires-clause-last
times_letter-requires-clause-last c =
    (letter_at (goal.at.times_letter-requires-clause-last c).After-deref-letter-items c.loop-letter.letter-index c.loop-letter-test.true).1

pub loop-letter-preserved : goal.loop-letter-preserved
loop-letter-preserved c =
    let a = c.args.self.now in
    let w = c.deref-letter-items.result.now in
    let i = c.loop-letter.letter-index in
    let h = letter_at (goal.at.loop-letter-preserved c).After-deref-letter-items i c.loop-letter-test.true in
    record {
      sorted = c.in_ok-product-2.ensures.sorted;
      within =
          degree_more a c.n-n.ensures.accepted.downward c.loop-letter.product c.in_ok-product-2.product w i c.loop-letter-test.true
          c.loop-letter.invariant.sorted.vars h.0 h.1 c.in_ok-product-2.ensures.value c.loop-letter.invariant.within;
      value = letters_more a c.loop-letter.product c.in_ok-product-2.product w i c.loop-letter-test.true c.in_ok-product-2.ensures.value ∙ c.loop-letter.invariant.value;
    }

pub returns-clause-value : goal.returns-clause-value
returns-clause-value c =
    let a = c.args.self.now in
    let w = c.deref-letter-items.result.now in
    let t = c.args.term.now in
    let accepted = c.n-n.ensures.accepted in
    let none : drop c.loop-letter.letter-index w ≡ [] = drop_all c.loop-letter.letter-index w c.loop-letter-test.false in
    sym (ap (times_letters a c.loop-letter.product) none)
    ∙ c.loop-letter.invariant.value
    ∙ sym (product-term a c.n-n.ensures.prime.above_one accepted.downward accepted.confluent c.args.f.now t.coef t.mono c.requires.sorted c.requires.vars)
