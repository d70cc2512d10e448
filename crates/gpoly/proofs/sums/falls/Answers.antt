use Rattle.std.proofs.Common.{rules, ◌≡◌, ◌<◌, ◌∷◌, [], List, length, sym, subst}
use Rattle.std.proofs.lemmas.List.{nil_from_length}
use Rattle.monomials.specs.Orders.{order_cmp}
use Rattle.monomials.specs.Polynomials.{HasNumbers, HasVars, IsAbove, IsCanonical}
use Rattle.gpoly.specs.declared.Term.{Term}
use Rattle.gpoly.specs.Terms.{pairs_of}
use Rattle.gpoly.proofs.sums.falls.Goals as goal

pub loop-term-preserved : goal.loop-term-preserved
loop-term-preserved c =
    let split : c.loop-term.left.now ≡ c.in-Some.term.now ∷ c.in-Some.rest.now = c.in-Some.ensures.cases.0 in
    let first : (0 < c.in-Some.term.now.coef) × IsAbove (order_cmp c.args.order.now.rows) c.in-Some.term.now.mono (pairs_of c.in-Some.rest.now) = search rules in
    record {
      vars = (subst (λ (ts : List Term). HasVars c.args.order.now.vars (pairs_of ts)) split c.loop-term.invariant.vars).1;
      numbers = λ p h. (subst (λ (ts : List Term). HasNumbers p (pairs_of ts)) split (c.loop-term.invariant.numbers p h)).1;
      whole = λ p h rest.
          c.loop-term.invariant.whole p h
          (subst (λ (ts : List Term). IsCanonical (order_cmp c.args.order.now.rows) p (pairs_of ts)) (sym split)
          (first.0, (subst (λ (ts : List Term). HasNumbers p (pairs_of ts)) split (c.loop-term.invariant.numbers p h)).0, first.1, rest));
    }

pub returns : goal.returns
returns c = λ done p h.
    let none : length c.loop-term.left.now ≡ 0 = search rules in
    let empty : c.loop-term.left.now ≡ [] = nil_from_length c.loop-term.left.now none in
    c.loop-term.invariant.whole p h (subst (λ (ts : List Term). IsCanonical (order_cmp c.args.order.now.rows) p (pairs_of ts)) (sym empty) tt)
