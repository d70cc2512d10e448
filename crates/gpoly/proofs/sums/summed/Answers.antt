use Rattle.std.proofs.Common.{◌<◌, ◌∙◌, sym, ap, subst, arith, List, ℤ, reverse}
use Rattle.std.proofs.lemmas.List.Sorted.{IsPermutation-map}
use Rattle.std.proofs.lemmas.Result.{IfOk-weaker}
use Rattle.monomials.specs.Orders.{order_cmp}
use Rattle.monomials.specs.Polynomials.{HasNumbers, IsCanonical, from_terms}
use Rattle.monomials.proofs.Canonical.{from_terms-canonical}
use Rattle.monomials.proofs.OrderLaws.{order_cmp_total, order_cmp_tied}
use Rattle.gpoly.specs.declared.Term.{Term}
use Rattle.gpoly.specs.Terms.{pair_of, pairs_of}
use Rattle.gpoly.specs.Inside.Sorting.{IsFalling}
use Rattle.gpoly.proofs.Lists.{Each-IsPermutation}
use Rattle.gpoly.proofs.Sorting.{sum_of_sorted}
use Rattle.gpoly.proofs.sums.summed.Goals as goal

pub rising_sums-requires : goal.rising_sums-requires
rising_sums-requires c =
    let rising : List Term = c.in_ok-rising.rising.items in
    subst (λ (ts : List Term). HasNumbers c.args.field (pairs_of ts)) (sym c.deref.ensures.value)
    (Each-IsPermutation (λ t. t.0 < c.args.field) (pairs_of c.args.terms.now) (pairs_of rising)
    (IsPermutation-map pair_of c.args.terms.now rising c.in_ok-rising.ensures.moved) c.requires.numbers)

pub returns : goal.returns
returns c =
    let rising : List Term = c.in_ok-rising.rising.items in
    let falls : IsFalling (order_cmp c.args.order.now.rows) (reverse (pairs_of c.deref.result.now)) =
    subst (λ (ts : List Term). IsFalling (order_cmp c.args.order.now.rows) (reverse (pairs_of ts))) (sym c.deref.ensures.value) c.in_ok-rising.ensures.rises in
    ap pairs_of c.reverse.ensures.items
    ∙ sum_of_sorted c.args.order.now c.args.field c.args.terms.now rising c.in_ok-sums.sums.items (omega (arith, c.p-p.ensures.prime.above_one))
    c.in_ok-rising.ensures.moved
    (c.in_ok-sums.ensures c.args.order.now.rows falls
    ∙ ap (λ (ts : List Term). from_terms (order_cmp c.args.order.now.rows) c.args.field (reverse (pairs_of ts))) c.deref.ensures.value)

-- terms that fall already are their sum
pub returns-then-falls : goal.returns-then-falls
returns-then-falls c =
    let rows : List (List ℤ) = c.args.order.now.rows in
    let pos : 0 < c.args.field = omega (arith, c.p-p.ensures.prime.above_one) in
    let canonical : IsCanonical (order_cmp rows) c.args.field (pairs_of c.args.terms.now) = c.falls.ensures c.if-falls.true c.args.field c.requires.numbers in
    IfOk-weaker c.from_slice.result _ _
    (λ sums e. ap pairs_of e ∙ sym (from_terms-canonical (order_cmp rows) (order_cmp_total rows) (order_cmp_tied rows) c.args.field pos (pairs_of c.args.terms.now) canonical))
    c.from_slice.ensures.items
