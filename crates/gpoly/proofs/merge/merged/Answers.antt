use Rattle.std.proofs.Common.{◌≡◌, ◌+◌, ◌%◌, ◌≤◌, ◌⊎◌, inl, inr, ◌∙◌, sym, ap, subst, List, length, drop, ◌++◌, [], arith}
use Rattle.std.proofs.lemmas.List.{take_rest}
use Rattle.monomials.specs.Polynomials.{HasNumbers, cons_nonzero, poly_scale}
use Rattle.monomials.proofs.Operations.{HasNumbers-polynomial}
use Rattle.gpoly.specs.declared.Term.{Term}
use Rattle.gpoly.specs.Terms.{pairs_of}
use Rattle.gpoly.proofs.Merging.{step_left, step_right, step_both, merge_ends}
use Rattle.gpoly.proofs.merge.merged.Goals as goal

pub loop-i-preserved-in-Greater : goal.loop-i-preserved-in-Greater
loop-i-preserved-in-Greater c = record {
  i_in = omega arith;
  j_in = c.loop-i.invariant.j_in;
  merging =
      step_left c.args.field c.args.order.now c.args.left.now c.args.k c.args.right.now (omega (arith, c.p-p.ensures.prime.above_one))
      c.loop-i.sum.items c.push.new.self.items c.loop-i.i c.loop-i.j c.index-left-i.result c.index-right-j.result
      (record { left_in = c.loop-i-test.true; right_in = c.if-j-right.true; left_is = c.index-left-i.is; right_is = c.index-right-j.is })
      c.loop-i.invariant.merging (sym c.in-Greater.ensures.value) c.in_ok-push-in-Greater.ensures.items;
}

pub loop-i-preserved-in-Less : goal.loop-i-preserved-in-Less
loop-i-preserved-in-Less c = record {
  i_in = c.loop-i.invariant.i_in;
  j_in = omega arith;
  merging =
      step_right c.args.field c.args.order.now c.args.left.now c.args.k c.args.right.now (omega (arith, c.p-p.ensures.prime.above_one))
      c.loop-i.sum.items c.push_nonzero.new.terms.items c.loop-i.i c.loop-i.j c.index-left-i.result c.index-right-j.result
      (record { left_in = c.loop-i-test.true; right_in = c.if-j-right.true; left_is = c.index-left-i.is; right_is = c.index-right-j.is })
      c.loop-i.invariant.merging (sym c.in-Less.ensures.value)
      (c.in_ok-push_nonzero-in-Less.ensures ∙ ap (λ x. pairs_of c.loop-i.sum.items ++ cons_nonzero x c.index-right-j.result.mono []) c.mul.ensures.value);
}

pub loop-i-preserved : goal.loop-i-preserved
loop-i-preserved c = record {
  i_in = omega arith;
  j_in = omega arith;
  merging =
      step_both c.args.field c.args.order.now c.args.left.now c.args.k c.args.right.now (omega (arith, c.p-p.ensures.prime.above_one))
      c.loop-i.sum.items c.push_nonzero-in-Equal.new.terms.items c.loop-i.i c.loop-i.j c.index-left-i.result c.index-right-j.result
      (record { left_in = c.loop-i-test.true; right_in = c.if-j-right.true; left_is = c.index-left-i.is; right_is = c.index-right-j.is })
      c.loop-i.invariant.merging (sym c.in-Equal.ensures.value)
      (c.in_ok-push_nonzero-in-Equal.ensures
      ∙ ap (λ x. pairs_of c.loop-i.sum.items ++ cons_nonzero x c.index-left-i.result.mono [])
      (c.add-coef.ensures.value ∙ ap (λ x. (c.index-left-i.result.coef + x) % c.args.field) c.mul-in-Equal.ensures.value));
}

pub push_multiples-requires-clause-numbers : goal.push_multiples-requires-clause-numbers
push_multiples-requires-clause-numbers c =
    subst (λ (ts : List Term). HasNumbers c.args.field (pairs_of ts)) (sym (take_rest c.args.right.now c.loop-i.j))
    (HasNumbers-polynomial c.args.field c.args.order.now (pairs_of (drop c.loop-i.j c.args.right.now)) c.loop-i.invariant.merging.right)

pub returns : goal.returns
returns c =
    let ends : (length c.args.left.now ≤ c.loop-i.i) ⊎ (length c.args.right.now ≤ c.loop-i.j) =
    elim c.loop-i-test.branch [
      | goal.then-loop-i-test+else-j-right w ↦ inr w.if-j-right.false
      | goal.else-loop-i-test w ↦ inl w.loop-i-test.false
    ] in
    let first : c.extend_from_slice.new.self.items ≡ c.loop-i.sum.items ++ drop c.loop-i.i c.args.left.now =
    c.in_ok-extend_from_slice.ensures.items ∙ ap (λ z. c.loop-i.sum.items ++ z) (take_rest c.args.left.now c.loop-i.i) in
    c.in_ok-push_multiples.ensures
    ∙ (λ x. pairs_of (first x) ++ poly_scale c.args.field c.args.k (pairs_of (take_rest c.args.right.now c.loop-i.j x)))
    ∙ merge_ends c.args.field c.args.order.now c.args.left.now c.args.k c.args.right.now (omega (arith, c.p-p.ensures.prime.above_one))
    c.loop-i.sum.items c.loop-i.i c.loop-i.j ends c.loop-i.invariant.merging
