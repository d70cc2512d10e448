use Rattle.std.proofs.Common.{◌≡◌, ◌++◌, [], ◌∷◌, List, length, sym, subst, ap, ◌∙◌, ◌-◌, reverse, Option, Some, None, arith, Bool, true, false, IsTrue}
use Rattle.std.proofs.lemmas.Result.{on_ok_weaker}
use Rattle.std.specs.List.{slice_get}
use Rattle.gpoly.specs.declared.Term.{Term}
use Rattle.monomials.specs.Polynomials.{HasNumbers, IsAbove}
use Rattle.monomials.specs.Orders.{order_cmp}
use Rattle.gpoly.specs.Terms.{pairs_of}
use Rattle.gpoly.proofs.TermLists.{HasNumbers-more}
use Rattle.gpoly.proofs.Lists.{last_split, none_last, last_taken}
use Rattle.gpoly.proofs.Sorting.{numbers_split, sum_equal, sum_above, above_last}
use Rattle.gpoly.proofs.sums.add_last.Goals as goal

pub add-coef-requires-clause-a_in_range : goal.add-coef-requires-clause-a_in_range
add-coef-requires-clause-a_in_range c =
    let old : List Term = c.args.sums.now.items in
    let at_end : Some c.in-Some.last.now ≡ slice_get old (length old - 1) =
    c.in-Some.ensures.value ∙ ap (λ (xs : List Term). slice_get xs (length xs - 1)) c.deref.ensures.value in
    (numbers_split c.args.field old _ c.in-Some.last.now (last_split old c.in-Some.last.now at_end) c.requires.numbers).1

pub returns-in-Some-clause-numbers : goal.returns-in-Some-clause-numbers
returns-in-Some-clause-numbers c =
    let old : List Term = c.args.sums.now.items in
    let last : Term = c.in-Some.last.now in
    let at_end : Some last ≡ slice_get old (length old - 1) =
    c.in-Some.ensures.value ∙ ap (λ (xs : List Term). slice_get xs (length xs - 1)) c.deref.ensures.value in
    let split : old ≡ c.pop.new.self.items ++ last ∷ [] = last_taken old c.pop.new.self.items c.pop.result last at_end c.pop.ensures.items (λ l. c.pop.ensures.variant.1 (omega (arith, c.deref.ensures.len, ap (λ (xs : List Term). length xs) c.deref.ensures.value))) in
    on_ok_weaker c.push_nonzero.result
    (λ e. subst (HasNumbers c.args.field) (sym e) (HasNumbers-more c.args.field _ c.add-coef.result c.args.term.mono (numbers_split c.args.field old _ last split c.requires.numbers).0 c.add-coef.ensures.in_range))
    c.push_nonzero.ensures

pub returns-in-Some-clause-sum : goal.returns-in-Some-clause-sum
returns-in-Some-clause-sum c =
    let old : List Term = c.args.sums.now.items in
    let last : Term = c.in-Some.last.now in
    let at_end : Some last ≡ slice_get old (length old - 1) =
    c.in-Some.ensures.value ∙ ap (λ (xs : List Term). slice_get xs (length xs - 1)) c.deref.ensures.value in
    let split : old ≡ c.pop.new.self.items ++ last ∷ [] = last_taken old c.pop.new.self.items c.pop.result last at_end c.pop.ensures.items (λ l. c.pop.ensures.variant.1 (omega (arith, c.deref.ensures.len, ap (λ (xs : List Term). length xs) c.deref.ensures.value))) in
    let same : last.mono ≡ c.args.term.mono = c.eq.ensures.same.0 c.if-eq.true in
    on_ok_weaker c.push_nonzero.result
    (λ e rows falls. ap reverse e ∙ sum_equal rows c.args.field old c.pop.new.self.items last c.args.term c.add-coef.result split same c.add-coef.ensures.value)
    c.push_nonzero.ensures

pub returns-in_default-clause-sum : goal.returns-in_default-clause-sum
returns-in_default-clause-sum c =
    let old : List Term = c.args.sums.now.items in
    let value_at_end = λ (o : Option Term) (h : o ≡ slice_get c.deref.result.now (length c.deref.result.now - 1)).
    (h ∙ ap (λ (xs : List Term). slice_get xs (length xs - 1)) c.deref.ensures.value) in
    on_ok_weaker c.push_nonzero-in_default.result
    (λ e rows falls. ap reverse e ∙ sum_above rows c.args.field old c.args.term c.requires.in_range
    (elim c.in_default.branch [
      | goal.in_default-via-in-Some+else-eq w ↦
          above_last rows c.args.field old _ w.in-Some.last.now c.args.term
          (last_split old w.in-Some.last.now (value_at_end (Some w.in-Some.last.now) w.in-Some.ensures.value))
          (not_same w.eq.result w.if-eq.false w.eq.ensures.same.1)
          falls
      | goal.in_default-via-in_default w ↦
          subst (λ (xs : List Term). IsAbove (order_cmp rows) c.args.term.mono (reverse (pairs_of xs)))
          (sym (none_last old (value_at_end None w.in_default.ensures.value))) tt
    ]))
    c.push_nonzero-in_default.ensures
  where
    not_same : {P : Type 0} (b : Bool) → b ≡ false → (P → IsTrue b) → P → ⊥
    not_same b unequal equal p = let t : true ≡ false = sym (equal p) ∙ unequal in cc
