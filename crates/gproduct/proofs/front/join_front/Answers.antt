use Rattle.std.proofs.Common.{◌≡◌, ℕ, ◌+◌, ◌<◌, ◌≤◌, ◌⊎◌, inl, inr, ◌∙◌, ◌++◌, ◌∷◌, [], length, get_or, sym, ap, subst, arith, append_assoc}
use Rattle.std.proofs.Math.ListN.{length-replicate}
use Rattle.monomials.proofs.Exponents.{length-zip_with}
use Rattle.monomials.proofs.Keys.{Each-first, Each-second}
use Rattle.word_model.specs.Words.{sorted_word}
use Rattle.gproduct.specs.Inside.Factors.{HaveVars, stacked_word}
use Rattle.gproduct.proofs.SortedWords.{InOrder, sorted_word-plus}
use Rattle.gproduct.proofs.Stacks.{stacked_word-append, sorted_word-one, degrees-le}
use Rattle.gproduct.proofs.front.join_front.Goals as goal
use Rattle.gproduct.proofs.front.join_front.Goals.{In-Some, Else-low-high}

pub loop-right-init : goal.loop-right-init
loop-right-init c = record {
  left_vars = ap length c.one-left.ensures ∙ length-replicate {A = ℕ} c.args.n 0;
  vars = c.requires.vars;
  word = ap (λ w. w ++ stacked_word c.args.factors.now.items) (ap sorted_word c.one-left.ensures ∙ sorted_word-one c.args.n);
}

-- all factors have the variables
factors_have : (c : In-Some) → HaveVars c.args.n (c.pop.new.self.items ++ c.in-Some.right ∷ [])
factors_have c = subst (HaveVars c.args.n) c.in-Some.ensures.items c.loop-right.invariant.vars

right_has : (c : In-Some) → length c.in-Some.right ≡ c.args.n
right_has c = (Each-second _ c.pop.new.self.items (c.in-Some.right ∷ []) (factors_have c)).0

rest_has : (c : In-Some) → HaveVars c.args.n c.pop.new.self.items
rest_has c = Each-first _ c.pop.new.self.items (c.in-Some.right ∷ []) (factors_have c)

-- the whole word begins with the two factors
whole : (c : In-Some)
    → stacked_word c.args.factors.now.items ≡ sorted_word c.loop-right.left ++ (sorted_word c.in-Some.right ++ stacked_word c.pop.new.self.items)
whole c =
    sym c.loop-right.invariant.word
    ∙ ap (λ fs. sorted_word c.loop-right.left ++ stacked_word fs) c.in-Some.ensures.items
    ∙ ap (λ w. sorted_word c.loop-right.left ++ w) (stacked_word-append c.pop.new.self.items (c.in-Some.right ∷ []))

pub returns-then-low-high : goal.returns-then-low-high
returns-then-low-high c =
    let s = (goal.at.returns-then-low-high c).In-Some in (
      record {
        left_vars = c.loop-right.invariant.left_vars;
        right_vars = right_has s;
        first = c.lowest-low.ensures.at_least;
        falls = c.if-low-high.true;
        last = omega (arith, c.highest-high.ensures.at_most, c.loop-right.invariant.left_vars);
        left_some = c.highest-high.ensures.divides (omega (arith, c.if-low-high.true));
        left_last = c.highest-high.ensures.last;
        right_some = c.lowest-low.ensures.divides (omega (arith, c.if-low-high.true, c.highest-high.ensures.at_most, c.loop-right.invariant.left_vars, right_has s));
        right_first = c.lowest-low.ensures.first;
      },
      rest_has s,
      whole s,
    )

same_vars : (c : In-Some) → length c.loop-right.left ≡ length c.in-Some.right
same_vars c = c.loop-right.invariant.left_vars ∙ sym (right_has c)

pub plus-left-requires-clause-same_length : goal.plus-left-requires-clause-same_length
plus-left-requires-clause-same_length c = same_vars (goal.at.plus-left-requires-clause-same_length c).In-Some

pub plus-left-requires-clause-small : goal.plus-left-requires-clause-small
plus-left-requires-clause-small c =
    omega (arith, degrees-le 4095 c.loop-right.left c.in-Some.right (stacked_word c.pop.new.self.items) (stacked_word c.args.factors.now.items) (whole (goal.at.plus-left-requires-clause-small c).In-Some) c.requires.short)

-- factors that do not cross stand in order
in_order : (c : Else-low-high) → InOrder c.loop-right.left c.in-Some.right
in_order c k q lt = by (at_or_before k)
  where
    at_or_before : (k : ℕ) → (c.highest-high.result ≤ k) ⊎ (k < c.highest-high.result)
    at_or_before k = grind arith

    by : (c.highest-high.result ≤ k) ⊎ (k < c.highest-high.result) → (get_or c.loop-right.left k 0 ≡ 0) ⊎ (get_or c.in-Some.right q 0 ≡ 0)
    by (inl h) = inl (c.highest-high.ensures.last k h)
    by (inr h) = inr (c.lowest-low.ensures.first q (omega (arith, c.if-low-high.false)))

pub loop-right-preserved : goal.loop-right-preserved
loop-right-preserved c =
    let s = (goal.at.loop-right-preserved c).In-Some in
    let left = c.loop-right.left in
    let right = c.in-Some.right in
    let rest = stacked_word c.pop.new.self.items in
    record {
      left_vars = ap length c.plus-left.ensures ∙ length-zip_with (λ x y. x + y) left right (same_vars s) ∙ c.loop-right.invariant.left_vars;
      vars = rest_has s;
      word =
          ap (λ m. sorted_word m ++ rest) c.plus-left.ensures
          ∙ ap (λ w. w ++ rest) (sorted_word-plus left right (same_vars s) (in_order (goal.at.loop-right-preserved c).Else-low-high))
          ∙ append_assoc (sorted_word left) (sorted_word right) rest
          ∙ sym (whole s);
    }
