use Rattle.std.proofs.Common.{◌≡◌, ◌+◌, ◌*◌, drop, map}
use Rattle.monomials.specs.Polynomials.{Each}
use Rattle.plural_syntax.specs.declared.tree.ExprAfter.{out-ExprAfter}
use Rattle.plural_syntax.specs.declared.tree.ExprList.{out-ExprList}
use Rattle.script_values.specs.Prepended.{prepended}
use Rattle.plural_syntax.specs.declared.tree.Expr.{out-Expr}
use Rattle.plural_syntax.specs.declared.tree.Term.{out-Term}
use Rattle.script_model.specs.Refusals.{in_turn}
use Rattle.script_model.specs.Expressions as spec
use Rattle.script_values.specs.Values.{IsValueOf}
use Rattle.script_eval.proofs.expressions.+evaluate.Given as goal

abbrev pub decreases-value : goal.decreases-value
decreases-value g l = l.levels * 16

abbrev pub decreases-base : goal.decreases-base
decreases-base g l = l.levels * 16 + 3

abbrev pub decreases-factor : goal.decreases-factor
decreases-factor g l = l.levels * 16 + 4

abbrev pub decreases-scaled_by : goal.decreases-scaled_by
decreases-scaled_by g l = l.levels * 16 + 5

abbrev pub decreases-term : goal.decreases-term
decreases-term g l = l.levels * 16 + 6

abbrev pub decreases-with_added : goal.decreases-with_added
decreases-with_added g l = l.levels * 16 + 7

abbrev pub decreases-expression : goal.decreases-expression
decreases-expression g l = l.levels * 16 + 8

abbrev pub invariant-term-loop-scaled : goal.invariant-term-loop-scaled
invariant-term-loop-scaled g l = record {
  value : spec.term_value l.fn.scope (spec.value_within l.fn.scope l.levels) l.fn.term ≡ in_turn (spec.scaled_by l.fn.scope (spec.value_within l.fn.scope l.levels)) l.product (drop l.scaled-index (out-Term l.fn.term).more);
  of_ring : IsValueOf l.fn.scope.ring.algebra l.product;
  ready : g.E.Engine.can_run l.engine;
  seat : l.seat.algebra ≡ l.fn.seat.algebra;
}

abbrev pub invariant-expression-loop-added : goal.invariant-expression-loop-added
invariant-expression-loop-added g l = record {
  value : spec.expr_value l.fn.scope (spec.value_within l.fn.scope l.levels) l.fn.expr ≡ in_turn (spec.with_added l.fn.scope (spec.value_within l.fn.scope l.levels)) l.sum (drop l.added-index (out-Expr l.fn.expr).more);
  of_ring : IsValueOf l.fn.scope.ring.algebra l.sum;
  ready : g.E.Engine.can_run l.engine;
  seat : l.seat.algebra ≡ l.fn.seat.algebra;
}

abbrev pub decreases-all_values : goal.decreases-all_values
decreases-all_values g l = l.levels * 16 + 1

abbrev pub decreases-called : goal.decreases-called
decreases-called g l = l.levels * 16 + 2

abbrev pub invariant-all_values-loop-after : goal.invariant-all_values-loop-after
invariant-all_values-loop-after g l = record {
  value : spec.all_values (spec.value_within l.fn.scope l.levels) (spec.exprs_of l.fn.arguments) ≡ prepended l.values (spec.all_values (spec.value_within l.fn.scope l.levels) (map (λ a. (out-ExprAfter a).expr) (drop l.after-index (out-ExprList l.fn.arguments).more)));
  of_ring : Each (IsValueOf l.fn.scope.ring.algebra) l.values;
  ready : g.E.Engine.can_run l.engine;
  seat : l.seat.algebra ≡ l.fn.seat.algebra;
}
