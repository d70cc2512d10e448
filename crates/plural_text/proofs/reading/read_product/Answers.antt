use Rattle.std.proofs.Common.{ℕ, ◌==◌, List, length, map, string_bytes, drop, Some, None, sym, ◌∙◌, ap, rules, arith, tests}
use Rattle.std.specs.List.{slice_split}
use Rattle.std.specs.Option.{option_map}
use Rattle.std.proofs.lemmas.List.{length_push, at_drop_all}
use Rattle.std.proofs.lemmas.Iterator.Splits.{YieldsList-from_slice_split}
use Rattle.std.proofs.lemmas.Iterator.Consumers.{YieldsList-at, YieldsList-turn, YieldsList-end}
use Rattle.gpoly.specs.Terms.{pair_of}
use Rattle.plural_text.specs.Readings.{times_factors}
use Rattle.plural_text.proofs.Steps.{times_factors_more}
use Rattle.plural_text.proofs.reading.read_product.Goals as goal

pub returns-in_err-term-clause-value : goal.returns-in_err-term-clause-value
returns-in_err-term-clause-value c =
    let p = c.args.field in
    let names = map string_bytes c.args.names.now in
    let text = c.args.text.now in
    let all : List (List ℕ) = slice_split (λ b. b == 42) text in
    let turn =
    YieldsList-turn (YieldsList-at c.into_iter-factor-iterator.ensures.into_iter_gives
    (YieldsList-from_slice_split _ (λ b. b == 42) text c.split-factor-items.ensures.rest c.split-factor-items.ensures.done
    c.split-factor-items.ensures.closure (λ x r q k. search (rules, tests)))) c.loop-factor.yielded _ c.loop-factor.yielded_by _ _
    c.in-Some.factor c.in-Some.is c.next.ensures.steps in
    let step =
    times_factors_more p names (pair_of c.loop-factor.term) all (length c.loop-factor.yielded) c.in-Some.factor.now None turn.0 turn.1
    (sym c.in_err-term.ensures.value) in
    ap (option_map pair_of) c.from_residual.ensures ∙ sym (c.loop-factor.invariant.value ∙ step)

pub loop-factor-preserved : goal.loop-factor-preserved
loop-factor-preserved c =
    let p = c.args.field in
    let names = map string_bytes c.args.names.now in
    let text = c.args.text.now in
    let all : List (List ℕ) = slice_split (λ b. b == 42) text in
    let turn =
    YieldsList-turn (YieldsList-at c.into_iter-factor-iterator.ensures.into_iter_gives
    (YieldsList-from_slice_split _ (λ b. b == 42) text c.split-factor-items.ensures.rest c.split-factor-items.ensures.done
    c.split-factor-items.ensures.closure (λ x r q k. search (rules, tests)))) c.loop-factor.yielded _ c.loop-factor.yielded_by _ _
    c.in-Some.factor c.in-Some.is c.next.ensures.steps in
    let step =
    times_factors_more p names (pair_of c.loop-factor.term) all (length c.loop-factor.yielded) c.in-Some.factor.now (Some (pair_of c.in_ok-term.term))
    turn.0 turn.1 (sym c.in_ok-term.ensures.value) in
    record {
      number = c.in_ok-term.ensures.number;
      vars = c.in_ok-term.ensures.vars;
      small = c.in_ok-term.ensures.small;
      value = c.loop-factor.invariant.value ∙ (step
          ∙ ap (λ (n : ℕ). times_factors p names (pair_of c.in_ok-term.term) (drop n all)) (sym (length_push c.loop-factor.yielded c.in-Some.factor)));
    }

pub returns-clause-value : goal.returns-clause-value
returns-clause-value c =
    let p = c.args.field in
    let names = map string_bytes c.args.names.now in
    let text = c.args.text.now in
    let all : List (List ℕ) = slice_split (λ b. b == 42) text in
    let end =
    YieldsList-end (YieldsList-at c.into_iter-factor-iterator.ensures.into_iter_gives
    (YieldsList-from_slice_split _ (λ b. b == 42) text c.split-factor-items.ensures.rest c.split-factor-items.ensures.done
    c.split-factor-items.ensures.closure (λ x r q k. search (rules, tests)))) c.loop-factor.yielded _ c.loop-factor.yielded_by _ _ c.in-None.is c.next.ensures.steps in
    sym (c.loop-factor.invariant.value
    ∙ at_drop_all (times_factors p names (pair_of c.loop-factor.term)) all (length c.loop-factor.yielded) (omega (arith, end.1)))
