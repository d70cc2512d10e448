use Rattle.std.proofs.Common.{◌≡◌, ◌-◌, ◌<◌, ◌≤◌, true, [], length, rules, slice_index_or, sym, ap, ◌∙◌, arith}
use Rattle.std.proofs.lemmas.List.{get_or_default}
use Rattle.word_model.specs.Certificates.{less_trace}
use Rattle.two_sided.proofs.ListTests.{named, answered}
use Rattle.two_sided.proofs.lists.element_holds.Goals as goal

pub returns-clause-value : goal.returns-clause-value
returns-clause-value g c =
    let A = c.args.seat.now.algebra in
    let G = c.args.basis.now in
    let o = c.args.origin in
    let tail = c.args.tail.now in
    let range : (1 ≤ c.args.origin) × (c.args.origin ≤ length c.args.basis.now) = search rules in
    let below : c.args.origin - 1 < length c.args.basis.now = omega (arith, range.0, range.1) in
    let names : named A G c.args.element.now o tail ≡ true = search rules in
    let element_is : slice_index_or G (o - 1) [] ≡ c.index-basis-origin.result =
    sym (c.index-basis-origin.is ∙ get_or_default G (o - 1) c.index-basis-origin.result [] below) in
    answered A G c.args.element.now o tail names c.in_ok-left.ensures.within c.in_ok-left.left
    (c.in_ok-left.ensures.value ∙ ap (λ f. less_trace A G f tail) (c.in_ok-start.ensures ∙ sym element_is))
    c.equals.result c.equals.ensures
