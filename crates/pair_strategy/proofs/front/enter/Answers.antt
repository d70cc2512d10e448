use Rattle.std.proofs.Common.{reverse, sym, ap, ◌∙◌, arith}
use Rattle.std.proofs.lemmas.List.{get_or_default}
use Rattle.pair_strategy.specs.Inside.Fronts.{items_of}
use Rattle.pair_strategy.specs.declared.front.Candidate.{Candidate}
use Rattle.pair_strategy.proofs.Fronts.{items-insert}
use Rattle.pair_strategy.proofs.front.enter.Goals as goal

pub returns-clause-entered : goal.returns-clause-entered
returns-clause-entered c =
    let v = c.args.items.now.items in
    let front = c.args.front.now.items in
    let item = c.index.result.now in
    let place = c.args.place in
    let one : Candidate = record { item = item; place = place } in (
      λ low. (
        item,
        λ d. get_or_default v place d item low ∙ sym c.index.ensures,
        ap (λ list. reverse (items_of list)) c.in_ok-insert.ensures.items
            ∙ ap reverse (items-insert front c.place_of-at.result one)
            ∙ c.place_of-at.ensures.place,
      ),
      λ long. absurd (omega (arith, long, c.if-place-len.false, c.len.ensures, c.args.items.now.ok.0)),
    )
