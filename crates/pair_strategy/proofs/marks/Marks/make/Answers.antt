use Rattle.std.proofs.Common.{◌≡◌, length, sym, ap, ◌∙◌, arith, eqb-true}
use Rattle.pair_strategy.specs.Inside.Marks.{bit_number, is_marked}
use Rattle.pair_strategy.proofs.Bits.{unmarked-past, unmarked-zeros}
use Rattle.pair_strategy.proofs.marks.Marks.make.Goals as goal

pub returns-in_ok-self-clause-same : goal.returns-in_ok-self-clause-same
returns-in_ok-self-clause-same c = λ job.
    let old = c.args.self.now.words.items in
    let empty : c.args.self.now.words.len ≡ 0 = eqb-true c.args.self.now.words.len 0 (sym c.is_empty.ensures ∙ c.if-is_empty.true) in
    let none : length old ≡ 0 = omega (arith, empty, c.args.self.now.words.ok.0) in
    ap (λ words. is_marked words job) (c.in_ok-self.ensures.items_if_clones_equal (λ y e. e))
    ∙ unmarked-zeros 33393 (bit_number job)
    ∙ sym (unmarked-past old (bit_number job) (omega (arith, none)))
