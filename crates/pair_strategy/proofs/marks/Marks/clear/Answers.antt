use Rattle.pair_strategy.proofs.Bits.{marked-clear}
use Rattle.pair_strategy.proofs.marks.Marks.clear.Goals as goal

pub returns-clause-marks : goal.returns-clause-marks
returns-clause-marks c =
    marked-clear c.args.self.now.words.items c.args.job.now c.requires.range c.requires.made c.bit_number-number.result c.bit_number-number.ensures.value
    c.index.result.now c.without_bit.result c.index.ensures c.without_bit.ensures.clear c.without_bit.ensures.others
