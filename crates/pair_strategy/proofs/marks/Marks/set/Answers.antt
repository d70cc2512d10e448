use Rattle.pair_strategy.proofs.Bits.{marked-set}
use Rattle.pair_strategy.proofs.marks.Marks.set.Goals as goal

pub returns-clause-marks : goal.returns-clause-marks
returns-clause-marks c =
    marked-set c.args.self.now.words.items c.args.job.now c.requires.range c.requires.made c.bit_number-number.result c.bit_number-number.ensures.value
    c.index.result.now c.with_bit.result c.index.ensures c.with_bit.ensures.set c.with_bit.ensures.others
