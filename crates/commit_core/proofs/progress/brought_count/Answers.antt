use Rattle.std.proofs.Common.{◌+◌, arith}
use Rattle.commit_core.proofs.Bringing.{length-brought}
use Rattle.commit_core.proofs.progress.brought_count.Goals as goal

pub returns-in-Left : goal.returns-in-Left
returns-in-Left c = let count = length-brought c.args.n (c.args.others + 1) in rw c.in-Left.is (omega (arith, count.0))

pub returns-in-TwoSided : goal.returns-in-TwoSided
returns-in-TwoSided c = let count = length-brought c.args.n (c.args.others + 1) in rw c.in-TwoSided.is (omega (arith, count.1))
