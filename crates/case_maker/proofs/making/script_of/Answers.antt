use Rattle.case_maker.proofs.Lines.{lines-step}
use Rattle.case_maker.proofs.making.script_of.Goals as goal

pub loop-line-preserved : goal.loop-line-preserved
loop-line-preserved c =
    lines-step _ _ _ _ _ _ _ c.loop-line-test.true c.loop-line.invariant c.in_ok-write_line.ensures.text c.in_ok-write_line.ensures.draws
