use Rattle.case_maker.proofs.Lines.{line_appended}
use Rattle.case_maker.proofs.making.write_line.Goals as goal

pub returns-clause-text : goal.returns-clause-text
returns-clause-text c =
    line_appended _ _ _ _ _ _ _ _ _ _ _ c.in_ok-extend_from_slice.ensures.items c.in_ok-write_sum.ensures.text
    c.in_ok-write_sum.ensures.draws c.in_ok-push.ensures.items c.in_ok-write_sum-2.ensures.text c.in_ok-write_sum-2.ensures.draws
    c.in_ok-push-2.ensures.items c.in_ok-write_sum-3.ensures.text c.in_ok-extend_from_slice-2.ensures.items
