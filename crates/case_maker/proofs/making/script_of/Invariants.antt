use Rattle.std.proofs.Common.{◌≡◌, ◌+◌, ◌-◌, ◌%◌, ◌++◌}
use Rattle.case_maker.specs.Scripts.{lines_text, made_script}
use Rattle.case_maker.proofs.making.script_of.Given as goal

abbrev pub invariant-loop-line : goal.invariant-loop-line
invariant-loop-line l = l.text.items ++ lines_text (1 + l.fn.k % 200 - l._line) l.draws.last ≡ made_script l.fn.k
