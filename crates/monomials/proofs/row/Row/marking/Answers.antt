use Rattle.std.proofs.Common.{◌+◌, ◌∙◌, map, ap, pos, arith}
use Rattle.std.proofs.lemmas.List.{take_all}
use Rattle.monomials.specs.ExtraRows.{mark}
use Rattle.monomials.proofs.Placing.{marks_are}
use Rattle.monomials.proofs.row.Row.marking.Goals as goal

pub returns-clause-entries : goal.returns-clause-entries
returns-clause-entries c =
    λ n few.
    ap (λ xs. map pos xs)
    (marks_are n c.args.vars.now c.loop-v.places c.loop-v.invariant.whole few
    (λ k l.
    c.loop-v.invariant.marked k l
    ∙ ap (λ vars. mark vars (k + 1)) (take_all c.loop-v.v-index c.args.vars.now (omega arith))))
