use Rattle.std.proofs.Common.{◌+◌, ◌-◌, ◌∷◌, [], ◌++◌, ◌∙◌, sym, ap, append_assoc}
use Rattle.script_model.specs.Statements as spec
use Rattle.script_rings.proofs.PairLists.{row-next}
use Rattle.script_rings.proofs.pairs.push_row.Goals as goal

pub loop-j-preserved : goal.loop-j-preserved
loop-j-preserved c =
    let i = c.args.i in
    let j = c.loop-j.j in
    let rest = spec.pairs_row i (j + 1) (c.args.n + 1 - (j + 1)) in
    ap (λ ps. ps ++ rest) c.in_ok-push.ensures.items ∙ append_assoc c.loop-j.pairs.items ((i, j) ∷ []) rest
    ∙ ap (λ ps. c.loop-j.pairs.items ++ ps) (sym (row-next c.args.n i j c.loop-j-test.true)) ∙ c.loop-j.invariant
