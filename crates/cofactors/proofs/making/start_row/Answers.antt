use Rattle.std.proofs.Common.{◌≢◌, length, sym, ap, ◌∙◌, subst, None}
use Rattle.word_model.specs.Jobs.{start_of}
use Rattle.word_model.specs.Cofactors.{start_row}
use Rattle.word_model.specs.declared.records.Job.{Job}
use Rattle.std.proofs.lemmas.Result.{IfOk-weaker}
use Rattle.cofactors.proofs.RowLaws.{pair_within-started}
use Rattle.cofactors.proofs.making.start_row.Goals as goal

pub pair_row-requires-clause-computed : goal.pair_row-requires-clause-computed
pair_row-requires-clause-computed g c =
    let A = c.args.seat.now.algebra in
    pair_within-started A c.args.gens.now c.args.basis.now c.in-Pair.i c.in-Pair.j
    (subst (λ (job : Job). start_of A c.args.gens.now c.args.basis.now job ≢ None) c.in-Pair.is c.requires.computed)

pub returns-in-Pair-clause-value : goal.returns-in-Pair-clause-value
returns-in-Pair-clause-value g c =
    let A = c.args.seat.now.algebra in
    let n = length c.args.gens.now in
    IfOk-weaker c.pair_row.result _ _ (λ r is. is n ∙ ap (start_row A n c.args.basis.now c.args.rows.now) (sym c.in-Pair.is)) c.pair_row.ensures.value

pub returns-in-Pair-clause-sorted : goal.returns-in-Pair-clause-sorted
returns-in-Pair-clause-sorted g c = IfOk-weaker c.pair_row.result _ _ (λ r is. is (length c.args.gens.now) c.requires.rows) c.pair_row.ensures.sorted
