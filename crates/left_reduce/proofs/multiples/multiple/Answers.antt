use Rattle.std.proofs.Common.{◌≢◌, [], subst}
use Rattle.std.proofs.lemmas.Result.{IfOk-weaker}
use Rattle.word_model.specs.Words.{Algebra}
use Rattle.word_model.specs.Conditions.{IsGAlgebra}
use Rattle.left_reduce.proofs.Factors.{multiple-nonzero}
use Rattle.left_reduce.proofs.multiples.multiple.Goals as goal

pub returns-clause-nonzero : goal.returns-clause-nonzero
returns-clause-nonzero g c =
    let A : Algebra = c.args.seat.now.algebra in
    let ok : IsGAlgebra A = subst IsGAlgebra c.algebra.ensures c.n-n.ensures.accepted in
    IfOk-weaker c.kept_times.result _ (λ r. r ≢ [])
    (λ r is. multiple-nonzero A ok c.args.mono.now c.args.g.now r c.requires.vars c.requires.sorted c.requires.nonzero is) c.kept_times.ensures.value
