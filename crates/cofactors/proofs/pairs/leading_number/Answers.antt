use Rattle.std.proofs.Common.{sym, ◌∙◌, subst}
use Rattle.word_model.specs.Conditions.{IsGAlgebra}
use Rattle.word_model.proofs.Reductions.{multiple-leading}
use Rattle.cofactors.proofs.pairs.leading_number.Goals as goal

pub lead-requires : goal.lead-requires
lead-requires g c =
    let A = c.args.seat.now.algebra in
    let ok : IsGAlgebra A = subst IsGAlgebra c.algebra.ensures c.n-n.ensures.accepted in
    λ none. (multiple-leading A ok c.args.mono.now c.args.f.now c.requires.vars c.requires.element.0 c.requires.element.1).0 (sym c.in_ok-product.ensures.value ∙ none)
