use Rattle.std.proofs.Common.{sym, ◌∙◌, subst}
use Rattle.word_model.specs.Words.{Algebra}
use Rattle.crew.specs.Sealing.{IsSealed}
use Rattle.crew.proofs.Agreeing.{made-good}
use Rattle.crew.proofs.sealed.Sealed.made.Goals as goal

pub invariant_of-result : goal.invariant_of-result
invariant_of-result g c =
    let A : Algebra = c.args.seat.now.algebra in
    let made = made-good A c.args.gens.now c.args.view.now c.args.job.now c.in-Some.spec c.requires.job.0 c.requires.job.1 (sym c.in_ok-spec.ensures.value ∙ c.in-Some.is) in
    subst (λ (B : Algebra). IsSealed (record { algebra = B; generators = c.args.gens.now; elements = c.in_ok-used.used; spec = c.in-Some.spec })) (sym c.algebra-algebra.ensures)
    (subst (λ H. IsSealed (record { algebra = A; generators = c.args.gens.now; elements = H; spec = c.in-Some.spec })) (sym c.in_ok-used.ensures)
    (record { generators = c.requires.generators; elements = c.requires.elements; prefix = made.0; good = made.1 }))
