use Rattle.std.proofs.Common.{[], ◌∷◌, ◌<◌, sym, subst}
use Rattle.monomials.specs.Polynomials.{Each}
use Rattle.monomials.proofs.Keys.{Each-append}
use Rattle.gproduct.proofs.tests.algebras.numbers.Goals as goal

pub loop-word-preserved : goal.loop-word-preserved
loop-word-preserved c =
    subst (Each (λ k. k < c.args.field)) (sym c.in_ok-push.ensures)
    (Each-append (λ k. k < c.args.field) c.loop-word.numbers.items (c.from_int-number.result ∷ []) c.loop-word.invariant (c.from_int-number.ensures.in_range, tt))
