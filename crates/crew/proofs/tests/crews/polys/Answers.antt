use Rattle.std.proofs.Common.{[], ◌∷◌, sym, subst}
use Rattle.monomials.specs.Polynomials.{Each, IsPolynomial}
use Rattle.monomials.proofs.Keys.{Each-append}
use Rattle.crew.proofs.tests.crews.polys.Goals as goal

pub loop-piece-preserved : goal.loop-piece-preserved
loop-piece-preserved c =
    subst (Each (IsPolynomial c.args.field c.args.order.now)) (sym c.in_ok-push.ensures)
    (Each-append (IsPolynomial c.args.field c.args.order.now) c.loop-piece.polys.items (c.in_ok-part.part ∷ []) c.loop-piece.invariant (c.in_ok-part.ensures, tt))
