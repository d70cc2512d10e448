use Rattle.std.proofs.Common.{[], ◌∷◌, sym, subst}
use Rattle.monomials.specs.Polynomials.{Each, HasVars}
use Rattle.monomials.proofs.Keys.{Each-append}
use Rattle.pair_strategy.proofs.tests.polys.Goals as goal

pub loop-piece-preserved : goal.loop-piece-preserved
loop-piece-preserved c =
    subst (Each (HasVars c.args.order.now.vars)) (sym c.in_ok-push_poly.ensures)
    (Each-append (HasVars c.args.order.now.vars) c.loop-piece.polys.items (c.in_ok-part.part ∷ []) c.loop-piece.invariant (c.in_ok-part.ensures, tt))
