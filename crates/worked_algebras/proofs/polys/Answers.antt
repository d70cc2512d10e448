use Rattle.std.proofs.Common.{[], ◌∷◌, sym, subst}
use Rattle.monomials.specs.Polynomials.{Each, IsPolynomial}
use Rattle.monomials.proofs.Keys.{Each-append}
use Rattle.worked_algebras.proofs.polys.Goals as goal

pub loop-piece-preserved : goal.loop-piece-preserved
loop-piece-preserved c =
    let part : IsPolynomial c.args.alg.now.p c.args.alg.now.order c.in_ok-part.part = rw (← c.field.ensures, ← c.order.ensures) c.in_ok-part.ensures in
    subst (Each (IsPolynomial c.args.alg.now.p c.args.alg.now.order)) (sym c.in_ok-push.ensures)
    (Each-append (IsPolynomial c.args.alg.now.p c.args.alg.now.order) c.loop-piece.polys.items (c.in_ok-part.part ∷ []) c.loop-piece.invariant (part, tt))
