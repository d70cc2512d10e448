use Rattle.std.proofs.Common.{sym, subst}
use Rattle.monomials.specs.Polynomials.{Each, IsPolynomial}
use Rattle.script_rings.proofs.EntryLists.{entries-polynomials}
use Rattle.script_rings.proofs.entries.entries_for.Goals as goal

pub returns-clause-polynomials : goal.returns-clause-polynomials
returns-clause-polynomials c =
    let A = c.args.algebra.now in
    subst (Each (IsPolynomial A.p A.order)) (sym c.in_ok-copies_at.ensures) (entries-polynomials A c.args.value.now c.requires c.deref.result.now)
