use Rattle.monomials.specs.Polynomials.{Each, IsPolynomial}
use Rattle.plural_text.proofs.printing.tests.rows.Given as goal

abbrev pub invariant-loop-piece : goal.invariant-loop-piece
invariant-loop-piece l = Each (Each (IsPolynomial l.alg.p l.alg.order)) l.rows.items
