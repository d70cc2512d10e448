use Rattle.std.proofs.Common.{◌↔◌, drop}
use Rattle.algebra.proofs.Fitting.{AreTerms}
use Rattle.algebra.proofs.comparing.are_terms.Given as goal

abbrev pub invariant-loop-term : goal.invariant-loop-term
invariant-loop-term l = AreTerms l.p l.n l.terms ↔ AreTerms l.p l.n (drop l.term-index l.terms)
