use Rattle.monomials.specs.Polynomials.{Each}
use Rattle.word_model.specs.Machine.{IsElement}
use Rattle.finish.proofs.tests.basis.Given as goal

-- all so far are elements
abbrev pub invariant-loop-piece : goal.invariant-loop-piece
invariant-loop-piece l = Each (IsElement l.algebra) l.basis.items
