use Rattle.std.specs.Prelude.{◌<◌}
use Rattle.monomials.specs.Polynomials.{Each}
use Rattle.gproduct.proofs.tests.algebras.numbers.Given as goal

-- the numbers so far are below p
abbrev pub invariant-loop-word : goal.invariant-loop-word
invariant-loop-word l = Each (λ c. c < l.field) l.numbers.items
