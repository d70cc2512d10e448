use Rattle.std.proofs.Common.{◌≤◌, take}
use Rattle.monomials.specs.Polynomials.{Each}
use Rattle.word_model.specs.Jobs.{AreSugars}
use Rattle.pair_strategy.proofs.tests.degrees.Given as goal

abbrev pub invariant-loop-element : goal.invariant-loop-element
invariant-loop-element l = record {
  are : AreSugars (take l.element-index l.basis.items) l.sugars.items;
  small : Each (λ n. n ≤ 4095) l.sugars.items;
}
