use Rattle.std.proofs.Common.{subst}
use Rattle.word_model.specs.Conditions.{IsGAlgebra}
use Rattle.word_model.proofs.Acceptance.{accepted, IsField-prime}
use Rattle.algebra.proofs.Algebra.n.Goals as goal

pub returns-clause-accepted : goal.returns-clause-accepted
returns-clause-accepted c =
    let a = c.self.inside.presentation in
    subst IsGAlgebra c.self.view_is (accepted a c.n.ensures.«data» (IsField-prime a.p c.n.ensures.prime) c.self.invariant)
