use Rattle.std.proofs.Common.{ℕ, ◌∙◌, sym, subst, List, length}
use Rattle.monomials.specs.Polynomials.{Polynomial}
use Rattle.word_model.specs.Jobs.{IsJob}
use Rattle.crew.proofs.tests.sealing.offered_of.Goals as goal

pub offered-requires-clause-job : goal.offered-requires-clause-job
offered-requires-clause-job c =
    subst (λ (fs : List Polynomial). (m : ℕ) × IsJob (length fs) m c.args.alg.now.order.vars c.in_ok-job.job) (c.deref.ensures.value ∙ sym c.deref-3.ensures.value)
    (c.in_ok-job.ensures.job c.args.alg.now.order.vars)
