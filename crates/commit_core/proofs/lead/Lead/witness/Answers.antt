use Rattle.commit_core.proofs.Bringing.{elements-vars}
use Rattle.commit_core.proofs.Leading.{no-witness}
use Rattle.commit_core.proofs.lead.Lead.witness.Goals as goal

pub chain_witness-requires-clause-vars : goal.chain_witness-requires-clause-vars
chain_witness-requires-clause-vars c = (
  c.self.inside.algebra.value.order.vars,
  elements-vars c.self.inside.algebra.value c.self.inside.progress.basis.items c.self.invariant.state.elements,
)

pub returns-in-Seed : goal.returns-in-Seed
returns-in-Seed c = no-witness c.args.self.now.basis c.args.self.now.jobs c.args.job.now c.in-Seed.is
