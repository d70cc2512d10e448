use Rattle.std.proofs.Common.{◌≤◌, length, sym, subst}
use Rattle.word_model.specs.Machine.{Journal, most_elements}
use Rattle.word_model.proofs.Steps.{machine-few}
use Rattle.script_functions.proofs.bases.run_over.Goals as goal

pub returns-in-Finished-clause-few : goal.returns-in-Finished-clause-few
returns-in-Finished-clause-few g c =
    subst (λ (run : Journal). length run.basis ≤ most_elements) (sym c.in_ok-run.ensures.value)
    (machine-few c.args.algebra.now c.n-n.ensures.accepted c.args.generators.now c.requires.polynomials c.args.mode c.entries-budget.result)
