use Rattle.std.proofs.Common.{codes}
use Rattle.std.specs.Fmt.{decimal}
use Rattle.std.proofs.lemmas.Result.{on_ok_weaker}
use Rattle.script_model.specs.Refusals.{pair_text}
use Rattle.script_values.proofs.Texts.{six_written}
use Rattle.script_values.proofs.refusals.write_triple.Goals as goal

pub returns-clause-value : goal.returns-clause-value
returns-clause-value c =
    on_ok_weaker c.write_named.result
    (λ e. six_written c.args.text.now.items (codes "NonDegeneracy ") (pair_text c.args.i c.args.j) (codes " ") (decimal c.args.k) (codes " ") c.args.rest.now _ _ _
    c.in_ok-write_pair.ensures.value c.in_ok-write_numbered.ensures.value e)
    c.write_named.ensures.value
