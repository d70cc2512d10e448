use Rattle.std.proofs.Common.{ap, ◌∙◌}
use Rattle.script_model.specs.Environment.{Environment, find}
use Rattle.script_values.proofs.Maps.{find_kept}
use Rattle.script_values.proofs.environment.Environment.ring_number.Goals as goal

pub returns : goal.returns
returns c =
    c.copied.ensures ∙ c.get.ensures.value ∙ find_kept c.args.name.now c.self.inside.ring_names.entries
    ∙ ap (λ (E : Environment). find c.args.name.now E.ring_names) c.self.view_is
