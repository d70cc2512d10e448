use Rattle.std.proofs.Common.{ap, subst, ◌∙◌}
use Rattle.std.specs.Map.{values_of}
use Rattle.script_model.specs.Environment.{Ring, find}
use Rattle.script_values.specs.Values.{IsValueOf}
use Rattle.script_values.proofs.Maps.{find_kept, All_among}
use Rattle.script_values.proofs.Options.{IfSome-weaker}
use Rattle.script_values.proofs.ring.Ring.find.Goals as goal

pub returns-clause-value : goal.returns-clause-value
returns-clause-value c =
    c.get.ensures.value ∙ find_kept c.args.name.now c.self.inside.values.entries ∙ ap (λ (R : Ring). find c.args.name.now R.values) c.self.view_is

pub returns-clause-of_ring : goal.returns-clause-of_ring
returns-clause-of_ring c =
    IfSome-weaker c.get.result _ _
    (λ v among. subst (λ (R : Ring). IsValueOf R.algebra v.now) c.self.view_is
    (All_among (IsValueOf c.self.inside.algebra.value) (values_of c.self.inside.values.entries) v.now c.self.invariant.values among))
    c.get.ensures.member
