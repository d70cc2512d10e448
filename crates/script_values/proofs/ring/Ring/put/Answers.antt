use Rattle.std.proofs.Common.{ap, sym, subst, ◌∙◌}
use Rattle.std.specs.Prelude.{All}
use Rattle.std.specs.Map.{values_of}
use Rattle.std.proofs.lemmas.Map.Views.{All-values-insert_entry}
use Rattle.script_model.specs.Environment.{Ring, Names, put}
use Rattle.script_model.specs.declared.values.Value.{Value}
use Rattle.script_values.specs.Kept.{entries_of, kept_ring}
use Rattle.script_values.specs.Values.{IsValueOf}
use Rattle.script_values.proofs.Maps.{put_kept}
use Rattle.script_values.proofs.ring.Ring.put.Goals as goal

pub invariant_of-self : goal.invariant_of-self
invariant_of-self c =
    let P = IsValueOf c.self.inside.algebra.value in
    record {
      names = c.self.invariant.names;
      values = subst (λ es. All P (values_of es)) (sym c.in-Ok.ensures.entries)
          (All-values-insert_entry _ c.in_ok-key.key c.args.value P c.self.inside.values.entries c.self.invariant.values
          (subst (λ (R : Ring). IsValueOf R.algebra c.args.value) (sym c.self.view_is) c.requires));
    }

pub returns-in-Ok : goal.returns-in-Ok
returns-in-Ok c =
    let R : Ring = kept_ring c.self.inside in
    let es = c.self.inside.values.entries in
    record {
      value =
          ap (λ (vs : Names Value). record R { values = vs })
          (ap entries_of c.in-Ok.ensures.entries ∙ put_kept c.in_ok-key.key c.args.value es ∙ ap (λ n. put n c.args.value (entries_of es)) c.in_ok-key.ensures.items)
          ∙ ap (λ (Q : Ring). record Q { values = put c.args.name.now c.args.value Q.values }) c.self.view_is;
      refused = tt;
    }
