use Rattle.std.proofs.Common.{◌≡◌, ◌*◌, ◌%◌, ◌^◌, ◌<◌}
use Rattle.closed_forms.specs.Inside.Tables.{table}
use Rattle.closed_forms.proofs.Pascal.{falling_product}
use Rattle.closed_forms.specs.Forms.{weyl_number}
use Rattle.closed_forms.proofs.terms.weyl_numbers.Given as goal

abbrev pub invariant-loop-k : goal.invariant-loop-k
invariant-loop-k l = record {
  done : l.numbers.items ≡ table l.field (weyl_number l.q l.delta l.a l.b) l.k;
  next : l.factor ≡ (l.delta ^ l.k * falling_product l.q l.a l.k) % l.field;
  in_range : l.factor < l.field;
}
