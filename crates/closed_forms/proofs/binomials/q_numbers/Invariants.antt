use Rattle.std.proofs.Common.{◌≡◌, ◌%◌, ◌<◌}
use Rattle.closed_forms.specs.Binomials.{q_number}
use Rattle.closed_forms.specs.Inside.Tables.{table}
use Rattle.closed_forms.proofs.binomials.q_numbers.Given as goal

abbrev pub invariant-loop : goal.invariant-loop
invariant-loop l = record {
  above_one : 1 < l.field;
  done : l.numbers.items ≡ table l.field (q_number l.q) l.counter;
  next : l.number ≡ q_number l.q l.counter % l.field;
  in_range : l.number < l.field;
}
