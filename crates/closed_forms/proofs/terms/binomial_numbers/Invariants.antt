use Rattle.std.proofs.Common.{◌≡◌, ◌%◌, ◌^◌, ◌<◌}
use Rattle.closed_forms.specs.Inside.Tables.{table}
use Rattle.closed_forms.specs.Forms.{binomial_number}
use Rattle.closed_forms.proofs.terms.binomial_numbers.Given as goal

abbrev pub invariant-loop-binomial : goal.invariant-loop-binomial
invariant-loop-binomial l = record {
  done : l.numbers.items ≡ table l.field (binomial_number l.shift l.n) l.binomial-index;
  next : l.power ≡ l.shift ^ l.binomial-index % l.field;
  in_range : l.power < l.field;
}
