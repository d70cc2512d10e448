use Rattle.std.proofs.Common.{◌≡◌, ◌%◌, ◌<◌, suc}
use Rattle.closed_forms.specs.Binomials.{gaussian}
use Rattle.closed_forms.specs.Inside.Tables.{table}
use Rattle.closed_forms.proofs.binomials.digit_row.Given as goal

abbrev pub invariant-loop-k : goal.invariant-loop-k
invariant-loop-k l = record {
  done : l.row.items ≡ table l.field (gaussian l.q l.n) (suc l.k);
  last : l.entry ≡ gaussian l.q l.n l.k % l.field;
  in_range : l.entry < l.field;
}
