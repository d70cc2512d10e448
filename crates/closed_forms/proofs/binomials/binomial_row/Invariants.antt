use Rattle.std.proofs.Common.{◌≡◌, ◌+◌, ◌-◌, ◌/◌, ◌≤◌, suc}
use Rattle.closed_forms.specs.Binomials.{gaussian}
use Rattle.closed_forms.specs.Inside.Tables.{table}
use Rattle.closed_forms.proofs.Digits.{IsPower}
use Rattle.closed_forms.proofs.binomials.binomial_row.Given as goal

abbrev pub invariant-loop-scale : goal.invariant-loop-scale
invariant-loop-scale l = record {
  positive : 1 ≤ l.scale;
  power : IsPower l.p l.scale;
}

abbrev pub decreases-loop-scale : goal.decreases-loop-scale
decreases-loop-scale l = l.n + 1 - l.scale

abbrev pub invariant-loop-scale-2 : goal.invariant-loop-scale-2
invariant-loop-scale-2 l = record {
  positive : 1 ≤ l.scale;
  power : IsPower l.p l.scale;
  done : l.row.items ≡ table l.field (gaussian 1 (l.n / l.scale)) (suc (l.top / l.scale));
}

abbrev pub decreases-loop-scale-2 : goal.decreases-loop-scale-2
decreases-loop-scale-2 l = l.scale
