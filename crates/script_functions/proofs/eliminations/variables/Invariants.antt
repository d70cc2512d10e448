use Rattle.std.proofs.Common.{◌≡◌, ◌≤◌, ◌+◌, ◌++◌, All, length, drop}
use Rattle.script_model.specs.Functions.{variables_from}
use Rattle.script_functions.proofs.eliminations.variables.Given as goal

abbrev pub invariant-loop-place : goal.invariant-loop-place
invariant-loop-place l = record {
  value : l.vars ++ variables_from (l.place + 1) (drop l.place l.mono) ≡ variables_from 1 l.mono;
  in_range : All (λ v. (1 ≤ v) × (v ≤ length l.mono)) l.vars;
  same_length : l.n ≡ length l.mono;
}
