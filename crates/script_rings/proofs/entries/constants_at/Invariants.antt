use Rattle.std.proofs.Common.{◌≡◌, true, map, take}
use Rattle.std.specs.List.{list_all}
use Rattle.monomials.specs.Leading.{leading_coefficient}
use Rattle.script_model.specs.Statements.{is_constant}
use Rattle.script_rings.specs.Entries.{entry_for}
use Rattle.script_rings.proofs.entries.constants_at.Given as goal

abbrev pub invariant-loop-i : goal.invariant-loop-i
invariant-loop-i l = record {
  constant : list_all (λ ij. is_constant (entry_for l.value ij)) (take l.i-index l.pairs) ≡ true;
  numbers : l.constants.items ≡ map (λ ij. leading_coefficient (entry_for l.value ij)) (take l.i-index l.pairs);
}
