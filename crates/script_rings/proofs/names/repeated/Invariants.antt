use Rattle.std.proofs.Common.{◌≡◌, map, length, string_bytes}
use Rattle.script_model.specs.Statements as spec
use Rattle.script_rings.proofs.names.repeated.Given as goal

abbrev pub invariant-loop-name : goal.invariant-loop-name
invariant-loop-name l = spec.repeated (map string_bytes l.left) ≡ spec.repeated (map string_bytes l.names)

abbrev pub decreases-loop-name : goal.decreases-loop-name
decreases-loop-name l = length l.left
