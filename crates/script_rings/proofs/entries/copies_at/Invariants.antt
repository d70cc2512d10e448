use Rattle.std.proofs.Common.{◌≡◌, map, take}
use Rattle.script_rings.specs.Entries.{entry_for}
use Rattle.script_rings.proofs.entries.copies_at.Given as goal

abbrev pub invariant-loop-i : goal.invariant-loop-i
invariant-loop-i l = l.entries.items ≡ map (entry_for l.value) (take l.i-index l.pairs)
