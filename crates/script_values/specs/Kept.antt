-- What the program keeps of rings and names.
use Rattle.std.specs.Prelude.{ℕ, List, map, string_bytes, All}
use Rattle.std.specs.Global.{Vec}
use Rattle.std.specs.Map.{values_of}
use Rattle.plural_text.specs.Names.{AreNames}
use Rattle.script_model.specs.Environment.{Names, Ring}
use Rattle.script_values.specs.Values.{IsValueOf}
use Rattle.script_values.specs.declared.ring.Ring.TheInside as ring

-- entries of a map whose keys are vectors of bytes
abbrev pub entries_of : {A : Type 0} → List (Vec ℕ × A) → Names A
entries_of entries = map (λ e. (e.0.items, e.1)) entries

abbrev pub kept_ring : ring.Inside → Ring
kept_ring r = record { names = map string_bytes r.names.items; blocks = r.blocks.items; algebra = r.algebra.value; made = r.made; values = entries_of r.values.entries }

-- the variables have names, and the values are of the ring's algebra
pub record IsRing (r : ring.Inside) : Type 0 where
  pub names : AreNames r.algebra.value.order.vars (map string_bytes r.names.items)
  pub values : All (IsValueOf r.algebra.value) (values_of r.values.entries)
