-- What the program keeps of all rings.
use Rattle.script_model.specs.Environment.{Environment}
use Rattle.script_values.specs.declared.environment.Environment.TheInside.{Inside}
use Rattle.script_values.specs.Kept.{entries_of}

abbrev pub kept_environment : Inside → Environment
kept_environment e = record { rings = e.rings.items; ring_names = entries_of e.ring_names.entries; current = e.current }
