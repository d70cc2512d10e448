use Rattle.std.proofs.Common.{subst, sym}
use Rattle.std.proofs.lemmas.Str.{IsUtf8-from_ascii}
use Rattle.std.specs.Str.{IsUtf8}
use Rattle.script_rings.proofs.Ascii.{ascii_name}
use Rattle.script_rings.proofs.names.string_of.Goals as goal

pub unreachable-requires : goal.unreachable-requires
unreachable-requires c =
    let name = c.args.name.now in
    absurd (cc (c.in-Err.ensures.succeeds (subst IsUtf8 (sym c.in_ok-from_slice.ensures.items) (IsUtf8-from_ascii name (ascii_name name c.requires)))))
