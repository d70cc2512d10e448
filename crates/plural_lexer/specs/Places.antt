-- Lines count from 1, and a line feed ends a line. Columns count bytes from 1 within the line.
use Rattle.std.specs.Prelude.{ℕ, ◌+◌, ◌==◌, if◌then◌else◌, List, [], ◌∷◌}
use Rattle.plural_lexer.specs.declared.place.Place.{Place}

-- the place behind a byte that stands at a place
abbrev pub place_next : Place → ℕ → Place
place_next p b = if b == 10 then record { line = p.line + 1; column = 1 } else record { line = p.line; column = p.column + 1 }

abbrev pub place_after : Place → List ℕ → Place
place_after p [] = p
place_after p (b ∷ bs) = place_after (place_next p b) bs

-- the place behind the first bytes of a script
abbrev pub place_of : List ℕ → Place
place_of bs = place_after (record { line = 1; column = 1 }) bs
