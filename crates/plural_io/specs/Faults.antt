-- Counts from 0 to the last 64-bit number.
use Rattle.std.specs.Prelude.{◌≡◌, ℕ, ◌+◌, ◌<◌, ◌⊎◌, min}
use Rattle.plural_io.specs.declared.Got.{Got}
use Rattle.plural_io.specs.declared.Got.TheVariants.{Bytes, End, Failed}
use Rattle.plural_io.specs.declared.Put.{Put}
use Rattle.plural_io.specs.declared.Put.TheVariants.{Took, Failed as NotTaken}

-- the count after one more; at its last value it stands still
abbrev pub counted_up : ℕ → ℕ
counted_up count = min (count + 1) 18446744073709551615

-- the count rose, or stands at its last value
abbrev pub Rose : ℕ → ℕ → Type 0
Rose before now = (before < now) ⊎ (now ≡ 18446744073709551615)

-- the count after a read: one more where it failed, and no other
abbrev pub after_read : Got → ℕ → ℕ
after_read (Bytes n) count = count
after_read End count = count
after_read Failed count = counted_up count

-- the count after a write: one more where it failed, and no other
abbrev pub after_write : Put → ℕ → ℕ
after_write (Took n) count = count
after_write NotTaken count = counted_up count
