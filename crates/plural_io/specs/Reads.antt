-- What one read and one write answer and leave, where the bytes may be told or not.
use Rattle.std.specs.Prelude.{◌≡◌, ℕ, ◌<◌, ◌≤◌, Option, Some, None, List, [], ◌++◌, length, take}
use Rattle.plural_io.specs.Faults.{Rose}
use Rattle.plural_io.specs.declared.Got.{Got}
use Rattle.plural_io.specs.declared.Got.TheVariants.{Bytes, End, Failed}
use Rattle.plural_io.specs.declared.Put.{Put}
use Rattle.plural_io.specs.declared.Put.TheVariants.{Took, Failed as NotTaken}

-- some bytes, and then the bytes that are told
abbrev pub in_front : List ℕ → Option (List ℕ) → Option (List ℕ)
in_front front None = None
in_front front (Some bytes) = Some (front ++ bytes)

-- the bytes that are told, and then some more
abbrev pub behind_all : Option (List ℕ) → List ℕ → Option (List ℕ)
behind_all None more = None
behind_all (Some bytes) more = Some (bytes ++ more)

-- no byte is left, where that is told
abbrev pub NoneLeft : Option (List ℕ) → Type 0
NoneLeft None = Unit {0}
NoneLeft (Some bytes) = bytes ≡ []

-- a buffer of `room` bytes begins with the next n bytes, at least one if it has room
pub record HasNext (n room : ℕ) (buf : List ℕ) (left left' : Option (List ℕ)) : Type 0 where
  pub some : 0 < room → 0 < n
  pub within : n ≤ room
  pub next : left ≡ in_front (take n buf) left'

-- a read into a buffer of `room` bytes gave this answer and left the buffer as `buf`
abbrev pub IsRead : Got → ℕ → List ℕ → Option (List ℕ) → Option (List ℕ) → ℕ → ℕ → Type 0
IsRead (Bytes n) room buf left left' faults faults' = HasNext n room buf left left'
IsRead End room buf left left' faults faults' = (left' ≡ left) × NoneLeft left
IsRead Failed room buf left left' faults faults' = Rose faults faults' × (left' ≡ left)

-- the first n bytes of a piece were appended, at least one of a nonempty piece
pub record HasTaken (n : ℕ) (piece : List ℕ) (held held' : Option (List ℕ)) : Type 0 where
  pub some : 0 < length piece → 0 < n
  pub within : n ≤ length piece
  pub appended : held' ≡ behind_all held (take n piece)

-- a write of a piece gave this answer
abbrev pub IsWrite : Put → List ℕ → Option (List ℕ) → Option (List ℕ) → ℕ → ℕ → Type 0
IsWrite (Took n) piece held held' faults faults' = HasTaken n piece held held'
IsWrite NotTaken piece held held' faults faults' = Rose faults faults' × (held' ≡ held)
