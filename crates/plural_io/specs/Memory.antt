-- A source and a sink in memory as contracts see them, and what one read and one write do.
use Rattle.std.specs.Prelude.{ℕ, ◌-◌, ◌==◌, min, Bool, ◌&&◌, ◌||◌, not, if◌then◌else◌, List, [], ◌++◌, length, take, drop}
use Rattle.std.specs.List.{list_any}
use Rattle.plural_io.specs.Faults.{counted_up}
use Rattle.plural_io.specs.declared.Got.{Got}
use Rattle.plural_io.specs.declared.Got.TheVariants.{Bytes, End, Failed}
use Rattle.plural_io.specs.declared.Put.{Put}
use Rattle.plural_io.specs.declared.Put.TheVariants.{Took, Failed as NotTaken}

-- the call with this number is one of those that fail
abbrev pub is_among : ℕ → List ℕ → Bool
is_among number fails = list_any (λ k. k == number) fails

-- the bytes left, the most bytes of a read, which reads fail, reads and faults so far
pub record MemorySource : Type 0 where
  pub left : List ℕ
  pub per_call : ℕ
  pub fails : List ℕ
  pub reads : ℕ
  pub faults : ℕ

-- what a read answers, the bytes that it gives, and the source after it
pub record MemoryRead : Type 0 where
  pub answer : Got
  pub bytes : List ℕ
  pub after : MemorySource

-- a read that fails
abbrev pub failed_read : MemorySource → MemoryRead
failed_read s =
    record { answer = Failed; bytes = []; after = record s { faults = counted_up s.faults } }

-- a read where no byte is left
abbrev pub read_at_end : MemorySource → MemoryRead
read_at_end s = record { answer = End; bytes = []; after = s }

-- a read that gives the next n bytes
abbrev pub read_of : ℕ → MemorySource → MemoryRead
read_of n s =
    record { answer = Bytes n; bytes = take n s.left; after = record s { left = drop n s.left } }

-- a read into `room` bytes gives as many as these, `per_call` and the bytes left allow
abbrev pub memory_read : ℕ → MemorySource → MemoryRead
memory_read room s =
    let counted : MemorySource = record s { reads = counted_up s.reads } in
    if is_among counted.reads s.fails then failed_read counted
    else if length s.left == 0 then read_at_end counted
    else read_of (min (min room s.per_call) (length s.left)) counted

-- the bytes held, their room, the most bytes of a write, which writes fail, writes and faults
pub record MemorySink : Type 0 where
  pub held : List ℕ
  pub room : ℕ
  pub per_call : ℕ
  pub fails : List ℕ
  pub writes : ℕ
  pub faults : ℕ

-- what a write answers, and the sink after it
pub record MemoryWrite : Type 0 where
  pub answer : Put
  pub after : MemorySink

-- a write that fails
abbrev pub failed_write : MemorySink → MemoryWrite
failed_write s = record { answer = NotTaken; after = record s { faults = counted_up s.faults } }

-- a write that takes the first n bytes of a piece
abbrev pub write_of : ℕ → List ℕ → MemorySink → MemoryWrite
write_of n piece s = record { answer = Took n; after = record s { held = s.held ++ take n piece } }

-- a write takes as many bytes as the piece, `per_call` and the room left allow, or fails at no room
abbrev pub memory_write : List ℕ → MemorySink → MemoryWrite
memory_write piece s =
    let counted : MemorySink = record s { writes = counted_up s.writes } in
    let free = s.room - length s.held in
    if is_among counted.writes s.fails || (free == 0 && not (length piece == 0))
    then failed_write counted
    else write_of (min (min (length piece) s.per_call) free) piece counted
