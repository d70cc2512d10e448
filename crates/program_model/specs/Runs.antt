-- What a run of a program reads, writes and answers.
use Rattle.std.specs.Prelude.{◌≡◌, ℕ, ◌≤◌, Bool, true, false, IsTrue, List, length, take, Option}
use Rattle.plural_io.specs.Faults.{Rose}
use Rattle.plural_io.specs.Reads.{in_front, behind_all, NoneLeft}
use Rattle.command_words.specs.declared.settings.Program.{Program}
use Rattle.word_model.specs.Answers.{Answer, most_bytes}
use Rattle.program_model.specs.Replies.{IsReply, reads_source}

-- what is seen of a source: the bytes left, where it tells them, and the count of its faults
pub record SourceSeen : Type 0 where
  pub left : Option (List ℕ)
  pub faults : ℕ

-- what is seen of a sink: the bytes held, where it tells them, and the count of its faults
pub record SinkSeen : Type 0 where
  pub held : Option (List ℕ)
  pub faults : ℕ

-- These bytes were read: all that the source had left, up to its end, unless there are more than a script may have; then
-- reading stopped.
pub record IsReadOut (bytes : List ℕ) (source source' : SourceSeen) : Type 0 where
  pub left : source.left ≡ in_front bytes source'.left
  pub end : length bytes ≤ most_bytes → NoneLeft source'.left

-- a source that is not asked for its bytes is as before
abbrev pub HasRead : Bool → List ℕ → SourceSeen → SourceSeen → Type 0
HasRead true bytes source source' = IsReadOut bytes source source'
HasRead false bytes source source' = source' ≡ source

-- a reply to the words and to what was read
pub record IsReplied (program : Program) (words : List (List ℕ)) (source source' : SourceSeen) (a : Answer) : Type 0 where
  pub bytes : List ℕ
  pub read : HasRead (reads_source program words) bytes source source'
  pub reply : IsReply program words bytes a

-- A run that no read and no write disturbed: the whole text was written, and its status is answered; or memory was
-- wanting, and nothing was written.
pub data IsUndisturbed (program : Program) (words : List (List ℕ)) (source source' : SourceSeen) (sink sink' : SinkSeen) : ℕ → Type 0 where
  whole : (a : Answer) → IsReplied program words source source' a → sink'.held ≡ behind_all sink.held a.text → IsUndisturbed program words source source' sink sink' a.status
  no_memory : sink' ≡ sink → IsUndisturbed program words source source' sink sink' 7

-- A run of the program, with its status. It is undisturbed; or a read failed, and nothing was written;
-- or a write failed, and what was written begins the text.
pub data IsRun (program : Program) (words : List (List ℕ)) (source source' : SourceSeen) (sink sink' : SinkSeen) : ℕ → Type 0 where
  undisturbed : (status : ℕ) → IsUndisturbed program words source source' sink sink' status → IsRun program words source source' sink sink' status
  read_failed : IsTrue (reads_source program words) → Rose source.faults source'.faults → sink' ≡ sink → IsRun program words source source' sink sink' 5
  write_failed : (a : Answer) (n : ℕ) → IsReplied program words source source' a → Rose sink.faults sink'.faults
      → sink'.held ≡ behind_all sink.held (take n a.text) → IsRun program words source source' sink sink' 6
