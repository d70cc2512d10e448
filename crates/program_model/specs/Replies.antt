-- What a program replies to its command words and the bytes of its source.
use Rattle.std.specs.Prelude.{◌≡◌, ℕ, Bool, false, not, is_some, Option, Some, None, List, ◌++◌, codes}
use Rattle.command_words.specs.declared.settings.Program.{Program}
use Rattle.command_words.specs.declared.settings.Program.TheVariants.{Threads, One}
use Rattle.command_words.specs.declared.settings.Settings.{Settings}
use Rattle.command_words.specs.Settings.{settings_of}
use Rattle.case_maker.specs.Scripts.{made_script}
use Rattle.word_model.specs.Answers.{Answer, line}
use Rattle.script_model.specs.Scripts.{IsAnswer}

-- the words that a program knows
abbrev pub known_words : Program → List ℕ
known_words Threads = codes "[--workers N] [--pairs N] [--make K]"
known_words One = codes "[--pairs N] [--make K]"

-- what refused words are answered
abbrev pub words_answer : Program → Answer
words_answer program = record { text = line (codes "? Words, expected " ++ known_words program); status = 2 }

-- The reply: refused words are answered first, then the made script that the words ask for, and else the bytes.
pub data IsReply (program : Program) (words : List (List ℕ)) (bytes : List ℕ) : Answer → Type 0 where
  refused : settings_of program words ≡ None → IsReply program words bytes (words_answer program)
  made : (s : Settings) (k : ℕ) (a : Answer) → settings_of program words ≡ Some s → s.make ≡ Some k → IsAnswer s.pairs (made_script k) a → IsReply program words bytes a
  read : (s : Settings) (a : Answer) → settings_of program words ≡ Some s → s.make ≡ None → IsAnswer s.pairs bytes a → IsReply program words bytes a

-- the script is what the source has, neither made nor refused with the words
abbrev pub asks_source : Option Settings → Bool
asks_source None = false
asks_source (Some s) = not (is_some s.make)

abbrev pub reads_source : Program → List (List ℕ) → Bool
reads_source program words = asks_source (settings_of program words)
