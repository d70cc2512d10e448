-- What the command words of a program say.
use Rattle.std.specs.Prelude.{ℕ, ◌+◌, ◌≤◌, ◌==◌, nat_le, nat_lt, not, ◌&&◌, Bool, true, false, if◌then◌else◌, List, [], ◌∷◌, length, take, drop, Option, Some, None, is_some, codes, unwrap_or, option_and_then, IfSome}
use lib.Pointwise.{pointwise}
use lib.Dec.{eqb}
use Rattle.std.specs.List.{prefix_len}
use Rattle.plural_lexer.specs.Letters.{number_of}
use Rattle.command_words.specs.declared.settings.Program.{Program}
use Rattle.command_words.specs.declared.settings.Program.TheVariants.{Threads, One}
use Rattle.command_words.specs.declared.settings.Settings.{Settings}
use Rattle.command_words.specs.declared.options.Name.{Name}
use Rattle.command_words.specs.declared.options.Name.TheVariants.{Workers, Pairs, Make}
use Rattle.command_words.specs.declared.options.Reading.{Reading}

-- only a program with threads has workers
abbrev pub takes_workers : Program → Bool
takes_workers Threads = true
takes_workers One = false

abbrev pub name_of : Program → List ℕ → Option Name
name_of program text =
    if pointwise eqb text (codes "--workers") then (if takes_workers program then Some Workers else None)
    else if pointwise eqb text (codes "--pairs") then Some Pairs
    else if pointwise eqb text (codes "--make") then Some Make
    else None

-- each option is given once at most, and its value is within its range
abbrev pub with_workers : Reading → ℕ → Option Reading
with_workers r n = if not (is_some r.workers) && nat_le 1 n && nat_le n 64 then Some (record r { workers = Some n; wants = None }) else None

abbrev pub with_pairs : Reading → ℕ → Option Reading
with_pairs r n = if not (is_some r.pairs) && nat_le 1 n && nat_le n 1000000 then Some (record r { pairs = Some n; wants = None }) else None

abbrev pub with_make : Reading → ℕ → Option Reading
with_make r n = if not (is_some r.make) && nat_le n 999999999 then Some (record r { make = Some n; wants = None }) else None

abbrev pub with_number : Reading → Name → ℕ → Option Reading
with_number r Workers n = with_workers r n
with_number r Pairs n = with_pairs r n
with_number r Make n = with_make r n

-- a value is 1 to 9 decimal digits
abbrev pub with_value : Reading → Name → List ℕ → Option Reading
with_value r name value = option_and_then (λ n. with_number r name n) (number_of 9 value)

-- the bytes before the first `=`
abbrev pub is_in_name : ℕ → Bool
is_in_name b = not (b == 61)

-- an option, whose value stands behind `=` or is the next word
abbrev pub begun : Program → Reading → List ℕ → Option Reading
begun program r word =
    let n = prefix_len is_in_name word in
    option_and_then (λ name. if nat_lt n (length word) then with_value r name (drop (n + 1) word) else Some (record r { wants = Some name }))
    (name_of program (take n word))

abbrev pub by_wants : Option Name → Program → Reading → List ℕ → Option Reading
by_wants (Some name) program r word = with_value r name word
by_wants None program r word = begun program r word

abbrev pub read_word : Program → Reading → List ℕ → Option Reading
read_word program r word = by_wants r.wants program r word

-- word after word, as long as none is refused
abbrev pub read_on : Program → Reading → List (List ℕ) → Option Reading
read_on program r [] = Some r
read_on program r (word ∷ words) = option_and_then (λ s. read_on program s words) (read_word program r word)

-- at the end no option wants its value any more
abbrev pub settled : Reading → Option Settings
settled r = if is_some r.wants then None else Some (record { workers = unwrap_or r.workers 4; pairs = unwrap_or r.pairs 100000; make = r.make })

abbrev pub nothing_read : Reading
nothing_read = record { workers = None; pairs = None; make = None; wants = None }

abbrev pub settings_of : Program → List (List ℕ) → Option Settings
settings_of program words = option_and_then (λ r. settled r) (read_on program nothing_read words)

-- the ranges of the settings
pub record AreInRange (s : Settings) : Type 0 where
  pub some_worker : 1 ≤ s.workers
  pub workers : s.workers ≤ 64
  pub some_pair : 1 ≤ s.pairs
  pub pairs : s.pairs ≤ 1000000
  pub make : IfSome s.make (λ k. k ≤ 999999999)
