-- A bit for each job that a queue may have.
use Rattle.std.specs.Prelude.{ℕ, ◌+◌, ◌-◌, ◌*◌, ◌/◌, ◌%◌, Bool, ◌==◌, List, get_or}
use Rattle.std.specs.Int.{bit_at}
use Rattle.word_model.specs.declared.records.Job.{Job}
use Rattle.word_model.specs.declared.records.Job.TheVariants.{Seed, Pair, Right}

-- the number of a job's bit: first come the pairs, then the products, and then the seeds
abbrev pub bit_number : Job → ℕ
bit_number (Pair i j) = j * (j - 1) / 2 + i
bit_number (Right i v) = 2098176 + (i * 17 + v)
bit_number (Seed s) = 2133009 + s

-- bit number k of these words
abbrev pub bit_of : List ℕ → ℕ → Bool
bit_of words k = bit_at (get_or words (k / 64) 0) (k % 64) == 1

-- whether a job's bit is set
abbrev pub is_marked : List ℕ → Job → Bool
is_marked words job = bit_of words (bit_number job)
