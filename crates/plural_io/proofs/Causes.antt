-- When no fault is answered.
use Rattle.std.proofs.Common.{◌≡◌, ◌≢◌, ℕ, Bool, true, false, [], if◌then◌else◌, Result, Ok, Err, OnErr, IsOk, refl, inl, inr, ◌⊎◌}
use Rattle.plural_io.specs.Faults.{Rose}
use Rattle.plural_io.specs.Memory.{MemorySource, read_at_end, read_of, memory_read}
use Rattle.plural_io.specs.declared.Got.TheVariants.{Failed as ReadFailed}
use Rattle.plural_io.specs.declared.reading.ReadAllFault.{ReadAllFault}
use Rattle.plural_io.specs.declared.reading.ReadAllFault.TheVariants.{Failed, TooLong, Memory}

-- a call that fails only where the count rose is Ok where it did not
pub ok_unless_rose : {T E : Type 0} (result : Result T E) (before now : ℕ) →
    OnErr result (Rose before now) → ¬ Rose before now → IsOk result
ok_unless_rose (Ok value) before now cause still = refl
ok_unless_rose (Err fault) before now cause still = absurd (still cause)

-- where the count did not rise, reading to the end is Ok, or too long, or out of memory
pub read_unless_rose : {T : Type 0} (result : Result T ReadAllFault) (before now : ℕ) →
    (result ≡ Err Failed → Rose before now) → ¬ Rose before now →
    IsOk result ⊎ ((result ≡ Err TooLong) ⊎ (result ≡ Err Memory))
read_unless_rose (Ok value) before now cause still = inl refl
read_unless_rose (Err Failed) before now cause still = absurd (still (cause refl))
read_unless_rose (Err TooLong) before now cause still = inr (inl refl)
read_unless_rose (Err Memory) before now cause still = inr (inr refl)

-- a read that gives bytes or is at the end has not failed
not_failed : (ends : Bool) (n : ℕ) (s : MemorySource) → (if ends then read_at_end s else read_of n s).answer ≢ ReadFailed
not_failed true n s failed = cc
not_failed false n s failed = cc

-- a source in memory of which no read is to fail never fails
pub memory_read-unfailing : (room : ℕ) (s : MemorySource) → s.fails ≡ [] → (memory_read room s).answer ≢ ReadFailed
memory_read-unfailing room s none = rw none (not_failed _ _ _)
