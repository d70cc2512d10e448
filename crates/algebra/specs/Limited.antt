-- What a call answers whose degrees have a limit.
use Rattle.std.specs.Prelude.{◌≡◌, Bool, true, false, Result, MatchResult}
use Rattle.algebra.specs.declared.ProductFault.{ProductFault}
use Rattle.algebra.specs.declared.ProductFault.TheVariants.{DegreeOver, Memory}

-- the degrees are over the limit just where the fault says so; memory may run out where they are within it
abbrev pub FailsWithin : Bool → ProductFault → Type 0
FailsWithin within DegreeOver = within ≡ false
FailsWithin within Memory = within ≡ true

-- `DegreeOver` exactly where the degrees are not within the limit; where they are, a value, or that memory ran out
abbrev pub AnswersWithin : {T : Type 0} → Bool → Result T ProductFault → Type 0
AnswersWithin within r = MatchResult r (λ _. within ≡ true) (FailsWithin within)
