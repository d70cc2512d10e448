-- What all statements of a script share.
use Rattle.std.specs.Prelude.{ℕ, List}

-- its bytes, and the most entries that a run may have
pub record Session : Type 0 where
  pub bytes : List ℕ
  pub budget : ℕ
