-- The algebras in two variables with one relation: the Weyl algebra, quantum planes and what lies between.
use Rattle.std.specs.Prelude.{ℕ, ◌%◌, [], ◌∷◌}
use Rattle.monomials.specs.Polynomials.{cons_nonzero}
use Rattle.monomials.specs.Blocks.{dp_rows}
use Rattle.word_model.specs.Words.{Algebra}

-- the algebra of x and d with d x = c x d + e, ordered by dp
abbrev pub two_variables : ℕ → ℕ → ℕ → Algebra
two_variables p c e = record {
  p = p;
  order = record { vars = 2; rows = dp_rows 2 0 2 };
  c = (c % p) ∷ [];
  d = cons_nonzero (e % p) (0 ∷ 0 ∷ []) [] ∷ [];
}
