-- The lines of relations, one after another.
use Rattle.std.proofs.Common.{◌≡◌, ℕ, zero, suc, ◌++◌, List, refl, arith}
use Rattle.word_model.specs.Words.{Algebra}
use Rattle.word_model.specs.RingTexts.{relation_line, relation_row, relation_lines}

pub row_step : (A : Algebra) (names : List (List ℕ)) (i j j' k k' : ℕ) → j' ≡ suc j → k ≡ suc k'
    → relation_row A names i j k ≡ relation_line A names i j ++ relation_row A names i j' k'
row_step A names i j j' zero k' next more = absurd (omega arith)
row_step A names i j j' (suc k) k' next more =
    let same : k ≡ k' = omega arith in
    rw (next, same) refl

pub lines_step : (A : Algebra) (names : List (List ℕ)) (i i' k k' : ℕ) → i' ≡ suc i → k ≡ suc k'
    → relation_lines A names i k ≡ relation_row A names i i' k' ++ relation_lines A names i' k'
lines_step A names i i' zero k' next more = absurd (omega arith)
lines_step A names i i' (suc k) k' next more =
    let same : k ≡ k' = omega arith in
    rw (next, same) refl
