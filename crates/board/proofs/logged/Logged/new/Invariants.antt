use Rattle.std.proofs.Common.{◌≡◌, None, slice_index_or, ℕ, length, sum_by}
use Rattle.board.specs.Logs.{in_hand}
use Rattle.board.proofs.logged.Logged.new.Given as goal

abbrev pub invariant-loop : goal.invariant-loop
invariant-loop l = (length l.hands.items ≡ l.counter) × ((s : ℕ) → slice_index_or l.hands.items s None ≡ None) × (sum_by in_hand l.hands.items ≡ 0)
