use Rattle.std.proofs.Common.{◌≡◌, ℕ, length}
use Rattle.closed_forms.specs.Inside.Tables.{table}
use Rattle.closed_forms.specs.Forms.{pairs_of, sum_of_terms}
use Rattle.closed_forms.specs.Inside.Paths.{place}
use Rattle.closed_forms.proofs.terms.along.Given as goal

abbrev pub invariant-loop-k : goal.invariant-loop-k
invariant-loop-k l =
    (p : ℕ) (c : ℕ → ℕ) → l.numbers ≡ table p c (length l.numbers) → pairs_of l.terms.items ≡ sum_of_terms p c (place l.path l.x l.y) l.k
