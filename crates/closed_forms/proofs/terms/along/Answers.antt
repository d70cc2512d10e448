use Rattle.std.proofs.Common.{◌≡◌, ◌∙◌, ◌%◌, ℕ, length, get_or}
use Rattle.closed_forms.specs.Forms.{pairs_of}
use Rattle.closed_forms.specs.Inside.Paths.{place}
use Rattle.closed_forms.proofs.Sums.{sum_of_terms_more}
use Rattle.closed_forms.proofs.Tables.{at_table}
use Rattle.closed_forms.proofs.terms.along.Goals as goal

pub loop-k-preserved : goal.loop-k-preserved
loop-k-preserved c = λ p number whole.
    let k : ℕ = c.loop-k.k in
    let n : ℕ = length c.args.numbers.now in
    let is : get_or c.args.numbers.now c.from.result 0 ≡ number k % p = (λ i. get_or (whole i) (c.from.ensures i) 0) ∙ at_table p number n k c.loop-k-test.true in
    sum_of_terms_more p number (place c.args.path c.args.x c.args.y) k _ (c.place-x.result.0, c.place-x.result.1) (pairs_of c.loop-k.terms.items) (pairs_of c.push_nonzero.new.terms.items)
    (c.loop-k.invariant p number whole) is (λ i. ((c.place-x.ensures i).0, (c.place-x.ensures i).1)) c.in_ok-push_nonzero.ensures
