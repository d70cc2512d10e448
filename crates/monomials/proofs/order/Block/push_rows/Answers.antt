use Rattle.std.proofs.Common.{◌≡◌, ◌+◌, ◌-◌, ◌≤◌, ◌∙◌, ℕ, Bool, length, ap, arith}
use Rattle.std.proofs.lemmas.Result.{on_ok_weaker}
use Rattle.monomials.specs.Blocks.{last_first, first_first, weights_row, IsPart}
use Rattle.monomials.specs.declared.order.Block.TheVariants.{Extra, DegRev, WeightRev}
use Rattle.monomials.proofs.AddedRows.{adds_one, adds_first, adds_first_of}
use Rattle.monomials.proofs.order.Block.push_rows.Goals as goal

pub returns-in_ok-push-in-Extra : goal.returns-in_ok-push-in-Extra
returns-in_ok-push-in-Extra c =
    let n : ℕ = c.args.n in
    let part : (front : Bool) × IsPart n front (Extra c.in-Extra.weights) = rw c.in-Extra.is at c.requires.part in
    let items = c.as_slice.ensures in
    let inside : 0 + length c.as_slice.result.now ≤ n = omega (arith, ap length items, part.1.2) in
    rw c.in-Extra.is
    (adds_one n _ _ _ _ c.in_ok-push-in-Extra.ensures.items
    (c.weighted_in.ensures.entries n inside c.requires.few ∙ ap (λ ws. weights_row n 0 ws) items) (c.weighted_in.ensures.within n))

pub returns-in_ok-push-in-DegRev : goal.returns-in_ok-push-in-DegRev
returns-in_ok-push-in-DegRev c =
    let n : ℕ = c.args.n in
    let part : (front : Bool) × IsPart n front (DegRev c.in-DegRev.len) = rw c.in-DegRev.is at c.requires.part in
    let fits : c.args.at + c.in-DegRev.len ≤ n = rw c.in-DegRev.is at c.requires.fits in
    rw c.in-DegRev.is
    (on_ok_weaker c.push_falling.result
    (λ more.
    adds_first n _ _ _ _ _ _ c.in_ok-push-in-DegRev.ensures.items (c.degree_in.ensures.entries n fits c.requires.few)
    (c.degree_in.ensures.within n) (more n (omega (arith, part.1, fits))))
    c.push_falling.ensures)

pub returns-in_ok-push-in-DegLex : goal.returns-in_ok-push-in-DegLex
returns-in_ok-push-in-DegLex c =
    let n : ℕ = c.args.n in
    let fits : c.args.at + c.in-DegLex.len ≤ n = rw c.in-DegLex.is at c.requires.fits in
    rw c.in-DegLex.is
    (on_ok_weaker c.push_rising-in-DegLex.result
    (λ more.
    adds_first n _ _ _ _ _ _ c.in_ok-push-in-DegLex.ensures.items (c.degree_in-in-DegLex.ensures.entries n fits c.requires.few)
    (c.degree_in-in-DegLex.ensures.within n) (more n fits))
    c.push_rising-in-DegLex.ensures)

pub returns-in_ok-push-in-WeightRev : goal.returns-in_ok-push-in-WeightRev
returns-in_ok-push-in-WeightRev c =
    let n : ℕ = c.args.n in
    let part : (front : Bool) × IsPart n front (WeightRev c.in-WeightRev.weights) = rw c.in-WeightRev.is at c.requires.part in
    let fits : c.args.at + length c.in-WeightRev.weights ≤ n = rw c.in-WeightRev.is at c.requires.fits in
    let items : c.as_slice-weights.result.now ≡ c.in-WeightRev.weights = c.as_slice-weights.ensures in
    let len : length c.as_slice-weights.result.now ≡ length c.in-WeightRev.weights = ap length items in
    let inside : c.args.at + length c.as_slice-weights.result.now ≤ n = omega (arith, len, fits) in
    rw c.in-WeightRev.is
    (on_ok_weaker c.push_falling-in-WeightRev.result
    (λ more.
    adds_first_of n (λ k. last_first n (c.args.at + 1) (k - 1)) _ _ len _ _ _ _ _ c.in_ok-push-in-WeightRev.ensures.items
    (c.weighted_in-in-WeightRev.ensures.entries n inside c.requires.few ∙ ap (λ ws. weights_row n c.args.at ws) items)
    (c.weighted_in-in-WeightRev.ensures.within n)
    (more n (omega (arith, part.1, fits, len))))
    c.push_falling-in-WeightRev.ensures)

pub returns-in_ok-push-in-WeightLex : goal.returns-in_ok-push-in-WeightLex
returns-in_ok-push-in-WeightLex c =
    let n : ℕ = c.args.n in
    let fits : c.args.at + length c.in-WeightLex.weights ≤ n = rw c.in-WeightLex.is at c.requires.fits in
    let items : c.as_slice-weights-in-WeightLex.result.now ≡ c.in-WeightLex.weights = c.as_slice-weights-in-WeightLex.ensures in
    let len : length c.as_slice-weights-in-WeightLex.result.now ≡ length c.in-WeightLex.weights = ap length items in
    let inside : c.args.at + length c.as_slice-weights-in-WeightLex.result.now ≤ n = omega (arith, len, fits) in
    rw c.in-WeightLex.is
    (on_ok_weaker c.push_rising-in-WeightLex.result
    (λ more.
    adds_first_of n (λ k. first_first n c.args.at k) _ _ len _ _ _ _ _ c.in_ok-push-in-WeightLex.ensures.items
    (c.weighted_in-in-WeightLex.ensures.entries n inside c.requires.few ∙ ap (λ ws. weights_row n c.args.at ws) items)
    (c.weighted_in-in-WeightLex.ensures.within n)
    (more n (omega (arith, fits, len))))
    c.push_rising-in-WeightLex.ensures)
