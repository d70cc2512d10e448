use Rattle.std.proofs.Common.{◌^◌, ◌<◌, ℕ, get_or, replicate, sym, arith}
use Rattle.std.proofs.lemmas.List.{length-set}
use Rattle.monomials.proofs.Exponents.{get_or-zeros}
use Rattle.monomials.proofs.Packing.{length-power, degree-power, power_words, set-below, padded_of, exponents_of}
use Rattle.monomials.proofs.expo.Expo.power.Goals as goal

pub invariant_of-result : goal.invariant_of-result
invariant_of-result c =
    let degree = degree-power c.args.n c.args.v c.args.e c.requires.fits c.requires.first c.requires.last in
    let below : (k : ℕ) → get_or {A = ℕ} (replicate 4 0) k 0 < 2 ^ 64 = λ k. omega (arith, get_or-zeros 4 k) in
    padded_of _ _ c.args.n (length-power c.args.n c.args.v c.args.e c.requires.fits c.requires.first c.requires.last)
    (power_words c.args.n c.args.v c.args.e c.requires.fits c.requires.first c.requires.last c.from.result
    c.at_lane.result c.from.ensures c.at_lane.ensures.value)
    c.args.e (omega arith) c.requires.fits (length-set (replicate 4 0) c.from.result c.at_lane.result)
    (λ k. set-below (replicate 4 0) c.from.result c.at_lane.result (2 ^ 64) k c.at_lane.ensures.below below)
    (sym degree) (omega (arith, degree, c.requires.small))

pub returns : goal.returns
returns c =
    exponents_of _ _ c.args.n (length-power c.args.n c.args.v c.args.e c.requires.fits c.requires.first c.requires.last)
    (power_words c.args.n c.args.v c.args.e c.requires.fits c.requires.first c.requires.last c.from.result
    c.at_lane.result c.from.ensures c.at_lane.ensures.value)
