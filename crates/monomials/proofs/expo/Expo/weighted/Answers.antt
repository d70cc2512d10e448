use Rattle.std.proofs.Common.{refl, ℕ, ◌≡◌, ◌≤◌, ◌*◌, ◌∙◌, sym, ap, sum, get_or, length, arith}
use Rattle.std.proofs.lemmas.List.{take_all}
use Rattle.monomials.specs.Monomials.{zip_with}
use Rattle.monomials.specs.Words.{spread}
use Rattle.monomials.specs.Padded.{length-exponents, sixteen}
use Rattle.monomials.proofs.Lanes.{lane_at}
use Rattle.monomials.proofs.Exponents.{length-zip_with}
use Rattle.monomials.proofs.RowValues.{weighted_step, weighted_fits, weighted-exponents}
use Rattle.monomials.proofs.expo.Expo.weighted.Goals as goal

pub overflow_add-total : goal.overflow_add-total
overflow_add-total c =
    let f : (k : ℕ) → get_or c.args.weights.now k 0 ≤ 65535 = λ k. omega (arith, c.fits-weights k) in
    let p : get_or c.args.weights.now c.loop-i.i 0 * get_or (spread c.self.inside.words) c.loop-i.i 0
    ≡ c.from.result * c.from-in-loop-i.result = rw (c.from.ensures, c.from-in-loop-i.ensures, c.lane.ensures, lane_at c.self.inside.words c.loop-i.i) refl in
    omega (arith, p, weighted_fits c.self.inside c.args.weights.now c.loop-i.i c.self.invariant c.told-weights (omega arith) f)

pub loop-i-preserved : goal.loop-i-preserved
loop-i-preserved c =
    let h = weighted_step c.self.inside c.args.weights.now c.loop-i.i c.self.invariant c.told-weights (omega arith) in
    rw (h, c.loop-i.invariant, c.from.ensures, c.from-in-loop-i.ensures, c.lane.ensures, lane_at c.self.inside.words c.loop-i.i) refl

pub returns : goal.returns
returns c =
    let z : length (zip_with (λ w m. w * m) c.args.weights.now (spread c.self.inside.words)) ≡ length c.args.weights.now =
    length-zip_with (λ w m. w * m) c.args.weights.now (spread c.self.inside.words) (c.told-weights ∙ sym (sixteen c.self.inside c.self.invariant)) in
    let n : length c.args.self.now ≡ c.self.inside.len =
    ap length (sym c.self.view_is) ∙ length-exponents c.self.inside c.self.invariant in
    c.loop-i.invariant
    ∙ (ap sum (take_all c.loop-i.i _ (omega (arith, z, c.told-weights)))
    ∙ (sym (weighted-exponents c.self.inside c.args.weights.now c.self.invariant c.told-weights)
    ∙ (rw (n, ← c.self.view_is))))
