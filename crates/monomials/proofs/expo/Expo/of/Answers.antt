use Rattle.std.proofs.Common.{◌∙◌, length, refl, arith}
use Rattle.monomials.proofs.Packing.{places_of, total_of, padded_of, exponents_of}
use Rattle.monomials.proofs.expo.Expo.of.Goals as goal

pub total-requires : goal.total-requires
total-requires c =
    let places =
    places_of c.args.exps.now c.loop-i.places c.loop-i.invariant.whole c.requires.fits
    (λ k l. c.loop-i.invariant.done k (omega arith)) (λ k l. c.loop-i.invariant.rest k (omega arith)) in
    let lanes = c.pack-words.ensures.value ∙ places in
    omega (arith, total_of c.args.exps.now c.pack-words.result (length c.args.exps.now) refl lanes, c.requires.small)

pub invariant_of-result : goal.invariant_of-result
invariant_of-result c =
    let places =
    places_of c.args.exps.now c.loop-i.places c.loop-i.invariant.whole c.requires.fits
    (λ k l. c.loop-i.invariant.done k (omega arith)) (λ k l. c.loop-i.invariant.rest k (omega arith)) in
    let lanes = c.pack-words.ensures.value ∙ places in
    let total = c.total.ensures ∙ total_of c.args.exps.now c.pack-words.result (length c.args.exps.now) refl lanes in
    padded_of c.args.exps.now c.pack-words.result (length c.args.exps.now) refl lanes c.total.result c.requires.not_empty
    c.requires.fits c.pack-words.ensures.four c.pack-words.ensures.whole total c.requires.small

pub returns : goal.returns
returns c =
    let places =
    places_of c.args.exps.now c.loop-i.places c.loop-i.invariant.whole c.requires.fits
    (λ k l. c.loop-i.invariant.done k (omega arith)) (λ k l. c.loop-i.invariant.rest k (omega arith)) in
    exponents_of c.args.exps.now c.pack-words.result (length c.args.exps.now) refl (c.pack-words.ensures.value ∙ places)
