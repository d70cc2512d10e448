use Rattle.std.proofs.Common.{◌≡◌, ◌∙◌, ◌+◌, ◌*◌, ◌-◌, length, drop, get_or, sym, ap, arith}
use Rattle.std.specs.Int.{bit_at}
use Rattle.std.proofs.lemmas.List.{drop_all}
use Rattle.monomials.specs.Masks.{mask, nibble}
use Rattle.monomials.proofs.Masks.{mask-drop, mask-fits, bits_are}
use Rattle.monomials.proofs.Packing.{length_is}
use Rattle.monomials.proofs.expo.Expo.mask.Goals as goal

pub loop-place-init : goal.loop-place-init
loop-place-init c =
    let n : length c.args.self.now ≡ c.self.inside.len = length_is c.self.inside _ c.self.invariant c.self.view_is in
    sym (ap (λ m. mask m) (drop_all c.self.inside.len c.args.self.now (omega (arith, n))))

pub overflow_mul-mask : goal.overflow_mul-mask
overflow_mul-mask c =
    let m = c.args.self.now in
    let n : length m ≡ c.self.inside.len = length_is c.self.inside m c.self.invariant c.self.view_is in
    omega (arith, c.loop-place.invariant, mask-fits m c.loop-place.place (omega arith) (omega (arith, n)) (omega (arith, n, c.self.invariant.fits)))

pub at-requires : goal.at-requires
at-requires c = omega (arith, length_is c.self.inside _ c.self.invariant c.self.view_is)

pub overflow_add-mask : goal.overflow_add-mask
overflow_add-mask c =
    let m = c.args.self.now in
    let n : length m ≡ c.self.inside.len = length_is c.self.inside m c.self.invariant c.self.view_is in
    let digit : c.nibble.result ≡ nibble (get_or m (c.loop-place.place - 1) 0) = c.nibble.ensures ∙ ap (λ x. nibble x) c.at.ensures in
    omega (arith, digit, c.loop-place.invariant, mask-fits m c.loop-place.place (omega arith) (omega (arith, n)) (omega (arith, n, c.self.invariant.fits)))

pub loop-place-preserved : goal.loop-place-preserved
loop-place-preserved c =
    let m = c.args.self.now in
    let n : length m ≡ c.self.inside.len = length_is c.self.inside m c.self.invariant c.self.view_is in
    let digit : c.nibble.result ≡ nibble (get_or m (c.loop-place.place - 1) 0) = c.nibble.ensures ∙ ap (λ x. nibble x) c.at.ensures in
    omega (arith, digit, c.loop-place.invariant, mask-drop m c.loop-place.place (omega arith) (omega (arith, n)))

pub returns-clause-bits : goal.returns-clause-bits
returns-clause-bits c =
    let none : c.loop-place.place ≡ 0 = omega arith in
    let is : c.loop-place.mask ≡ mask c.args.self.now = c.loop-place.invariant ∙ ap (λ k. mask (drop k c.args.self.now)) none in
    λ v t one last h. (
      λ b. (bits_are c.args.self.now v t h).0 (ap (λ k. bit_at k (4 * (v - 1) + t)) (sym is) ∙ b),
      λ le. ap (λ k. bit_at k (4 * (v - 1) + t)) is ∙ (bits_are c.args.self.now v t h).1 le,
    )
