use Rattle.std.proofs.Common.{◌≡◌, drop}
use Rattle.monomials.specs.Masks.{mask}
use Rattle.monomials.proofs.expo.Expo.mask.Given as goal

abbrev pub invariant-loop-place : goal.invariant-loop-place
invariant-loop-place l = l.mask ≡ mask (drop l.place l.self)
