use Rattle.std.proofs.Common.{◌≡◌, ◌*◌, sum, take}
use Rattle.monomials.specs.Monomials.{zip_with}
use Rattle.monomials.specs.Words.{spread}
use Rattle.monomials.proofs.expo.Expo.weighted.Given as goal

abbrev pub invariant-loop-i : goal.invariant-loop-i
invariant-loop-i l = l.total ≡ sum (take l.i (zip_with (λ w m. w * m) l.weights (spread l.self-inside.words)))
