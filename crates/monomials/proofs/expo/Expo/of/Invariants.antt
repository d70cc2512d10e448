use Rattle.std.proofs.Common.{◌≡◌, ℕ, ◌<◌, ◌≤◌, get_or, length}
use Rattle.monomials.proofs.expo.Expo.of.Given as goal

abbrev pub invariant-loop-i : goal.invariant-loop-i
invariant-loop-i l = record {
  whole : length l.places ≡ 16;
  done : (k : ℕ) → k < l.i → get_or l.places k 0 ≡ get_or l.exps k 0;
  rest : (k : ℕ) → l.i ≤ k → get_or l.places k 0 ≡ 0;
}
