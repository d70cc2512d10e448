use Rattle.std.proofs.Common.{◌≡◌, ℕ, drop}
use Rattle.monomials.specs.Polynomials.{HasVars}
use Rattle.gpoly.specs.Terms.{pairs_of}
use Rattle.word_model.specs.Elimination as elimination
use Rattle.elimination.proofs.free.is_free.Given as goal

-- what is left to see decides
abbrev pub invariant-loop-term : goal.invariant-loop-term
invariant-loop-term l = (n : ℕ) → HasVars n l.poly → elimination.is_free n l.vars l.poly ≡ elimination.is_free n l.vars (pairs_of (drop l.term-index l.term-items))
