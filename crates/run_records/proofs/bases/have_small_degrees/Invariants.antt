use Rattle.std.proofs.Common.{◌≤◌, drop}
use Rattle.monomials.specs.Polynomials.{Each, poly_degree}
use Rattle.word_model.specs.Products.{degree_limit}
use Rattle.run_records.proofs.bases.have_small_degrees.Given as goal

-- what is left to be seen to be small is enough
abbrev pub invariant-loop-poly : goal.invariant-loop-poly
invariant-loop-poly l = Each (λ f. poly_degree f ≤ degree_limit) (drop l.poly-index l.polys) → Each (λ f. poly_degree f ≤ degree_limit) l.polys
