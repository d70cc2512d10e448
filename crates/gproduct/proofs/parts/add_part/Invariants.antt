use Rattle.std.proofs.Common.{◌≡◌, ◌++◌, ◌∷◌, [], length}
use Rattle.monomials.specs.Polynomials.{IsPolynomial}
use Rattle.gproduct.specs.Inside.Parts.{sum_of, AreSorted}
use Rattle.gproduct.proofs.parts.add_part.Given as goal

abbrev pub invariant-loop-last : goal.invariant-loop-last
invariant-loop-last l = record {
  parts : AreSorted l.field l.order l.parts.items;
  part : IsPolynomial l.field l.order l.part;
  sum : sum_of l.field l.order (l.parts.items ++ l.part ∷ []) ≡ sum_of l.field l.order (l.fn.parts.items ++ l.fn.part ∷ []);
}

abbrev pub decreases-loop-last : goal.decreases-loop-last
decreases-loop-last l = length l.parts.items
