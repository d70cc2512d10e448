use Rattle.std.proofs.Common.{◌≡◌, ◌++◌, ◌∷◌, [], length, map, drop}
use Rattle.gpoly.specs.Terms.{pairs_of}
use Rattle.gproduct.specs.Inside.Factors.{factor_count, products_in}
use Rattle.gproduct.proofs.multiplying.push_before.Given as goal

abbrev pub invariant-loop-term : goal.invariant-loop-term
invariant-loop-term l = record {
  counted : factor_count l.pending.open.items ≡ length l.pending.factors.items;
  products : products_in l.pending.open.items l.pending.factors.items ++ map (λ t. (t.0, t.1 ∷ l.mono ∷ [])) (pairs_of (drop l.term-index l.terms))
      ≡ products_in l.initial.pending.open.items l.initial.pending.factors.items ++ map (λ t. (t.0, t.1 ∷ l.mono ∷ [])) (pairs_of l.terms);
}
