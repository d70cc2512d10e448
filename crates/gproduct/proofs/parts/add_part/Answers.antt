use Rattle.std.proofs.Common.{◌∙◌, ◌++◌, ◌∷◌, [], sym, ap, subst, arith}
use Rattle.monomials.proofs.Keys.{Each-first, Each-second}
use Rattle.gproduct.specs.Inside.Parts.{sum_of, AreSorted}
use Rattle.gproduct.proofs.Sums.{last_two}
use Rattle.gproduct.proofs.parts.add_part.Goals as goal

pub loop-last-preserved : goal.loop-last-preserved
loop-last-preserved c =
    let p = c.args.field in
    let order = c.args.order.now in
    let rest = c.pop.new.self.items in
    let all : AreSorted p order (rest ++ c.in-Some.last ∷ []) = subst (AreSorted p order) c.in-Some.ensures.items c.loop-last.invariant.parts in
    let first : AreSorted p order rest = Each-first _ rest (c.in-Some.last ∷ []) all in
    record {
      parts = first;
      part = c.in_ok-part.ensures.sorted;
      sum =
          ap (λ f. sum_of p order (rest ++ f ∷ [])) c.in_ok-part.ensures.value
          ∙ last_two p (omega (arith, c.p-p.ensures.prime.above_one)) order rest c.in-Some.last c.loop-last.part first (Each-second _ rest (c.in-Some.last ∷ []) all).0 c.loop-last.invariant.part
          ∙ ap (λ fs. sum_of p order (fs ++ c.loop-last.part ∷ [])) (sym c.in-Some.ensures.items)
          ∙ c.loop-last.invariant.sum;
    }
