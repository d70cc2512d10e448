use Rattle.std.proofs.Common.{◌≡◌, ◌∙◌, ◌∷◌, [], sym, ap, subst}
use Rattle.monomials.specs.Polynomials.{Polynomial, IsPolynomial}
use Rattle.word_model.specs.Words.{Algebra}
use Rattle.word_model.specs.Products.{product}
use Rattle.gproduct.specs.Inside.Kept.{factor_at, AreKept}
use Rattle.gproduct.proofs.kept.KeptProducts.keep.Goals as goal
use Rattle.gproduct.proofs.kept.KeptProducts.keep.Goals.{After-widen}

-- after the slots were made more
widened : (c : After-widen) (A : Algebra) → AreKept A c.args.self.now.factors.items c.args.self.now.slots.items
    → AreKept A c.widen.new.self.factors.items c.widen.new.self.slots.items
widened c A are =
    subst (λ fs. AreKept A fs c.widen.new.self.slots.items) (sym c.widen.ensures.factors)
    (c.widen.ensures.kept A c.set_factor.new.self.factors.items (c.set_factor.ensures.kept A (c.make_room.ensures A are)))

pub returns-in_err-widen : goal.returns-in_err-widen
returns-in_err-widen c A sorted value are = widened (goal.at.returns-in_err-widen c).After-widen A are

pub returns-in_err-product : goal.returns-in_err-product
returns-in_err-product c A sorted value are = widened (goal.at.returns-in_err-product c).After-widen A are

pub returns : goal.returns
returns c A sorted value are =
    let factors = c.widen.new.self.factors.items in
    let factor : factor_at factors c.args.number ≡ c.args.f.now =
    ap (λ fs. factor_at fs c.args.number) c.widen.ensures.factors ∙ c.in_ok-set_factor.ensures.factor in
    let kept = c.put.ensures.kept A factors (record {
      some = λ e. c.requires (sym factor ∙ e);
      sorted = subst (IsPolynomial A.p A.order) (sym c.in_ok-product.ensures) sorted;
      value = c.in_ok-product.ensures ∙ value ∙ ap (product A ((1, c.args.mono.now) ∷ [])) (sym factor);
    }) (widened (goal.at.returns c).After-widen A are) in
    subst (λ fs. AreKept A fs c.put.new.self.slots.items) (sym c.put.ensures.factors) kept
