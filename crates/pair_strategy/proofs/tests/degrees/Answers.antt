use Rattle.std.proofs.Common.{◌≡◌, ℕ, ◌≤◌, ◌<◌, ◌+◌, List, [], ◌∷◌, ◌++◌, length, take, get_or, sym, ap, ◌∙◌, subst, arith}
use Rattle.std.proofs.lemmas.List.{take_more}
use Rattle.monomials.specs.Polynomials.{Polynomial, Each, poly_degree}
use Rattle.monomials.proofs.Keys.{Each-append}
use Rattle.word_model.specs.Jobs.{AreSugars}
use Rattle.word_model.proofs.Sugars.{AreSugars-append}
use Rattle.pair_strategy.proofs.tests.degrees.Goals as goal

pub loop-element-preserved : goal.loop-element-preserved
loop-element-preserved c =
    let G : List Polynomial = c.args.basis.now.items in
    let k = c.loop-element.element-index in
    let n : List ℕ = c.loop-element.sugars.items in
    let d = c.degree.result in
    let x : Polynomial = c.element-item.result in
    let low : k < length G = omega (arith, c.loop-element-test.true, ap length c.deref-element-items.ensures.value) in
    let same : get_or G k x ≡ x = ap (λ (list : List Polynomial). get_or list k x) (sym c.deref-element-items.ensures.value) ∙ sym c.element-item.is in
    let more : take (k + 1) G ≡ take k G ++ x ∷ [] = take_more G k x low ∙ ap (λ (f : Polynomial). take k G ++ f ∷ []) same in
    let pushed : c.push.new.self.items ≡ n ++ d ∷ [] = c.in_ok-push.ensures.items in
    let degree : poly_degree x ≤ d = omega (arith, c.degree.ensures.value) in
    record {
      are =
          subst (λ (F : List Polynomial). AreSugars F c.push.new.self.items) (sym more)
          (subst (AreSugars (take k G ++ x ∷ [])) (sym pushed) (AreSugars-append (take k G) n x d c.loop-element.invariant.are degree));
      small = subst (Each (λ m. m ≤ 4095)) (sym pushed) (Each-append (λ m. m ≤ 4095) n (d ∷ []) c.loop-element.invariant.small (c.degree.ensures.small, tt));
    }
