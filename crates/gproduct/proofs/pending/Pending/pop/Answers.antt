use Rattle.std.proofs.Common.{◌≡◌, ℕ, ◌+◌, ◌-◌, ◌∙◌, ◌++◌, ◌∷◌, [], length, take, drop, sym, ap, arith}
use Rattle.std.proofs.lemmas.List.{take_rest, length-take-le}
use Rattle.gproduct.specs.Inside.Factors.{products_in, factor_count}
use Rattle.gproduct.proofs.Stacks.{factor_count-push, products_in-pop}
use Rattle.gproduct.proofs.pending.Pending.pop.Goals as goal
use Rattle.gproduct.proofs.pending.Pending.pop.Goals.{In-Some}

-- the last product's factors are counted with those before
counted : (c : In-Some) → factor_count c.pop.new.self.items + c.in-Some.last.factors ≡ length c.args.self.now.factors.items
counted c =
    sym (factor_count-push c.pop.new.self.items c.in-Some.last)
    ∙ ap factor_count (sym c.in-Some.ensures.items) ∙ c.requires

pub overflow_sub-start : goal.overflow_sub-start
overflow_sub-start c = omega (arith, counted (goal.at.overflow_sub-start c).In-Some, c.len.ensures)

pub returns-in_ok-extend_from_slice-in-Some-clause-counted :
    goal.returns-in_ok-extend_from_slice-in-Some-clause-counted
returns-in_ok-extend_from_slice-in-Some-clause-counted c =
    let fs = c.args.self.now.factors.items in
    let start : ℕ = c.len.result - c.in-Some.last.factors in
    let cut : c.truncate.new.self.items ≡ take start fs = c.truncate.ensures.items in
    let all : factor_count c.pop.new.self.items + c.in-Some.last.factors ≡ length fs =
    counted (goal.at.returns-in_ok-extend_from_slice-in-Some-clause-counted c).In-Some in
    let len : c.len.result ≡ length fs = omega (arith, c.len.ensures, c.args.self.now.factors.ok.0) in
    let left : length (take start fs) ≡ start = length-take-le start fs (omega arith) in
    omega (arith, ap length cut)

pub returns-in_ok-extend_from_slice-in-Some-clause-product :
    goal.returns-in_ok-extend_from_slice-in-Some-clause-product
returns-in_ok-extend_from_slice-in-Some-clause-product c =
    let fs = c.args.self.now.factors.items in
    let start : ℕ = c.len.result - c.in-Some.last.factors in
    let same : c.deref.result.now ≡ fs = c.deref.ensures.value in
    let cut : c.truncate.new.self.items ≡ take start fs = c.truncate.ensures.items in
    let taken : c.extend_from_slice.new.self.items ≡ drop start fs =
    c.in_ok-extend_from_slice-in-Some.ensures.items
    ∙ ap (λ fs. fs ++ take (length c.deref.result.now - start) (drop start c.deref.result.now)) c.clear.ensures.items
    ∙ take_rest c.deref.result.now start
    ∙ ap (drop start) same in
    let all : c.len.result ≡ length fs = omega (arith, c.len.ensures, c.args.self.now.factors.ok.0) in
    let len : start ≡ length fs - c.in-Some.last.factors = ap (λ n. n - c.in-Some.last.factors) all in
    ap (λ ts. products_in ts fs) c.in-Some.ensures.items
    ∙ products_in-pop c.pop.new.self.items fs c.in-Some.last start (ap factor_count (sym c.in-Some.ensures.items) ∙ c.requires) len
    ∙ (λ i. products_in c.pop.new.self.items (sym cut i) ++ (c.in-Some.last.coef, sym taken i) ∷ [])
