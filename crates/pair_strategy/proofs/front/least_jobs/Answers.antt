use Rattle.std.proofs.Common.{◌≡◌, [], ◌∷◌, length, reverse, sym, ap, subst, arith}
use Rattle.monomials.specs.Polynomials.{Each}
use Rattle.monomials.proofs.Keys.{Each-second}
use Rattle.pair_strategy.specs.Inside.Fronts.{items_of, IsCandidate, IsEntered}
use Rattle.pair_strategy.proofs.Fronts.{IsWalk, last-first, none-left, walk-begins, walk-opens, walk-steps, walk-over}
use Rattle.pair_strategy.proofs.front.least_jobs.Goals as goal

pub loop-front-init : goal.loop-front-init
loop-front-init c =
    let o = c.args.order.now in
    let v = c.args.items.now.items in
    let more = reverse (items_of c.enter.new.front.items) in
    let entered : IsEntered o v 0 [] more = subst (λ list. IsEntered o v 0 (reverse (items_of list)) more) c.new-front.ensures.items c.in_ok-enter.ensures.entered in
    record {
      few = omega (arith, ap length c.new-jobs.ensures.items);
      candidates = c.in_ok-enter.ensures.candidates;
      walk = subst (λ jobs. IsWalk o v jobs more) (sym c.new-jobs.ensures.items) (walk-begins o v c.requires.tree c.requires.set more entered);
    }

pub returns-in_default : goal.returns-in_default
returns-in_default c =
    let front = c.loop-front.front.items in
    let none : length front ≡ 0 = omega (arith, c.loop-front.front.ok.0, c.in_default.ensures.cases.0) in
    walk-over c.args.order.now c.args.items.now.items c.requires.tree c.requires.set c.loop-front.jobs.items (reverse (items_of front)) c.args.k c.loop-front.invariant.walk
    (ap (λ list. reverse (items_of list)) (none-left front none)) c.loop-front.invariant.few

pub enter_below-requires-clause-place : goal.enter_below-requires-clause-place
enter_below-requires-clause-place c =
    let P = IsCandidate c.args.order.now c.args.items.now.items in
    (Each-second P c.pop.new.self.items (c.in-Some.least ∷ []) (subst (Each P) c.in-Some.ensures.items c.loop-front.invariant.candidates)).0.0

pub enter_below-requires-clause-rising : goal.enter_below-requires-clause-rising
enter_below-requires-clause-rising c = λ half entered.
    let o = c.args.order.now in
    let v = c.args.items.now.items in
    let front = c.loop-front.front.items in
    let rest = c.pop.new.self.items in
    let least = c.in-Some.least in
    let here = (Each-second (IsCandidate o v) rest (least ∷ []) (subst (Each (IsCandidate o v)) c.in-Some.ensures.items c.loop-front.invariant.candidates)).0 in
    walk-opens o v c.requires.tree c.requires.set c.loop-front.jobs.items (reverse (items_of front)) least.item (reverse (items_of rest)) half least.place
    c.loop-front.invariant.walk (last-first front rest least c.in-Some.ensures.items) here.0 here.1 entered

pub loop-front-preserved : goal.loop-front-preserved
loop-front-preserved c =
    let o = c.args.order.now in
    let v = c.args.items.now.items in
    let front = c.loop-front.front.items in
    let rest = c.pop.new.self.items in
    let more = reverse (items_of c.enter_below.new.front.items) in
    let least = c.in-Some.least in
    let here = (Each-second (IsCandidate o v) rest (least ∷ []) (subst (Each (IsCandidate o v)) c.in-Some.ensures.items c.loop-front.invariant.candidates)).0 in
    let next =
    walk-steps o v c.requires.tree c.requires.set c.loop-front.jobs.items (reverse (items_of front)) least.item (reverse (items_of rest)) more least.place
    c.loop-front.invariant.walk (last-first front rest least c.in-Some.ensures.items) here.0 here.1 c.in_ok-enter_below.ensures.opened in
    record {
      few = omega (arith, c.in_ok-push.ensures.len, c.loop-front-test.true, c.len.ensures, c.push.new.self.ok.0, c.loop-front.jobs.ok.0);
      candidates = c.in_ok-enter_below.ensures.candidates;
      walk = subst (λ jobs. IsWalk o v jobs more) (sym c.in_ok-push.ensures.items) next;
    }
