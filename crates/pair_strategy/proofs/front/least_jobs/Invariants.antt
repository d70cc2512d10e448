use Rattle.std.proofs.Common.{◌-◌, ◌≤◌, length, reverse}
use Rattle.monomials.specs.Polynomials.{Each}
use Rattle.pair_strategy.specs.Inside.Fronts.{items_of, IsCandidate}
use Rattle.pair_strategy.proofs.Fronts.{IsWalk}
use Rattle.pair_strategy.proofs.front.least_jobs.Given as goal

abbrev pub invariant-loop-front : goal.invariant-loop-front
invariant-loop-front l = record {
  few : length l.jobs.items ≤ l.k;
  candidates : Each (IsCandidate l.order l.items.items) l.front.items;
  walk : IsWalk l.order l.items.items l.jobs.items (reverse (items_of l.front.items));
}

abbrev pub decreases-loop-front : goal.decreases-loop-front
decreases-loop-front l = l.k - length l.jobs.items
