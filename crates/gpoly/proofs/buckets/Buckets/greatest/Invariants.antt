use Rattle.std.proofs.Common.{◌≡◌, ◌≤◌, drop, length, None, MatchOption}
use Rattle.monomials.specs.Monomials.{degree}
use Rattle.monomials.specs.Orders.{order_cmp}
use Rattle.gpoly.specs.Inside.Leads.{greatest_lead}
use Rattle.gpoly.proofs.buckets.Buckets.greatest.Given as goal

abbrev pub invariant-loop-bucket : goal.invariant-loop-bucket
invariant-loop-bucket l = record {
  value :
      greatest_lead (order_cmp l.order.rows) l.greatest (drop l.bucket-index l.bucket-items)
      ≡ greatest_lead (order_cmp l.order.rows) None l.self;
  vars : MatchOption l.greatest (Unit {0}) (λ m. length m ≡ l.order.vars);
  small : MatchOption l.greatest (Unit {0}) (λ m. degree m ≤ 4095);
}
