use Rattle.std.proofs.Common.{◌≡◌, ◌*◌, ◌%◌, ◌<◌, ◌≤◌}
use Rattle.prime_field.proofs.Euclid.{IsCoprime}
use Rattle.prime_field.proofs.Field.inv.Given as goal

abbrev pub invariant-loop-rest : goal.invariant-loop-rest
invariant-loop-rest l = record {
  above_one : 1 < l.self;
  most : l.before ≤ l.self;
  positive : 0 < l.rest;
  below : l.rest < l.self;
  coprime : IsCoprime l.before l.rest;
  before_factor_in_range : l.before_factor < l.self;
  factor_in_range : l.factor < l.self;
  before_is : (l.a * l.before_factor) % l.self ≡ l.before % l.self;
  rest_is : (l.a * l.factor) % l.self ≡ l.rest % l.self;
}

abbrev pub decreases-loop-rest : goal.decreases-loop-rest
decreases-loop-rest l = l.rest
