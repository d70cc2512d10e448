use Rattle.std.proofs.Common.{◌≡◌, ◌*◌, ◌%◌, ◌^◌, ◌<◌}
use Rattle.prime_field.proofs.Field.pow.Given as goal

abbrev pub invariant-loop-rest : goal.invariant-loop-rest
invariant-loop-rest l = record {
  square_in_range : l.square < l.self;
  power_in_range : l.power < l.self;
  whole : (l.power * l.square ^ l.rest) % l.self ≡ l.a ^ l.exponent % l.self;
}

abbrev pub decreases-loop-rest : goal.decreases-loop-rest
decreases-loop-rest l = l.rest
