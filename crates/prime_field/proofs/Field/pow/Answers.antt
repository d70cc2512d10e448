use Rattle.std.proofs.Common.{◌≡◌, ◌*◌, ◌%◌, ◌^◌, ◌∙◌, ℕ, sym, ap, arith}
use Rattle.std.proofs.Math.Nat.{pow-zero, mod-eq_of_lt}
use Rattle.prime_field.specs.Modular.{IsPrime}
use Rattle.prime_field.proofs.Powers.{even_step, odd_step}
use Rattle.prime_field.proofs.Field.pow.Goals as goal
use Rattle.prime_field.proofs.Field.pow.Goals.{then-rest-eq1, else-rest-eq1}

pub loop-rest-init : goal.loop-rest-init
loop-rest-init c =
    let prime : IsPrime c.args.self = c.p-p.ensures.prime in
    record { square_in_range = c.requires; power_in_range = prime.above_one; whole = ap (λ x. x % c.args.self) (omega arith) }

pub loop-rest-preserved : goal.loop-rest-preserved
loop-rest-preserved c =
    let p : ℕ = c.args.self in
    let r : ℕ = c.loop-rest.power in
    let s : ℕ = c.loop-rest.square in
    let k : ℕ = c.loop-rest.rest in
    elim c.if-rest-eq1.branch [
      | then-rest-eq1 w ↦
          let r_is : c.if-rest-eq1.power ≡ (r * s) % p = w.power-is ∙ w.mul-power.ensures.value in
          record {
            square_in_range = c.mul-square.ensures.in_range;
            power_in_range = rw w.power-is w.mul-power.ensures.in_range;
            whole = rw (r_is, c.mul-square.ensures.value) (odd_step p r s k (c.args.a ^ c.args.exponent) w.if-rest-eq1.true c.loop-rest.invariant.whole);
          }
      | else-rest-eq1 w ↦
          record {
            square_in_range = c.mul-square.ensures.in_range;
            power_in_range = rw w.power-is c.loop-rest.invariant.power_in_range;
            whole = rw (w.power-is, c.mul-square.ensures.value) (even_step p r s k (c.args.a ^ c.args.exponent) (omega (arith, w.if-rest-eq1.false)) c.loop-rest.invariant.whole);
          }
    ]

pub returns-clause-value : goal.returns-clause-value
returns-clause-value c =
    let none : c.loop-rest.rest ≡ 0 = omega arith in
    let one : c.loop-rest.power * c.loop-rest.square ^ c.loop-rest.rest ≡ c.loop-rest.power = rw (none, pow-zero c.loop-rest.square) (omega arith) in
    sym (mod-eq_of_lt c.loop-rest.invariant.power_in_range) ∙ ap (λ x. x % c.args.self) (sym one) ∙ c.loop-rest.invariant.whole
