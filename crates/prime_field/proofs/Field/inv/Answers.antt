use Rattle.std.proofs.Common.{◌≡◌, ◌∙◌, ℕ, ◌*◌, ◌%◌, ◌<◌, ◌≢◌, arith, ap}
use Rattle.std.proofs.Math.Nat.{mod-lt, mod_self, mod-eq_of_lt}
use Rattle.prime_field.specs.Modular.{IsPrime}
use Rattle.prime_field.proofs.Euclid.{IsCoprime, coprime_to_prime, coprime_step, coprime_remains, factor_step}
use Rattle.prime_field.proofs.Inverses.{inverse_is}
use Rattle.prime_field.proofs.Field.inv.Goals as goal

pub loop-rest-init : goal.loop-rest-init
loop-rest-init c =
    let p : ℕ = c.args.self in
    let is : c.p-before.result ≡ p = c.p-before.ensures.value in
    let prime : IsPrime p = c.p-before.ensures.prime in
    let above : 1 < p = prime.above_one in
    let none : c.args.a * 0 ≡ 0 = omega arith in
    let one : c.args.a * 1 ≡ c.args.a = omega arith in
    record {
      above_one = above;
      most = omega arith;
      positive = omega arith;
      below = omega arith;
      coprime = rw is (coprime_to_prime p c.args.a prime (omega arith) (omega arith));
      before_factor_in_range = omega arith;
      factor_in_range = above;
      before_is = rw (none, is, mod_self) (omega arith);
      rest_is = ap (λ x. x % p) one;
    }

pub loop-rest-preserved : goal.loop-rest-preserved
loop-rest-preserved c =
    let p : ℕ = c.args.self in
    let before : ℕ = c.loop-rest.before in
    let rest : ℕ = c.loop-rest.rest in
    let coprime : IsCoprime before rest = c.loop-rest.invariant.coprime in
    let remains : before % rest ≢ 0 = coprime_remains before rest coprime (omega arith) in
    let low : before % rest < rest = mod-lt before c.loop-rest.invariant.positive in
    record {
      above_one = c.loop-rest.invariant.above_one;
      most = omega arith;
      positive = omega arith;
      below = omega arith;
      coprime = coprime_step before rest coprime;
      before_factor_in_range = c.loop-rest.invariant.factor_in_range;
      factor_in_range = c.sub-next.ensures.in_range;
      before_is = c.loop-rest.invariant.rest_is;
      rest_is = rw (c.sub-next.ensures.value, c.mul.ensures.value) (
          factor_step p c.args.a before rest c.loop-rest.before_factor c.loop-rest.factor (omega arith)
          c.loop-rest.invariant.before_is c.loop-rest.invariant.rest_is);
    }

pub returns-clause-value : goal.returns-clause-value
returns-clause-value c =
    let p : ℕ = c.args.self in
    let is : c.p-before.result ≡ p = c.p-before.ensures.value in
    let prime : IsPrime p = c.p-before.ensures.prime in
    let one : c.loop-rest.rest ≡ 1 = c.loop-rest-test.false in
    inverse_is p c.args.a c.loop-rest.factor prime (c.loop-rest.invariant.rest_is ∙ rw one (mod-eq_of_lt prime.above_one)) c.loop-rest.invariant.factor_in_range
