use Rattle.std.proofs.Common.{◌≡◌, ◌∙◌, ◌*◌, ◌/◌, ℕ, suc, sym, ap, subst, arith}
use Rattle.std.proofs.Math.Nat.{div-one, div-le_self}
use Rattle.prime_field.specs.Modular.{IsPrime}
use Rattle.closed_forms.specs.Binomials.{gaussian}
use Rattle.closed_forms.specs.Inside.Tables.{table, IsBase}
use Rattle.closed_forms.proofs.Digits.{IsPower, power_more, power_less, power_positive, power_quotient, plain_base, row_of_none, quotient_within}
use Rattle.closed_forms.proofs.binomials.binomial_row.Goals as goal

pub loop-scale-preserved : goal.loop-scale-preserved
loop-scale-preserved c =
    let prime : IsPrime c.args.field = c.p-p.ensures.prime in
    let power : IsPower c.p-p.result (c.loop-scale.scale * c.p-p.result) = power_more c.p-p.result c.loop-scale.scale c.loop-scale.invariant.power in
    record {
      positive = power_positive c.p-p.result (c.loop-scale.scale * c.p-p.result) (omega (arith, c.p-p.ensures.value, prime.above_one)) power;
      power = power;
    }

pub loop-scale-2-init : goal.loop-scale-2-init
loop-scale-2-init c =
    let prime : IsPrime c.args.field = c.p-p.ensures.prime in
    record {
      positive = c.loop-scale.invariant.positive;
      power = c.loop-scale.invariant.power;
      done = row_of_none c.args.field c.args.n c.args.top c.loop-scale.scale c.in_ok-row.row.items prime.above_one (omega arith) c.requires.within c.in_ok-row.ensures.items;
    }

pub nonzero_div-n : goal.nonzero_div-n
nonzero_div-n c =
    let prime : IsPrime c.args.field = c.p-p.ensures.prime in
    let less : IsPower c.p-p.result (c.loop-scale-2.scale / c.p-p.result) × (c.loop-scale-2.scale / c.p-p.result * c.p-p.result ≡ c.loop-scale-2.scale) =
    power_less c.p-p.result c.loop-scale-2.scale (omega (arith, c.p-p.ensures.value, prime.above_one)) c.loop-scale-2-test.true c.loop-scale-2.invariant.power in
    power_positive c.p-p.result (c.loop-scale-2.scale / c.p-p.result) (omega (arith, c.p-p.ensures.value, prime.above_one)) less.0

pub nonzero_div-top : goal.nonzero_div-top
nonzero_div-top c =
    let prime : IsPrime c.args.field = c.p-p.ensures.prime in
    let less : IsPower c.p-p.result (c.loop-scale-2.scale / c.p-p.result) × (c.loop-scale-2.scale / c.p-p.result * c.p-p.result ≡ c.loop-scale-2.scale) =
    power_less c.p-p.result c.loop-scale-2.scale (omega (arith, c.p-p.ensures.value, prime.above_one)) c.loop-scale-2-test.true c.loop-scale-2.invariant.power in
    power_positive c.p-p.result (c.loop-scale-2.scale / c.p-p.result) (omega (arith, c.p-p.ensures.value, prime.above_one)) less.0

pub next_row-requires-clause-reach : goal.next_row-requires-clause-reach
next_row-requires-clause-reach c = omega (arith, c.requires.reach, div-le_self c.args.n (c.loop-scale-2.scale / c.p-p.result))

pub next_row-requires-clause-within : goal.next_row-requires-clause-within
next_row-requires-clause-within c =
    let prime : IsPrime c.args.field = c.p-p.ensures.prime in
    let less : IsPower c.p-p.result (c.loop-scale-2.scale / c.p-p.result) × (c.loop-scale-2.scale / c.p-p.result * c.p-p.result ≡ c.loop-scale-2.scale) =
    power_less c.p-p.result c.loop-scale-2.scale (omega (arith, c.p-p.ensures.value, prime.above_one)) c.loop-scale-2-test.true c.loop-scale-2.invariant.power in
    quotient_within c.args.top c.args.n (c.loop-scale-2.scale / c.p-p.result)
    (power_positive c.p-p.result (c.loop-scale-2.scale / c.p-p.result) (omega (arith, c.p-p.ensures.value, prime.above_one)) less.0)
    c.requires.within

pub next_row-requires-clause-base : goal.next_row-requires-clause-base
next_row-requires-clause-base c =
    let prime : IsPrime c.args.field = c.p-p.ensures.prime in
    let n : ℕ = c.args.n / (c.loop-scale-2.scale / c.p-p.result) in
    subst (λ m. IsBase c.args.field 1 m n) (sym c.p-p.ensures.value) (plain_base c.args.field n prime.above_one)

pub next_row-requires-clause-high : goal.next_row-requires-clause-high
next_row-requires-clause-high c =
    let prime : IsPrime c.args.field = c.p-p.ensures.prime in
    let less : IsPower c.p-p.result (c.loop-scale-2.scale / c.p-p.result) × (c.loop-scale-2.scale / c.p-p.result * c.p-p.result ≡ c.loop-scale-2.scale) =
    power_less c.p-p.result c.loop-scale-2.scale (omega (arith, c.p-p.ensures.value, prime.above_one)) c.loop-scale-2-test.true c.loop-scale-2.invariant.power in
    let n_is : c.args.n / (c.loop-scale-2.scale / c.p-p.result) / c.p-p.result ≡ c.args.n / c.loop-scale-2.scale = power_quotient c.p-p.result c.loop-scale-2.scale c.args.n less.1 in
    let top_is : c.args.top / (c.loop-scale-2.scale / c.p-p.result) / c.p-p.result ≡ c.args.top / c.loop-scale-2.scale = power_quotient c.p-p.result c.loop-scale-2.scale c.args.top less.1 in
    c.deref.ensures.value ∙ c.loop-scale-2.invariant.done ∙ (λ i. table c.args.field (gaussian 1 (sym n_is i)) (suc (sym top_is i)))

pub loop-scale-2-preserved : goal.loop-scale-2-preserved
loop-scale-2-preserved c =
    let prime : IsPrime c.args.field = c.p-p.ensures.prime in
    let less : IsPower c.p-p.result (c.loop-scale-2.scale / c.p-p.result) × (c.loop-scale-2.scale / c.p-p.result * c.p-p.result ≡ c.loop-scale-2.scale) =
    power_less c.p-p.result c.loop-scale-2.scale (omega (arith, c.p-p.ensures.value, prime.above_one)) c.loop-scale-2-test.true c.loop-scale-2.invariant.power in
    record {
      positive = power_positive c.p-p.result (c.loop-scale-2.scale / c.p-p.result) (omega (arith, c.p-p.ensures.value, prime.above_one)) less.0;
      power = less.0;
      done = c.in_ok-row-2.ensures;
    }

pub returns : goal.returns
returns c =
    let one : c.loop-scale-2.scale ≡ 1 = omega (arith, c.loop-scale-2.invariant.positive) in
    let n_is : c.args.n / c.loop-scale-2.scale ≡ c.args.n = ap (λ s. c.args.n / s) one ∙ div-one c.args.n in
    let top_is : c.args.top / c.loop-scale-2.scale ≡ c.args.top = ap (λ s. c.args.top / s) one ∙ div-one c.args.top in
    c.loop-scale-2.invariant.done ∙ (λ i. table c.args.field (gaussian 1 (n_is i)) (suc (top_is i)))
