use Rattle.std.proofs.Common.{◌≡◌, ◌∙◌, ◌%◌, ◌^◌, ◌<◌, ℕ, suc, length, get_or, sym, ap, arith, mod-lt, mod-eq_of_lt}
use Rattle.std.proofs.Math.Nat.{pow-zero}
use Rattle.prime_field.specs.Modular.{IsPrime}
use Rattle.closed_forms.specs.Binomials.{gaussian}
use Rattle.closed_forms.specs.Inside.Tables.{table}
use Rattle.closed_forms.specs.Forms.{binomial_number}
use Rattle.closed_forms.proofs.Tables.{length-table, at_table, table_more}
use Rattle.closed_forms.proofs.Numbers.{binomial_entry, next_power}
use Rattle.closed_forms.proofs.terms.binomial_numbers.Goals as goal

pub loop-binomial-init : goal.loop-binomial-init
loop-binomial-init c =
    let prime : IsPrime c.args.field = c.p-p.ensures.prime in
    let one : 1 ≡ c.args.shift ^ 0 % c.args.field = sym (ap (λ x. x % c.args.field) (pow-zero c.args.shift) ∙ mod-eq_of_lt prime.above_one) in
    record { done = c.in_ok-numbers.ensures.items; next = one; in_range = prime.above_one }

pub mul-requires-clause-a_in_range : goal.mul-requires-clause-a_in_range
mul-requires-clause-a_in_range c =
    let prime : IsPrime c.args.field = c.p-p.ensures.prime in
    let whole : c.deref-binomial-items.result.now ≡ table c.args.field (gaussian 1 c.from-top.result) (suc c.from-top.result) = c.deref-binomial-items.ensures.value ∙ c.in_ok-row.ensures in
    let within : c.loop-binomial.binomial-index < suc c.from-top.result =
    omega (arith, c.loop-binomial-test.true, ap length whole, length-table c.args.field (gaussian 1 c.from-top.result) (suc c.from-top.result)) in
    let is : get_or c.deref-binomial-items.result.now c.loop-binomial.binomial-index 0 ≡ gaussian 1 c.from-top.result c.loop-binomial.binomial-index % c.args.field =
    ap (λ xs. get_or xs c.loop-binomial.binomial-index 0) whole ∙ at_table c.args.field (gaussian 1 c.from-top.result) (suc c.from-top.result) c.loop-binomial.binomial-index within in
    rw is (mod-lt (gaussian 1 c.from-top.result c.loop-binomial.binomial-index) (omega (arith, prime.above_one)))

pub loop-binomial-preserved : goal.loop-binomial-preserved
loop-binomial-preserved c =
    let p : ℕ = c.args.field in
    let k : ℕ = c.loop-binomial.binomial-index in
    let whole : c.deref-binomial-items.result.now ≡ table p (gaussian 1 c.args.n) (suc c.args.n) =
    c.deref-binomial-items.ensures.value ∙ c.in_ok-row.ensures ∙ ap (λ n. table p (gaussian 1 n) (suc n)) c.from-top.ensures in
    let within : k < suc c.args.n = omega (arith, c.loop-binomial-test.true, ap length whole, length-table p (gaussian 1 c.args.n) (suc c.args.n)) in
    let is : get_or c.deref-binomial-items.result.now k 0 ≡ gaussian 1 c.args.n k % p =
    ap (λ xs. get_or xs k 0) whole ∙ at_table p (gaussian 1 c.args.n) (suc c.args.n) k within in
    record {
      done = table_more p (binomial_number c.args.shift c.args.n) k c.mul.result c.loop-binomial.numbers.items c.push.new.self.items c.loop-binomial.invariant.done
          (c.mul.ensures.value ∙ binomial_entry p c.args.shift c.args.n k _ c.loop-binomial.power is c.loop-binomial.invariant.next)
          c.in_ok-push.ensures.items;
      next = c.mul-power.ensures.value ∙ next_power p c.args.shift k c.loop-binomial.power c.loop-binomial.invariant.next;
      in_range = c.mul-power.ensures.in_range;
    }

pub returns : goal.returns
returns c =
    let whole : c.deref-binomial-items.result.now ≡ table c.args.field (gaussian 1 c.args.n) (suc c.args.n) =
    c.deref-binomial-items.ensures.value ∙ c.in_ok-row.ensures ∙ ap (λ n. table c.args.field (gaussian 1 n) (suc n)) c.from-top.ensures in
    let all : c.loop-binomial.binomial-index ≡ suc c.args.n =
    omega (arith, c.loop-binomial-test.false, c.loop-binomial.auto.binomial-index-end, ap length whole, length-table c.args.field (gaussian 1 c.args.n) (suc c.args.n)) in
    c.loop-binomial.invariant.done ∙ ap (table c.args.field (binomial_number c.args.shift c.args.n)) all
