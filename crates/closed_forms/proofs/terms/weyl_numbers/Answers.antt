use Rattle.std.proofs.Common.{◌≡◌, ◌∙◌, ◌-◌, ◌*◌, ◌%◌, ◌^◌, min, ℕ, suc, length, sym, ap, arith, mod-lt, mod-eq_of_lt}
use Rattle.std.proofs.Math.Nat.{pow-zero}
use Rattle.prime_field.specs.Modular.{IsPrime}
use Rattle.closed_forms.specs.Binomials.{q_number, gaussian}
use Rattle.closed_forms.specs.Inside.Tables.{table}
use Rattle.closed_forms.specs.Forms.{weyl_number}
use Rattle.closed_forms.proofs.Tables.{length-table, from_table, table_more}
use Rattle.closed_forms.proofs.Numbers.{falling_factor}
use Rattle.closed_forms.proofs.WeylNumbers.{weyl_entry}
use Rattle.closed_forms.proofs.terms.weyl_numbers.Goals as goal

pub loop-k-init : goal.loop-k-init
loop-k-init c =
    let prime : IsPrime c.args.field = c.p-p.ensures.prime in
    let one : 1 ≡ (c.args.delta ^ 0 * 1) % c.args.field = sym (ap (λ x. (x * 1) % c.args.field) (pow-zero c.args.delta) ∙ mod-eq_of_lt prime.above_one) in
    record { done = c.in_ok-numbers.ensures.items; next = one; in_range = prime.above_one }

pub index-requires : goal.index-requires
index-requires c =
    omega (arith, c.from-in-loop-k-3.ensures, c.in_ok-row.row.ok.0, ap length c.in_ok-row.ensures, c.from-2.ensures, length-table c.args.field (gaussian c.args.q c.from.result) (suc c.from-2.result))

pub mul-requires-clause-b_in_range : goal.mul-requires-clause-b_in_range
mul-requires-clause-b_in_range c =
    let prime : IsPrime c.args.field = c.p-p.ensures.prime in
    rw (from_table c.args.field (gaussian c.args.q c.from.result) (suc c.from-2.result) c.from-in-loop-k-3.result c.index.result.now c.in_ok-row.row.items c.in_ok-row.ensures
    (omega (arith, c.from-in-loop-k-3.ensures, c.from-2.ensures)) c.index.ensures)
    (mod-lt (gaussian c.args.q c.from.result c.from-in-loop-k-3.result) (omega (arith, prime.above_one)))

pub index-requires-in-loop-k : goal.index-requires-in-loop-k
index-requires-in-loop-k c =
    omega (arith, c.from-in-loop-k-4.ensures, c.in_ok-q_numbers.q_numbers.ok.0, ap length c.in_ok-q_numbers.ensures, c.from-3.ensures, length-table c.args.field (q_number c.args.q) (suc c.from-3.result))

pub mul-requires-in-loop-k-clause-b_in_range : goal.mul-requires-in-loop-k-clause-b_in_range
mul-requires-in-loop-k-clause-b_in_range c =
    let prime : IsPrime c.args.field = c.p-p.ensures.prime in
    rw (from_table c.args.field (q_number c.args.q) (suc c.from-3.result) c.from-in-loop-k-4.result c.index-in-loop-k.result.now c.in_ok-q_numbers.q_numbers.items c.in_ok-q_numbers.ensures
    (omega (arith, c.from-in-loop-k-4.ensures, c.from-3.ensures)) c.index-in-loop-k.ensures)
    (mod-lt (q_number c.args.q c.from-in-loop-k-4.result) (omega (arith, prime.above_one)))

pub loop-k-preserved : goal.loop-k-preserved
loop-k-preserved c =
    let p : ℕ = c.args.field in
    let q : ℕ = c.args.q in
    let a : ℕ = c.args.a in
    let b : ℕ = c.args.b in
    let k : ℕ = c.loop-k.k in
    let binomial : c.index.result.now ≡ gaussian q b k % p =
    from_table p (gaussian q c.from.result) (suc c.from-2.result) c.from-in-loop-k-3.result c.index.result.now c.in_ok-row.row.items c.in_ok-row.ensures
    (omega (arith, c.from-in-loop-k-3.ensures, c.from-2.ensures)) c.index.ensures
    ∙ (λ i. gaussian q (c.from.ensures i) (c.from-in-loop-k-3.ensures i) % p) in
    let last : c.index-in-loop-k.result.now ≡ q_number q (a - k) % p =
    from_table p (q_number q) (suc c.from-3.result) c.from-in-loop-k-4.result c.index-in-loop-k.result.now c.in_ok-q_numbers.q_numbers.items c.in_ok-q_numbers.ensures
    (omega (arith, c.from-in-loop-k-4.ensures, c.from-3.ensures)) c.index-in-loop-k.ensures
    ∙ ap (λ r. q_number q r % p) c.from-in-loop-k-4.ensures in
    let power : c.pow-power.result ≡ q ^ ((a - k) * (b - k)) % p =
    c.pow-power.ensures.value ∙ (λ i. q ^ (c.from-in-loop-k.ensures i * c.from-in-loop-k-2.ensures i) % p) in
    record {
      done = table_more p (weyl_number q c.args.delta a b) k c.mul-number.result c.loop-k.numbers.items c.push.new.self.items c.loop-k.invariant.done
          (c.mul-number.ensures.value ∙ ap (λ r. (c.loop-k.factor * r) % p) c.mul.ensures.value
          ∙ weyl_entry p q c.args.delta a b k c.loop-k.factor c.pow-power.result c.index.result.now c.loop-k.invariant.next power binomial)
          c.in_ok-push.ensures.items;
      next = c.mul-factor.ensures.value ∙ ap (λ r. (c.loop-k.factor * r) % p) c.mul-in-loop-k.ensures.value
          ∙ falling_factor p q c.args.delta a k c.loop-k.factor c.index-in-loop-k.result.now c.loop-k.invariant.next last;
      in_range = c.mul-factor.ensures.in_range;
    }

pub returns : goal.returns
returns c =
    let all : c.loop-k.k ≡ suc (min c.args.a c.args.b) = omega (arith, c.min-top.ensures) in
    c.loop-k.invariant.done ∙ ap (table c.args.field (weyl_number c.args.q c.args.delta c.args.a c.args.b)) all
