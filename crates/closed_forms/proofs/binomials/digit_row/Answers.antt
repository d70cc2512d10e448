use Rattle.std.proofs.Common.{◌≡◌, ◌∙◌, ◌∷◌, [], ◌++◌, ◌+◌, ◌-◌, ◌*◌, ◌%◌, ℕ, suc, length, sym, ap, arith, mod-lt, mod-eq_of_lt}
use Rattle.prime_field.specs.Modular.{IsPrime}
use Rattle.closed_forms.specs.Binomials.{q_number, gaussian}
use Rattle.closed_forms.specs.Inside.Tables.{table}
use Rattle.closed_forms.proofs.Tables.{length-table, from_table, table_more}
use Rattle.closed_forms.proofs.Lucas.{next_in_row}
use Rattle.closed_forms.proofs.binomials.digit_row.Goals as goal

pub loop-k-init : goal.loop-k-init
loop-k-init c =
    let prime : IsPrime c.args.field = c.p-p.ensures.prime in
    let one : 1 ≡ 1 % c.args.field = sym (mod-eq_of_lt prime.above_one) in
    record {
      done = table_more c.args.field (gaussian c.args.q c.args.n) 0 1 c.in_ok-row.row.items c.push.new.self.items c.in_ok-row.ensures.items one c.in_ok-push.ensures.items;
      last = one;
      in_range = prime.above_one;
    }

pub index-requires : goal.index-requires
index-requires c =
    omega (arith, c.in_ok-numbers.numbers.ok.0, ap length c.in_ok-numbers.ensures, length-table c.args.field (q_number c.args.q) (suc c.args.n))

pub index-requires-in-loop-k : goal.index-requires-in-loop-k
index-requires-in-loop-k c =
    omega (arith, c.min-top.ensures, c.in_ok-numbers.numbers.ok.0, ap length c.in_ok-numbers.ensures, length-table c.args.field (q_number c.args.q) (suc c.args.n))

pub inv-requires-clause-in_range : goal.inv-requires-clause-in_range
inv-requires-clause-in_range c =
    let prime : IsPrime c.args.field = c.p-p.ensures.prime in
    rw (from_table c.args.field (q_number c.args.q) (suc c.args.n) (c.loop-k.k + 1) c.index-in-loop-k.result.now c.in_ok-numbers.numbers.items c.in_ok-numbers.ensures (omega (arith, c.min-top.ensures)) c.index-in-loop-k.ensures)
    (mod-lt (q_number c.args.q (c.loop-k.k + 1)) (omega (arith, prime.above_one)))

pub inv-requires-clause-not_zero : goal.inv-requires-clause-not_zero
inv-requires-clause-not_zero c = λ zero.
    c.requires.free (c.loop-k.k + 1) (omega arith) (omega (arith, c.min-top.ensures))
    (sym (from_table c.args.field (q_number c.args.q) (suc c.args.n) (c.loop-k.k + 1) c.index-in-loop-k.result.now c.in_ok-numbers.numbers.items c.in_ok-numbers.ensures (omega (arith, c.min-top.ensures)) c.index-in-loop-k.ensures)
    ∙ zero)

pub mul-quotient-requires-clause-a_in_range : goal.mul-quotient-requires-clause-a_in_range
mul-quotient-requires-clause-a_in_range c =
    let prime : IsPrime c.args.field = c.p-p.ensures.prime in
    rw (from_table c.args.field (q_number c.args.q) (suc c.args.n) (c.args.n - c.loop-k.k) c.index.result.now c.in_ok-numbers.numbers.items c.in_ok-numbers.ensures (omega arith) c.index.ensures)
    (mod-lt (q_number c.args.q (c.args.n - c.loop-k.k)) (omega (arith, prime.above_one)))

pub loop-k-preserved : goal.loop-k-preserved
loop-k-preserved c =
    let p : ℕ = c.args.field in
    let q : ℕ = c.args.q in
    let n : ℕ = c.args.n in
    let k : ℕ = c.loop-k.k in
    let prime : IsPrime p = c.p-p.ensures.prime in
    let more : k + 1 ≡ suc k = omega arith in
    let upper : c.index.result.now ≡ q_number q (n - k) % p =
    from_table p (q_number q) (suc n) (n - k) c.index.result.now c.in_ok-numbers.numbers.items c.in_ok-numbers.ensures (omega arith) c.index.ensures in
    let lower : c.index-in-loop-k.result.now ≡ q_number q (k + 1) % p =
    from_table p (q_number q) (suc n) (k + 1) c.index-in-loop-k.result.now c.in_ok-numbers.numbers.items c.in_ok-numbers.ensures (omega (arith, c.min-top.ensures)) c.index-in-loop-k.ensures in
    let one : ((q_number q (suc k) % p) * c.inv.result) % p ≡ 1 % p =
    ap (λ r. ((q_number q r % p) * c.inv.result) % p) (sym more) ∙ ap (λ r. (r * c.inv.result) % p) (sym lower) ∙ c.inv.ensures.product ∙ sym (mod-eq_of_lt prime.above_one) in
    let entry : c.mul-entry.result ≡ gaussian q n (suc k) % p =
    c.mul-entry.ensures.value ∙ ap (λ r. (c.loop-k.entry * r) % p) (c.mul-quotient.ensures.value ∙ ap (λ r. (r * c.inv.result) % p) upper)
    ∙ next_in_row p q n k c.loop-k.entry c.inv.result c.loop-k.invariant.last one in
    let before : c.loop-k.row.items ≡ table p (gaussian q n) (k + 1) = c.loop-k.invariant.done ∙ ap (table p (gaussian q n)) (sym more) in
    let entry' : c.mul-entry.result ≡ gaussian q n (k + 1) % p = entry ∙ ap (λ r. gaussian q n r % p) (sym more) in
    record {
      done = c.in_ok-push-2.ensures.items ∙ (λ i. before i ++ (entry' i ∷ []));
      last = rw more entry;
      in_range = c.mul-entry.ensures.in_range;
    }
