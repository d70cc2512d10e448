use Rattle.std.proofs.Common.{◌≡◌, ◌∙◌, ◌/◌, ◌%◌, ℕ, suc, length, get_or, ap, arith, mod-lt}
use Rattle.prime_field.specs.Modular.{IsPrime}
use Rattle.closed_forms.specs.Binomials.{gaussian}
use Rattle.closed_forms.specs.Inside.Tables.{table}
use Rattle.closed_forms.proofs.Tables.{length-table, at_table, table_more}
use Rattle.word_model.proofs.Acceptance.{IsField-prime}
use Rattle.closed_forms.proofs.Digits.{quotient_within, digit_free, number_of_digit, entry_of_digits}
use Rattle.closed_forms.proofs.binomials.next_row.Goals as goal

pub digit_row-requires-clause-free : goal.digit_row-requires-clause-free
digit_row-requires-clause-free c = digit_free c.args.field c.args.q c.args.base c.args.n c.requires.base

pub bounds-high-k : goal.bounds-high-k
bounds-high-k c =
    omega (
      arith,
      ap length c.requires.high,
      length-table c.args.field (gaussian 1 (c.args.n / c.args.base)) (suc (c.args.top / c.args.base)),
      quotient_within c.loop-k.k c.args.top c.args.base c.requires.base.positive (omega arith),
    )

pub mul-requires-clause-a_in_range : goal.mul-requires-clause-a_in_range
mul-requires-clause-a_in_range c =
    let prime : IsPrime c.args.field = c.p-p.ensures.prime in
    let is : get_or c.args.high.now (c.loop-k.k / c.args.base) 0 ≡ gaussian 1 (c.args.n / c.args.base) (c.loop-k.k / c.args.base) % c.args.field =
    ap (λ xs. get_or xs (c.loop-k.k / c.args.base) 0) c.requires.high
    ∙ at_table c.args.field (gaussian 1 (c.args.n / c.args.base)) (suc (c.args.top / c.args.base)) (c.loop-k.k / c.args.base)
    (omega (arith, quotient_within c.loop-k.k c.args.top c.args.base c.requires.base.positive (omega arith))) in
    rw is (mod-lt (gaussian 1 (c.args.n / c.args.base) (c.loop-k.k / c.args.base)) (omega (arith, prime.above_one)))

pub mul-requires-clause-b_in_range : goal.mul-requires-clause-b_in_range
mul-requires-clause-b_in_range c =
    let prime : IsPrime c.args.field = c.p-p.ensures.prime in
    rw (number_of_digit c.args.field c.args.q c.args.base c.args.n c.args.top c.loop-k.k c.number_at-digit.result c.in_ok-low.low.items (omega (arith, prime.above_one)) c.in_ok-low.ensures (omega arith)
    (c.number_at-digit.ensures ∙ ap (λ xs. get_or xs (c.loop-k.k % c.args.base) 0) c.deref.ensures.value))
    (mod-lt (gaussian c.args.q (c.args.n % c.args.base) (c.loop-k.k % c.args.base)) (omega (arith, prime.above_one)))

pub loop-k-preserved : goal.loop-k-preserved
loop-k-preserved c =
    let p : ℕ = c.args.field in
    let q : ℕ = c.args.q in
    let m : ℕ = c.args.base in
    let n : ℕ = c.args.n in
    let k : ℕ = c.loop-k.k in
    let prime : IsPrime p = c.p-p.ensures.prime in
    let high : get_or c.args.high.now (k / m) 0 ≡ gaussian 1 (n / m) (k / m) % p =
    ap (λ xs. get_or xs (k / m) 0) c.requires.high
    ∙ at_table p (gaussian 1 (n / m)) (suc (c.args.top / m)) (k / m) (omega (arith, quotient_within k c.args.top m c.requires.base.positive (omega arith))) in
    let digit : c.number_at-digit.result ≡ gaussian q (n % m) (k % m) % p =
    number_of_digit p q m n c.args.top k c.number_at-digit.result c.in_ok-low.low.items (omega (arith, prime.above_one)) c.in_ok-low.ensures (omega arith)
    (c.number_at-digit.ensures ∙ ap (λ xs. get_or xs (k % m) 0) c.deref.ensures.value) in
    table_more p (gaussian q n) k c.mul.result c.loop-k.row.items c.push.new.self.items c.loop-k.invariant
    (c.mul.ensures.value ∙ entry_of_digits p q m n k _ _ (IsField-prime p prime) c.requires.base (omega arith) high digit)
    c.in_ok-push.ensures.items

pub returns : goal.returns
returns c =
    let all : c.loop-k.k ≡ suc c.args.top = omega arith in
    c.loop-k.invariant ∙ ap (table c.args.field (gaussian c.args.q c.args.n)) all
