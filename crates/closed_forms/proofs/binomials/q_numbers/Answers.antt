use Rattle.std.proofs.Common.{◌≡◌, ◌∙◌, suc, ap, arith, sym, mod-eq_of_lt}
use Rattle.prime_field.specs.Modular.{IsPrime}
use Rattle.closed_forms.specs.Binomials.{q_number}
use Rattle.closed_forms.specs.Inside.Tables.{table}
use Rattle.closed_forms.proofs.Tables.{table_more}
use Rattle.closed_forms.proofs.Residues.{next_q_number}
use Rattle.closed_forms.proofs.binomials.q_numbers.Goals as goal

pub loop-init : goal.loop-init
loop-init c =
    let prime : IsPrime c.args.field = c.p-p.ensures.prime in
    record {
      above_one = prime.above_one;
      done = c.in_ok-numbers.ensures.items;
      next = sym (mod-eq_of_lt (omega (arith, prime.above_one)));
      in_range = omega (arith, prime.above_one);
    }

pub mul-requires-clause-b_in_range : goal.mul-requires-clause-b_in_range
mul-requires-clause-b_in_range c = c.loop.invariant.in_range

pub loop-preserved : goal.loop-preserved
loop-preserved c = record {
  above_one = c.loop.invariant.above_one;
  done = table_more c.args.field (q_number c.args.q) c.loop.counter c.loop.number c.loop.numbers.items c.push.new.self.items
      c.loop.invariant.done c.loop.invariant.next c.in_ok-push.ensures.items;
  next = rw (c.add-number.ensures.value, c.mul.ensures.value) (next_q_number c.args.field c.args.q c.loop.number c.loop.counter c.loop.invariant.next);
  in_range = c.add-number.ensures.in_range;
}

pub returns : goal.returns
returns c =
    let all : c.loop.counter ≡ suc c.args.n = omega arith in
    c.loop.invariant.done ∙ ap (table c.args.field (q_number c.args.q)) all
