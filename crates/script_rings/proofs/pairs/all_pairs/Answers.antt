use Rattle.std.proofs.Common.{◌≡◌, suc, ◌+◌, ◌-◌, ◌*◌, ◌++◌, ◌∙◌, length, sym, subst, ap, arith, append_assoc, append-nil}
use Rattle.monomials.specs.Polynomials.{Each}
use Rattle.script_model.specs.Statements as spec
use Rattle.script_rings.specs.Entries.{IsPair}
use Rattle.script_rings.proofs.PairLists.{rows-next, are_pairs, pairs-count}
use Rattle.script_rings.proofs.pairs.all_pairs.Goals as goal

pub loop-i-preserved : goal.loop-i-preserved
loop-i-preserved c =
    let i = c.loop-i.i in
    let rest = spec.pairs_from (i + 1) (c.args.n + 1 - (i + 1)) in
    ap (λ ps. ps ++ rest) c.in_ok-push_row.ensures ∙ append_assoc c.loop-i.pairs.items (spec.pairs_row i (suc i) (c.args.n - i)) rest
    ∙ ap (λ ps. c.loop-i.pairs.items ++ ps) (sym (rows-next c.args.n i c.loop-i-test.true)) ∙ c.loop-i.invariant

pub returns-clause-pairs : goal.returns-clause-pairs
returns-clause-pairs c =
    let none : c.args.n + 1 - c.loop-i.i ≡ 0 = omega (arith, c.loop-i-test.false) in
    let whole : c.loop-i.pairs.items ≡ spec.all_pairs c.args.n =
    sym (append-nil c.loop-i.pairs.items) ∙ ap (λ k. c.loop-i.pairs.items ++ spec.pairs_from c.loop-i.i k) (sym none) ∙ c.loop-i.invariant in
    subst (Each IsPair) (sym whole) (are_pairs c.args.n)

pub returns-clause-count : goal.returns-clause-count
returns-clause-count c =
    let none : c.args.n + 1 - c.loop-i.i ≡ 0 = omega (arith, c.loop-i-test.false) in
    let whole : c.loop-i.pairs.items ≡ spec.all_pairs c.args.n =
    sym (append-nil c.loop-i.pairs.items) ∙ ap (λ k. c.loop-i.pairs.items ++ spec.pairs_from c.loop-i.i k) (sym none) ∙ c.loop-i.invariant in
    ap (λ ps. 2 * length ps) whole ∙ pairs-count c.args.n
