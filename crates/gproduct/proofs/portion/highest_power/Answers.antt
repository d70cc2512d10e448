use Rattle.std.proofs.Common.{◌≡◌, length, sym, subst, arith}
use Rattle.gpoly.specs.declared.Term.{Term}
use Rattle.gpoly.proofs.TermLists.{vars_at}
use Rattle.gproduct.proofs.portion.highest_power.Goals as goal

pub get-requires-clause-last : goal.get-requires-clause-last
get-requires-clause-last c =
    let n = c.requires.last.0 in
    let vars : length c.term-item.result.mono ≡ n =
    subst (λ (t : Term). length t.mono ≡ n) (sym c.term-item.is)
    (vars_at n c.args.terms.now c.loop-term.term-index _ c.loop-term-test.true c.requires.last.1.1) in
    omega (arith, vars, c.requires.last.1.0)
