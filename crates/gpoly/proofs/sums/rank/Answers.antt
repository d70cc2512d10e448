use Rattle.std.proofs.Common.{rules, length, sym, ◌≡◌, ◌≢◌, nat_cmp}
use Rattle.gpoly.proofs.Sorting.{rank_cmp-other}
use Rattle.gpoly.proofs.sums.rank.Goals as goal

pub returns-in_default : goal.returns-in_default
returns-in_default c =
    let answer : c.cmp.result ≡ nat_cmp (length c.args.a.now) (length c.args.b.now) = search rules in
    let other : length c.args.a.now ≢ c.args.order.now.vars = search rules in
    sym (rank_cmp-other c.args.order.now c.args.a.now c.args.b.now c.cmp.result answer (λ e. other))
