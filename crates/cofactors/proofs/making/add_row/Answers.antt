use Rattle.std.proofs.Common.{length}
use Rattle.cofactors.proofs.RowLaws.{rows_after-new}
use Rattle.cofactors.proofs.making.add_row.Goals as goal

pub returns-in_ok-push-in-New-clause-value : goal.returns-in_ok-push-in-New-clause-value
returns-in_ok-push-in-New-clause-value g c =
    rows_after-new c.args.seat.now.algebra c.start_row.new.seat.algebra (length c.args.gens.now) c.args.basis.now c.args.rows.now.items c.deref.result.now c.deref-in-New.result.now
    c.push.new.items.items c.in-New.job c.in-New.trace c.in-New.scale c.args.entry.now c.in_ok-start-in-New.start.items c.in_ok-row-in-New.row
    c.start_row.ensures.algebra c.deref.ensures.value c.deref-in-New.ensures.value c.in-New.is c.in_ok-start-in-New.ensures.value c.in_ok-row-in-New.ensures.value
    c.in_ok-push-in-New.ensures
