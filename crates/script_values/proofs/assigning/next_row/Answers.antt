use Rattle.std.proofs.Common.{List, [], reverse, ◌∙◌}
use Rattle.monomials.specs.Polynomials.{Polynomial}
use Rattle.script_values.proofs.Lists.{filled_more, drop_one}
use Rattle.script_values.proofs.assigning.next_row.Goals as goal

pub loop-column-preserved : goal.loop-column-preserved
loop-column-preserved c =
    let fs = reverse c.args.left.now in
    record {
      entries = ◌∙◌ {A = List Polynomial} c.in_ok-push.ensures.items
          (filled_more fs (reverse c.loop-column.left) c.loop-column._column c.args.columns [] c.next_entry.result c.loop-column.entries.items
          c.loop-column-test.true c.loop-column.invariant.left c.next_entry.ensures.entry c.loop-column.invariant.entries);
      left = drop_one fs (reverse c.loop-column.left) (reverse c.next_entry.new.left) c.loop-column._column c.loop-column.invariant.left c.next_entry.ensures.left;
    }
