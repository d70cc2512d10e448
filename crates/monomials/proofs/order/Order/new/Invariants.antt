use Rattle.std.proofs.Common.{◌-◌, ◌≤◌, Bool, [], drop}
use Rattle.monomials.specs.Blocks.{blocks_rows}
use Rattle.monomials.proofs.Covering.{CoversRest}
use Rattle.monomials.proofs.AddedRows.{AddsUpTo}
use Rattle.monomials.proofs.order.Order.new.Given as goal

abbrev pub invariant-loop-block : goal.invariant-loop-block
invariant-loop-block l = record {
  inside : l.at ≤ l.n;
  left : (front : Bool) × CoversRest l.n front (l.n - l.at) (drop l.block-index l.blocks);
  rows : AddsUpTo l.n [] l.rows.items (blocks_rows l.n l.at (drop l.block-index l.blocks)) (blocks_rows l.n 0 l.blocks);
}
