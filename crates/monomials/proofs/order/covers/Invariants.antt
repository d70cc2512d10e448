use Rattle.std.proofs.Common.{◌↔◌, drop}
use Rattle.monomials.specs.Blocks.{Covers}
use Rattle.monomials.proofs.Covering.{CoversRest}
use Rattle.monomials.proofs.order.covers.Given as goal

abbrev pub invariant-loop-block : goal.invariant-loop-block
invariant-loop-block l = Covers l.n l.blocks ↔ CoversRest l.n l.front l.left (drop l.block-index l.blocks)
