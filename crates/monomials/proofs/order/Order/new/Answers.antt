use Rattle.std.proofs.Common.{◌≡◌, ◌∙◌, ◌+◌, ◌-◌, ◌≤◌, ℕ, List, ◌&&◌, get_or, ap, arith, rules, subst}
use Rattle.monomials.specs.Blocks.{block_len, block_rows, is_extra, IsPart, Covers, AreWeighted}
use Rattle.monomials.specs.Rows.{AddsRows}
use Rattle.monomials.specs.declared.order.Block.{Block}
use Rattle.monomials.proofs.Covering.{covers_here, covers_next}
use Rattle.monomials.proofs.AddedRows.{adds_block, adds_blocks}
use Rattle.monomials.proofs.Separation.{blocks_separate}
use Rattle.monomials.proofs.LexicographicOrders.{blocks_lexicographic}
use Rattle.monomials.proofs.WholeWords.{dp_alone}
use Rattle.monomials.proofs.order.Order.new.Goals as goal

pub loop-block-preserved : goal.loop-block-preserved
loop-block-preserved c =
    let n : ℕ = c.args.n in
    let at : ℕ = c.loop-block.at in
    let len : ℕ = c.covered-at.result in
    let blocks : List Block = c.args.blocks.now in
    let i : ℕ = c.loop-block.block-index in
    let b : Block = c.block-item.result in
    let here : len ≡ block_len (get_or blocks i b) = c.covered-at.ensures ∙ ap block_len c.block-item.is in
    let left = c.loop-block.invariant.left in
    let f : IsPart n left.0 (get_or blocks i b) × (len ≤ n - at) =
    covers_here n (n - at) len left.0 blocks i b c.loop-block-test.true here left.1 in
    let e : n - at - len ≡ n - (at + len) = omega arith in
    let inside : at + len ≤ n = omega (arith, f.1, c.loop-block.invariant.inside) in
    let added : AddsRows n _ _ (block_rows n at b) = c.in_ok-push_rows.ensures in
    record {
      inside = inside;
      left = (
        left.0 && is_extra (get_or blocks i b),
        rw e at ((covers_next n (n - at) len left.0 blocks i b c.loop-block-test.true here f.0 f.1).0 left.1),
      );
      rows =
          adds_block n at len blocks i b c.loop-block-test.true here _ _ _ c.loop-block.invariant.rows
          (subst (λ (block : Block). AddsRows n c.loop-block.rows.items c.push_rows.new.rows.items (block_rows n at block)) c.block-item.is added);
    }

pub invariant_of-result : goal.invariant_of-result
invariant_of-result c =
    let n : ℕ = c.args.n in
    let blocks : List Block = c.args.blocks.now in
    let done = adds_blocks n c.loop-block.at blocks c.loop-block.block-index c.loop-block-test.false _ _ c.loop-block.invariant.rows in
    let covered : Covers n blocks = c.covers.ensures.0 (search rules) in
    let weighted : AreWeighted blocks = c.are_weighted.ensures.0 (search rules) in
    record {
      not_empty = c.requires.not_empty;
      fits = c.requires.fits;
      within = done.1;
      separates = rw done.0 (blocks_separate n blocks covered weighted);
      lexicographic = rw done.0 (blocks_lexicographic n blocks weighted);
      graded = λ t. let dp = c.is_graded.ensures t in done.0 ∙ dp_alone n blocks dp.0 dp.1 covered;
    }
