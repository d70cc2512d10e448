use Rattle.monomials.specs.Blocks.{order_of}
use Rattle.monomials.specs.ExtraRows.{with_rows}
use Rattle.monomials.proofs.LexicographicOrders.{blocks_lexicographic, rows_lexicographic}
use Rattle.monomials.proofs.WellFoundedness.{lexicographic_well_founded}
use Rattle.monomials.proofs.laws.blocks_are_well_founded.Goals as goal

pub returns : goal.returns
returns c =
    λ n blocks extra covers weighted.
    lexicographic_well_founded (with_rows extra (order_of n blocks))
    (rows_lexicographic extra (order_of n blocks) (blocks_lexicographic n blocks weighted))
