use Rattle.std.proofs.Common.{◌∙◌, ◌^◌, ◌*◌, ◌/◌, sym, ap, arith, bit_and}
use Rattle.std.proofs.lemmas.Nat.{and_mask}
use Rattle.monomials.proofs.Lanes.{lane_is}
use Rattle.monomials.proofs.word.lane.Goals as goal

pub returns : goal.returns
returns c =
    ap (λ n. bit_and (c.args.x / 2 ^ (16 * n)) 65535) c.from.ensures
    ∙ (and_mask (c.args.x / 2 ^ (16 * c.args.place)) 16 ∙ sym (lane_is 4 c.args.x c.args.place (omega (arith, c.requires))))
