use Rattle.std.proofs.Common.{◌≡◌, length, ap, ◌∙◌, arith}
use Rattle.finish.proofs.Finishing.{kept_flags, select-kept}
use Rattle.finish.proofs.selection.Kept.of.Goals as goal

pub returns : goal.returns
returns c =
    let G = c.args.basis.now.items in
    let all : c.loop-place.place ≡ length G = omega (arith, c.args.basis.now.ok.0, c.len-place-end.ensures) in
    select-kept G c.zero.result c.loop-place.kept.items c.zero.ensures (c.loop-place.invariant ∙ ap (kept_flags G) all)
