use Rattle.std.proofs.Common.{arith}
use Rattle.finish.proofs.Finishing.{length-select}
use Rattle.finish.proofs.selection.KeptElements.count.Goals as goal

pub returns : goal.returns
returns c =
    let k = c.args.self.now in
    omega (arith, c.len.ensures, length-select k.zero k.kept.items k.basis.now.items, k.basis.now.ok.0)
