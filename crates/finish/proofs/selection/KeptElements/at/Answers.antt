use Rattle.std.proofs.Common.{◌-◌, ◌<◌, [], length, ◌∙◌, arith}
use Rattle.std.proofs.lemmas.List.{get_or_default}
use Rattle.finish.proofs.Finishing.{length-select, selected, not_selected}
use Rattle.finish.proofs.selection.KeptElements.at.Goals as goal

pub index-requires : goal.index-requires
index-requires c =
    let k = c.args.self.now in
    omega (arith, c.requires.first, c.requires.last, length-select k.zero k.kept.items k.basis.now.items, k.basis.now.ok.0)

pub returns-then-keeps : goal.returns-then-keeps
returns-then-keeps c =
    let k = c.args.self.now in
    let below : c.args.k - 1 < length k.basis.now.items = omega (arith, c.requires.first, c.requires.last, length-select k.zero k.kept.items k.basis.now.items) in
    selected k.zero k.kept.items c.deref.result.now k.basis.now.items (c.args.k - 1) c.keeps.result c.index.result.now c.deref.ensures.value below c.keeps.ensures c.if-keeps.true
    (c.index.ensures ∙ get_or_default k.basis.now.items (c.args.k - 1) c.index.result.now [] below)

pub returns-else-keeps : goal.returns-else-keeps
returns-else-keeps c =
    let k = c.args.self.now in
    let below : c.args.k - 1 < length k.basis.now.items = omega (arith, c.requires.first, c.requires.last, length-select k.zero k.kept.items k.basis.now.items) in
    not_selected k.zero k.kept.items c.deref.result.now k.basis.now.items (c.args.k - 1) c.keeps.result c.deref.ensures.value below c.keeps.ensures c.if-keeps.false
