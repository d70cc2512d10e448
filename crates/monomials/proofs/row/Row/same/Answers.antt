use Rattle.std.proofs.Common.{◌≡◌, ◌∙◌, sym, true, false}
use Rattle.std.specs.Cmp.{booleans_Decides}
use Rattle.std.proofs.lemmas.Bool.Decides.{Decides-eqb}
use Rattle.std.proofs.lemmas.Slice.Eq.{slice_eq-Decides}
use Rattle.monomials.specs.Rows.{falls}
use Rattle.monomials.proofs.SameRows.{falls_same, entries_same}
use Rattle.monomials.proofs.row.Row.same.Goals as goal

pub returns-then-falls : goal.returns-then-falls
returns-then-falls c =
    let f : falls c.args.self.now ≡ falls c.args.other.now =
    sym c.falls.ensures ∙ ((booleans_Decides c.falls.result c.falls-2.result).0 c.if-falls.true ∙ c.falls-2.ensures) in
    let decides = slice_eq-Decides Decides-eqb _ _ c.eq.result c.eq.ensures in
    let same =
    entries_same c.args.n c.args.self.now c.args.other.now c.sizes-mine.result c.sizes-others.result
    (c.sizes-mine.ensures c.args.n c.requires.fits c.requires.self_within)
    (c.sizes-others.ensures c.args.n c.requires.fits c.requires.other_within) f in
    (λ t. same.0 (decides.0 t), λ e. decides.1 (same.1 e))

pub returns-else-falls : goal.returns-else-falls
returns-else-falls c =
    let decides = booleans_Decides c.falls.result c.falls-2.result in
    let no = c.if-falls.false in (
      λ t. let f : false ≡ true = sym no ∙ t in cc,
      λ e. decides.1 (c.falls.ensures ∙ (falls_same c.args.n c.args.self.now c.args.other.now e ∙ sym c.falls-2.ensures)),
    )
