use Rattle.std.proofs.Common.{◌∙◌, sym, ap, map}
use Rattle.monomials.specs.Rows.{row_entries}
use Rattle.monomials.proofs.SameRows.{orders_same}
use Rattle.monomials.proofs.order.Order.same.Goals as goal

pub returns-then-self-other : goal.returns-then-self-other
returns-then-self-other c =
    let same =
    orders_same c.self.inside c.other.inside c.args.self.now c.args.other.now c.self.view_is c.other.view_is c.if-self-other.true in
    let mine = ap (λ rs. map (row_entries c.self.inside.vars) rs) c.deref.ensures.value in
    let others = ap (λ rs. map (row_entries c.self.inside.vars) rs) c.deref-then-self-other.ensures.value in (
      λ t. same.0 (sym mine ∙ (c.same_rows.ensures.0 t ∙ others)),
      λ e. c.same_rows.ensures.1 (mine ∙ (same.1 e ∙ sym others)),
    )
