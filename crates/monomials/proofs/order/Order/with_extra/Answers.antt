use Rattle.std.proofs.Common.{false, refl, ◌≡◌, ◌≤◌, ◌∙◌, ◌∷◌, ◌++◌, [], List, ap, sym, arith, pos, map}
use Rattle.std.proofs.lemmas.List.Elements.{All-weaker}
use Rattle.monomials.specs.Orders.{RowOrder}
use Rattle.monomials.specs.ExtraRows.{marks, with_rows}
use Rattle.monomials.specs.Rows.{row_entries}
use Rattle.monomials.specs.declared.row.Row.{Row}
use Rattle.monomials.proofs.ExtraRow.{kept_with_row, with_row_kept}
use Rattle.monomials.proofs.order.Order.with_extra.Goals as goal

pub marking-requires : goal.marking-requires
marking-requires c =
    let few : c.args.self.now.vars ≤ 16 = omega (arith, c.vars-n.ensures.vars, c.vars-n.ensures.at_most) in
    All-weaker (λ v. (1 ≤ v) × (v ≤ c.args.self.now.vars)) (λ v. (1 ≤ v) × (v ≤ 16)) (λ v h. (h.0, omega (arith, h.1, few))) c.args.vars.now
    c.requires.in_range

-- the rows behind the call
its_rows : (c : goal.In_ok-extend_from_slice) → c.extend_from_slice.new.self.items ≡ c.marking.result ∷ c.self.inside.rows.items
its_rows c =
    c.in_ok-extend_from_slice.ensures.items
    ∙ ((λ i. c.in_ok-push.ensures.items i ++ c.deref.ensures.value i)
    ∙ ap (λ (rs : List Row). (rs ++ c.marking.result ∷ []) ++ c.self.inside.rows.items) c.new-rows.ensures.items)

its_vars : (c : goal.In_ok-extend_from_slice) → c.vars-n.result ≡ c.self.inside.vars
its_vars c = c.vars-n.ensures.vars ∙ sym (ap (λ (o : RowOrder). o.vars) c.self.view_is)

its_entries : (c : goal.In_ok-extend_from_slice) → row_entries c.self.inside.vars c.marking.result ≡ map pos (marks c.args.self.now.vars c.args.vars.now)
its_entries c =
    c.marking.ensures.entries c.self.inside.vars c.self.invariant.fits
    ∙ ap (λ n. map pos (marks n c.args.vars.now)) (ap (λ (o : RowOrder). o.vars) c.self.view_is)

pub invariant_of-result : goal.invariant_of-result
invariant_of-result c =
    with_row_kept c.self.inside (record { vars = c.vars-n.result; rows = c.extend_from_slice.new.self; graded = false }) c.marking.result
    (marks c.args.self.now.vars c.args.vars.now) (its_vars c) (its_rows c) (its_entries c) c.self.invariant
    (c.marking.ensures.within c.self.inside.vars) refl

pub returns : goal.returns
returns c =
    kept_with_row c.self.inside (record { vars = c.vars-n.result; rows = c.extend_from_slice.new.self; graded = false }) c.marking.result
    (marks c.args.self.now.vars c.args.vars.now) (its_vars c) (its_rows c) (its_entries c)
    ∙ ap (with_rows (marks c.args.self.now.vars c.args.vars.now ∷ [])) c.self.view_is
