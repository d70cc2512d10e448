use Rattle.std.proofs.Common.{◌≡◌, ◌∙◌, ap, length, sym, Equal, subst, map}
use Rattle.std.proofs.lemmas.List.{at_drop_all}
use Rattle.monomials.specs.Orders.{RowOrder, rows_cmp}
use Rattle.monomials.specs.Blocks.{dp_rows}
use Rattle.monomials.specs.Rows.{row_entries}
use Rattle.monomials.specs.Separating.{IsSeparating}
use Rattle.monomials.proofs.Separation.{rows_decide}
use Rattle.monomials.proofs.order.Order.compare.Goals as goal

-- the rows of `dp` alone
dp_decides : (c : goal.After-compare_graded) → c.compare_graded.result ≡ rows_cmp c.args.self.now.rows c.args.a.now c.args.b.now
dp_decides c =
    let vars : c.self.inside.vars ≡ length c.args.a.now = ap (λ (o : RowOrder). o.vars) c.self.view_is ∙ sym c.requires.a_fits in
    let rows : c.args.self.now.rows ≡ dp_rows (length c.args.a.now) 0 (length c.args.a.now) =
    ap (λ (o : RowOrder). o.rows) (sym c.self.view_is) ∙ (c.self.invariant.graded c.if-self.true ∙ ap (λ n. dp_rows n 0 n) vars) in
    c.compare_graded.ensures ∙ ap (λ rs. rows_cmp rs c.args.a.now c.args.b.now) (sym rows)

pub returns-then-self-clause-rows : goal.returns-then-self-clause-rows
returns-then-self-clause-rows c = dp_decides c

pub returns-then-self-clause-value : goal.returns-then-self-clause-value
returns-then-self-clause-value c =
    let separates : IsSeparating c.args.self.now = subst IsSeparating c.self.view_is c.self.invariant.separates in
    dp_decides c ∙ sym (rows_decide c.args.self.now separates c.args.a.now c.args.b.now c.requires.a_fits c.requires.b_fits)

pub returns-then-self-clause-equal : goal.returns-then-self-clause-equal
returns-then-self-clause-equal c =
    let separates : IsSeparating c.args.self.now = subst IsSeparating c.self.view_is c.self.invariant.separates in
    λ e. separates.same c.args.a.now c.args.b.now c.requires.a_fits c.requires.b_fits (sym (dp_decides c) ∙ e)

pub returns-clause-value : goal.returns-clause-value
returns-clause-value c =
    let none : rows_cmp c.args.self.now.rows c.args.a.now c.args.b.now ≡ Equal =
    sym c.loop-row.invariant
    ∙ at_drop_all (λ rows. rows_cmp (map (row_entries c.args.self.now.vars) rows) c.args.a.now c.args.b.now) _ _ c.loop-row-test.false in
    let separates : IsSeparating c.args.self.now = subst IsSeparating c.self.view_is c.self.invariant.separates in
    sym (rows_decide c.args.self.now separates c.args.a.now c.args.b.now c.requires.a_fits c.requires.b_fits ∙ none)
