use Rattle.std.proofs.Common.{◌≡◌, ◌+◌, ◌<◌, ◌++◌, ◌∷◌, [], length, drop, sym, ap, ◌∙◌, subst, arith}
use Rattle.monomials.specs.Polynomials.{Each}
use Rattle.monomials.proofs.Keys.{Each-append}
use Rattle.word_model.specs.Words.{Algebra}
use Rattle.word_model.specs.Finished.{FinishedList}
use Rattle.word_model.specs.Cofactors.{row_at, less_steps, finished_rows}
use Rattle.cofactors.specs.Rows.{IsRow}
use Rattle.cofactors.proofs.RowLaws.{finished_rows-step, tails_reach-step}
use Rattle.cofactors.proofs.finishing.finished_rows.Goals as goal

pub loop-place-preserved : goal.loop-place-preserved
loop-place-preserved g c =
    let A = c.args.seat.now.algebra in
    let R = c.args.rows.now in
    let l = c.loop-place in
    let k = c.loop-place.place in
    let origin = c.list.inside.origin.items in
    let tails = c.list.inside.tails.items in
    let o = c.index.result.now in
    let tail = c.index-in-loop-place.result.now in
    let row = c.in_ok-row.row in
    let below : c.loop-place.place < length c.list.inside.origin.items = omega (arith, c.loop-place-test.true, c.len-place-end.ensures, c.list.inside.origin.ok.0) in
    let same : length c.list.inside.origin.items ≡ length c.list.inside.tails.items =
    subst (λ (F : FinishedList). length F.origin ≡ length F.tails) (sym c.list.view_is) c.requires.list.one_each in
    let row_is : row ≡ less_steps A R (row_at R o) tail = c.in_ok-row.ensures.value ∙ ap (λ (B : Algebra). less_steps B R (row_at R o) tail) l.invariant.algebra in
    record {
      value = ap (λ rows. rows ++ finished_rows A R (drop (k + 1) origin) (drop (k + 1) tails)) c.in_ok-push.ensures
          ∙ finished_rows-step A R origin tails k below same o (sym c.index.ensures) tail (sym c.index-in-loop-place.ensures) l.finished.items row (k + 1) (omega arith) row_is
          ∙ l.invariant.value;
      sorted = λ n rows_are.
          subst (Each (IsRow A n)) (sym c.in_ok-push.ensures)
          (Each-append (IsRow A n) l.finished.items (row ∷ []) (l.invariant.sorted n rows_are) (
            subst (λ (B : Algebra). IsRow B n row) l.invariant.algebra (c.in_ok-row.ensures.sorted n (subst (λ (B : Algebra). Each (IsRow B n) R) (sym l.invariant.algebra) rows_are)),
            tt,
          ));
      reach = l.invariant.reach
          ∙ tails_reach-step A R origin tails k below same o (sym c.index.ensures) tail (sym c.index-in-loop-place.ensures) (k + 1) (omega arith) c.in_ok-row.ensures.within;
      algebra = c.reduced_row.ensures.algebra ∙ l.invariant.algebra;
      kept = λ place knew. c.reduced_row.ensures.kept place (l.invariant.kept place knew);
    }
