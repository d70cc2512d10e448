use Rattle.std.proofs.Common.{◌≡◌, ◌+◌, suc, ◌++◌, [], ◌∷◌, length, sym, ap, ◌∙◌, subst, arith}
use Rattle.std.proofs.lemmas.Result.{err_from_is_err_and}
use Rattle.monomials.specs.Polynomials.{Each}
use Rattle.word_model.specs.Words.{Algebra}
use Rattle.word_model.specs.Syzygies.{entry_syzygies}
use Rattle.cofactors.specs.Rows.{IsRow}
use Rattle.algebra.proofs.MetFaults.{met_fault}
use Rattle.syzygies.proofs.SyzygyLists.{syzygies-step, zeros_reach-step, zeros_reach-over}
use Rattle.syzygies.proofs.relations.entry_rows.Goals as goal

pub returns-in_err-add_entry-clause-over : goal.returns-in_err-add_entry-clause-over
returns-in_err-add_entry-clause-over g c =
    let A = c.args.seat.now.algebra in
    let R = c.args.made.now in
    let E = c.args.entries.now in
    let k = c.loop-entry.entry-index in
    let e = c.entry-item.result in
    let p = err_from_is_err_and c.from_residual.result c.from_residual.ensures.1 in
    λ over. c.loop-entry.invariant.reach
    ∙ zeros_reach-over A (length c.args.gens.now) c.args.basis.now R E k c.loop-entry-test.true e (sym c.entry-item.is)
    (c.in_err-add_entry.ensures.over (met_fault _ p.0 _ _ p.1 p.2 over))

pub loop-entry-preserved : goal.loop-entry-preserved
loop-entry-preserved g c =
    let A = c.args.seat.now.algebra in
    let G = c.args.basis.now in
    let R = c.args.made.now in
    let E = c.args.entries.now in
    let k = c.loop-entry.entry-index in
    let e = c.entry-item.result in
    let done = c.loop-entry.rows.items in
    let more = c.add_entry.new.rows.items in
    let n = length c.args.gens.now in
    let inv = c.loop-entry.invariant in
    let next : c.loop-entry.entry-index + 1 ≡ suc c.loop-entry.entry-index = omega arith in
    let is : more ≡ done ++ entry_syzygies A n G R (e ∷ []) =
    c.in_ok-add_entry.ensures.value ∙ ap (λ (B : Algebra). done ++ entry_syzygies B n G R (e ∷ [])) inv.algebra in
    record {
      value = syzygies-step A n G R E k c.loop-entry-test.true e (sym c.entry-item.is) done more (k + 1) next is ∙ inv.value;
      sorted = subst (λ (B : Algebra). Each (IsRow B n) more) inv.algebra c.in_ok-add_entry.ensures.sorted;
      reach = inv.reach ∙ zeros_reach-step A n G R E k c.loop-entry-test.true e (sym c.entry-item.is) (k + 1) next c.in_ok-add_entry.ensures.within;
      algebra = c.add_entry.ensures.algebra ∙ inv.algebra;
      kept = λ place knew. c.add_entry.ensures.kept place (inv.kept place knew);
    }
