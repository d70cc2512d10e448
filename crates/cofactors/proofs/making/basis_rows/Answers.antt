use Rattle.std.proofs.Common.{◌≡◌, ◌+◌, ◌∷◌, [], suc, length, drop, refl, sym, ap, ◌∙◌, subst, arith}
use Rattle.std.proofs.lemmas.Result.{err_from_is_err_and}
use Rattle.monomials.specs.Polynomials.{Each}
use Rattle.word_model.specs.Words.{Algebra}
use Rattle.word_model.specs.Cofactors.{rows_after}
use Rattle.word_model.specs.declared.records.Mode.TheVariants.{Left}
use Rattle.word_model.specs.Inside.Sound.{IsSound, AreSound, behind, behind_all}
use Rattle.cofactors.specs.Rows.{IsRow}
use Rattle.algebra.proofs.MetFaults.{met_fault}
use Rattle.word_model.proofs.Journals.{behind_all-least}
use Rattle.cofactors.proofs.RowLaws.{rows_after-step, entries_reach-step, entries_reach-over, sound-step, behind-step, length-rows_after}
use Rattle.cofactors.proofs.making.basis_rows.Goals as goal

pub add_row-requires-clause-made : goal.add_row-requires-clause-made
add_row-requires-clause-made g c =
    omega (arith, behind_all-least (length c.loop-entry.rows.items) (drop c.loop-entry.entry-index c.args.entries.now), c.loop-entry.invariant.made)

pub returns-in_err-add_row-clause-over : goal.returns-in_err-add_row-clause-over
returns-in_err-add_row-clause-over g c =
    let A = c.args.seat.now.algebra in
    let gens = c.args.gens.now in
    let G = c.args.basis.now in
    let E = c.args.entries.now in
    let k = c.loop-entry.entry-index in
    let e = c.entry-item.result in
    let R = c.loop-entry.rows.items in
    let n = length c.args.gens.now in
    let p = err_from_is_err_and c.from_residual.result c.from_residual.ensures.1 in
    let sound : IsSound A gens G Left (length R) e × AreSound A gens G Left (behind (length R) e) (drop (suc k) E) =
    sound-step A gens G Left n E k c.loop-entry-test.true e (sym c.entry-item.is) R (suc k) refl c.loop-entry.invariant.sound in
    λ over. c.loop-entry.invariant.reach
    ∙ entries_reach-over A gens G Left n E k c.loop-entry-test.true e (sym c.entry-item.is) R (rows_after A n G [] E) c.loop-entry.invariant.value sound.0
    (c.in_err-add_row.ensures.over (met_fault _ p.0 _ _ p.1 p.2 over))

pub loop-entry-preserved : goal.loop-entry-preserved
loop-entry-preserved g c =
    let A = c.args.seat.now.algebra in
    let gens = c.args.gens.now in
    let G = c.args.basis.now in
    let E = c.args.entries.now in
    let k = c.loop-entry.entry-index in
    let e = c.entry-item.result in
    let R = c.loop-entry.rows.items in
    let after = c.add_row.new.rows.items in
    let n = length c.args.gens.now in
    let inv = c.loop-entry.invariant in
    let next : c.loop-entry.entry-index + 1 ≡ suc c.loop-entry.entry-index = omega arith in
    let is : after ≡ rows_after A n G R (e ∷ []) = c.in_ok-add_row.ensures.value ∙ ap (λ (B : Algebra). rows_after B n G R (e ∷ [])) inv.algebra in
    let sound : IsSound A gens G Left (length R) e × AreSound A gens G Left (behind (length R) e) (drop (k + 1) E) =
    sound-step A gens G Left n E k c.loop-entry-test.true e (sym c.entry-item.is) R (k + 1) next inv.sound in
    let longer : length after ≡ behind (length R) e = ap length is ∙ length-rows_after A n G R e in
    record {
      value = rows_after-step A gens G Left n E k c.loop-entry-test.true e (sym c.entry-item.is) R after (k + 1) next is ∙ inv.value;
      sorted = subst (λ (B : Algebra). Each (IsRow B n) after) inv.algebra c.in_ok-add_row.ensures.sorted;
      sound = subst (λ m. AreSound A gens G Left m (drop (k + 1) E)) (sym longer) sound.1;
      made = ap (λ m. behind_all m (drop (k + 1) E)) longer ∙ behind-step A gens G Left n E k c.loop-entry-test.true e (sym c.entry-item.is) R (k + 1) next ∙ inv.made;
      reach = inv.reach
          ∙ entries_reach-step A gens G Left n E k c.loop-entry-test.true e (sym c.entry-item.is) R (rows_after A n G [] E) inv.value sound.0 (k + 1) next c.in_ok-add_row.ensures.within;
      algebra = c.add_row.ensures.algebra ∙ inv.algebra;
      kept = λ place knew. c.add_row.ensures.kept place (inv.kept place knew);
    }
