use Rattle.std.proofs.Common.{◌≡◌, ◌≤◌, [], length, sym, ap, ◌∙◌, subst, arith}
use Rattle.std.proofs.lemmas.Result.{err_from_is_err_and}
use Rattle.monomials.specs.Polynomials.{Each}
use Rattle.word_model.specs.Words.{Algebra}
use Rattle.word_model.specs.Cofactors.{rows_after}
use Rattle.word_model.specs.declared.records.Mode.TheVariants.{Left}
use Rattle.word_model.specs.Inside.Sound.{IsSound, behind_all}
use Rattle.cofactors.specs.Rows.{IsRow}
use Rattle.algebra.proofs.MetFaults.{met_fault}
use Rattle.cofactors.proofs.RowLaws.{length-all_rows}
use Rattle.syzygies.specs.Zeros.{zeros_reach}
use Rattle.syzygies.proofs.SyzygyLists.{each-sound, all_reach-both, all_reach-first, all_reach-second}
use Rattle.syzygies.proofs.relations.all_rows.Goals as goal
use Rattle.syzygies.proofs.relations.all_rows.Given as given
use Rattle.syzygies.proofs.relations.all_rows.Goals.{After-deref}

-- the rows of all elements, and how many there are
made_is : (g : given.Over) (c : After-deref g)
    → c.deref.result.now ≡ rows_after c.args.seat.now.algebra (length c.args.gens.now) c.args.basis.now [] c.args.entries.now
made_is g c = c.deref.ensures.value ∙ c.in_ok-made.ensures.value

count : (g : given.Over) (c : After-deref g) → length c.deref.result.now ≡ length c.args.basis.now
count g c = ap length (made_is g c) ∙ length-all_rows c.args.seat.now.algebra (length c.args.gens.now) c.args.basis.now [] c.args.entries.now ∙ c.requires.made

pub entry_rows-requires-clause-rows : goal.entry_rows-requires-clause-rows
entry_rows-requires-clause-rows g c =
    let n = length c.args.gens.now in
    subst (λ (B : Algebra). Each (IsRow B n) c.deref.result.now) (sym c.basis_rows.ensures.algebra)
    (subst (Each (IsRow c.args.seat.now.algebra n)) (sym c.deref.ensures.value) c.in_ok-made.ensures.sorted)

pub entry_rows-requires-clause-one_each : goal.entry_rows-requires-clause-one_each
entry_rows-requires-clause-one_each g c = omega (arith, count g (goal.at.entry_rows-requires-clause-one_each g c).After-deref)

pub entry_rows-requires-clause-sound : goal.entry_rows-requires-clause-sound
entry_rows-requires-clause-sound g c =
    let at = (goal.at.entry_rows-requires-clause-sound g c).After-deref in
    let gens = c.args.gens.now in
    let G = c.args.basis.now in
    let E = c.args.entries.now in
    let m = length c.deref.result.now in
    let all : behind_all 0 c.args.entries.now ≤ length c.deref.result.now = omega (arith, count g at, c.requires.made) in
    subst (λ (B : Algebra). Each (IsSound B gens G Left m) E) (sym c.basis_rows.ensures.algebra)
    (each-sound c.args.seat.now.algebra gens G Left m 0 E all c.requires.sound)

pub returns-in_err-made-clause-over : goal.returns-in_err-made-clause-over
returns-in_err-made-clause-over g c =
    let A = c.args.seat.now.algebra in
    let G = c.args.basis.now in
    let E = c.args.entries.now in
    let p = err_from_is_err_and c.from_residual.result c.from_residual.ensures.1 in
    λ e. all_reach-first G (rows_after A (length c.args.gens.now) G [] E) E (c.in_err-made.ensures.over (met_fault _ p.0 _ _ p.1 p.2 e))

pub returns-in_err-rows-clause-over : goal.returns-in_err-rows-clause-over
returns-in_err-rows-clause-over g c =
    let A = c.args.seat.now.algebra in
    let G = c.args.basis.now in
    let E = c.args.entries.now in
    let p = err_from_is_err_and c.from_residual-in_err-rows.result c.from_residual-in_err-rows.ensures.1 in
    λ e. all_reach-second G (rows_after A (length c.args.gens.now) G [] E) E
    (ap (λ R. zeros_reach G R E) (sym (made_is g (goal.at.returns-in_err-rows-clause-over g c).After-deref))
    ∙ c.in_err-rows.ensures.over (met_fault _ p.0 _ _ p.1 p.2 e))

pub returns-clause-within : goal.returns-clause-within
returns-clause-within g c =
    let A = c.args.seat.now.algebra in
    let G = c.args.basis.now in
    let E = c.args.entries.now in
    all_reach-both G (rows_after A (length c.args.gens.now) G [] E) E c.in_ok-made.ensures.within
    (ap (λ R. zeros_reach G R E) (sym (made_is g (goal.at.returns-clause-within g c).After-deref)) ∙ c.in_ok-rows.ensures.within)
