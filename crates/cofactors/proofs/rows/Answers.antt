use Rattle.std.proofs.Common.{◌≡◌, ℕ, List, [], true, false, Some, length, map, refl, sym, ap, ◌∙◌, subst, arith}
use Rattle.std.proofs.lemmas.Result.{err_from_is_err_and}
use Rattle.monomials.specs.Polynomials.{Polynomial, Each, IsPolynomial}
use Rattle.monomials.proofs.Keys.{Each-weaker}
use Rattle.word_model.specs.Words.{Algebra}
use Rattle.word_model.specs.Conditions.{IsGAlgebra}
use Rattle.word_model.specs.Machine.{IsElement, Journal, machine}
use Rattle.word_model.specs.Finished.{FinishedList, finished}
use Rattle.word_model.specs.Cofactors.{Row, row_value, cofactor_rows, rows_after, finished_rows, entries_reach, values_reach}
use Rattle.word_model.specs.declared.records.Mode.TheVariants.{Left}
use Rattle.word_model.proofs.FinishedRows.{finished_values}
use Rattle.word_model.specs.Inside.Sound.{AreSound, behind_all, IsJournal}
use Rattle.cofactors.specs.Rows.{IsRow, AreTails}
use Rattle.algebra.proofs.MetFaults.{met_fault}
use Rattle.word_model.proofs.Journals.{journal-is, journal-elements}
use Rattle.cofactors.proofs.Finals.{finished-tails}
use Rattle.cofactors.proofs.RowLaws.{length-all_rows, cofactor_rows-is, cofactor_rows-entries, cofactor_rows-tails, cofactor_rows-values}
use Rattle.cofactors.proofs.rows.Goals as goal
use Rattle.cofactors.proofs.rows.Given as given
use Rattle.cofactors.proofs.rows.Goals.{After-deref-2, After-deref-3, After-deref-4}

-- the algebra is accepted
accepted : (g : given.Over) (c : After-deref-2 g) → IsGAlgebra c.args.seat.now.algebra
accepted g c = subst IsGAlgebra c.algebra.ensures c.n-n.ensures.accepted

-- the basis and the entries that are handed on are those of the journal
basis_is : (g : given.Over) (c : After-deref-2 g) → c.deref.result.now ≡ c.args.journal.now.basis
basis_is g c = c.deref.ensures.value ∙ ap (λ (j : Journal). j.basis) c.journal.view_is

entries_are : (g : given.Over) (c : After-deref-2 g) → c.deref-2.result.now ≡ c.args.journal.now.entries
entries_are g c = c.deref-2.ensures.value ∙ ap (λ (j : Journal). j.entries) c.journal.view_is

elements_are : (g : given.Over) (c : After-deref-2 g) → Each (IsElement c.args.seat.now.algebra) c.args.journal.now.basis
elements_are g c = journal-elements c.args.seat.now.algebra (accepted g c) c.args.gens.now c.requires.generators Left c.args.journal.now c.requires.left_run

journal : (g : given.Over) (c : After-deref-2 g) → IsJournal c.args.seat.now.algebra c.args.gens.now Left c.args.journal.now
journal g c = journal-is c.args.seat.now.algebra (accepted g c) c.args.gens.now c.requires.generators Left c.args.journal.now c.requires.left_run

pub basis_rows-requires-clause-elements : goal.basis_rows-requires-clause-elements
basis_rows-requires-clause-elements g c =
    let at = (goal.at.basis_rows-requires-clause-elements g c).After-deref-2 in
    subst (Each (IsElement c.args.seat.now.algebra)) (sym (basis_is g at)) (elements_are g at)

pub basis_rows-requires-clause-sound : goal.basis_rows-requires-clause-sound
basis_rows-requires-clause-sound g c =
    let at = (goal.at.basis_rows-requires-clause-sound g c).After-deref-2 in
    let A = c.args.seat.now.algebra in
    let J = c.args.journal.now in
    subst (λ G. AreSound A c.args.gens.now G Left 0 c.deref-2.result.now) (sym (basis_is g at))
    (subst (λ E. AreSound A c.args.gens.now J.basis Left 0 E) (sym (entries_are g at)) (journal g at).entries)

pub basis_rows-requires-clause-made : goal.basis_rows-requires-clause-made
basis_rows-requires-clause-made g c =
    let at = (goal.at.basis_rows-requires-clause-made g c).After-deref-2 in
    ap (behind_all 0) (entries_are g at) ∙ (journal g at).count ∙ ap length (sym (basis_is g at))

pub returns-in_err-made-clause-over : goal.returns-in_err-made-clause-over
returns-in_err-made-clause-over g c =
    let at = (goal.at.returns-in_err-made-clause-over g c).After-deref-2 in
    let A = c.args.seat.now.algebra in
    let J = c.args.journal.now in
    let n = length c.args.gens.now in
    let p = err_from_is_err_and c.from_residual.result c.from_residual.ensures.1 in
    λ e. cofactor_rows-entries A c.args.gens.now J c.args.list.now (rows_after A n J.basis [] J.entries) [] refl
    ((λ i. entries_reach (sym (basis_is g at) i) (rows_after A n (sym (basis_is g at) i) [] (sym (entries_are g at) i)) (sym (entries_are g at) i))
    ∙ c.in_err-made.ensures.over (met_fault _ p.0 _ _ p.1 p.2 e))

-- the rows of the basis
made_is : (g : given.Over) (c : After-deref-3 g)
    → c.deref-3.result.now ≡ rows_after c.args.seat.now.algebra (length c.args.gens.now) c.deref.result.now [] c.deref-2.result.now
made_is g c = c.deref-3.ensures.value ∙ c.in_ok-made.ensures.value

pub finished_rows-requires-clause-rows : goal.finished_rows-requires-clause-rows
finished_rows-requires-clause-rows g c =
    let n = length c.args.gens.now in
    let A = c.args.seat.now.algebra in (
      n,
      subst (λ (B : Algebra). Each (IsRow B n) c.deref-3.result.now) (sym c.basis_rows.ensures.algebra)
          (subst (Each (IsRow A n)) (sym c.deref-3.ensures.value) c.in_ok-made.ensures.sorted),
    )

pub finished_rows-requires-clause-list : goal.finished_rows-requires-clause-list
finished_rows-requires-clause-list g c =
    let at = (goal.at.finished_rows-requires-clause-list g c).After-deref-2 in
    let A = c.args.seat.now.algebra in
    let n = length c.args.gens.now in
    let J = c.args.journal.now in
    let count : length c.deref-3.result.now ≡ length J.basis =
    ap length (made_is g (goal.at.finished_rows-requires-clause-list g c).After-deref-3) ∙ length-all_rows A n c.deref.result.now [] c.deref-2.result.now ∙ ap (behind_all 0) (entries_are g at) ∙ (journal g at).count in
    let tails : AreTails A (length J.basis) c.args.list.now = finished-tails A (accepted g at) J.basis c.args.list.now (elements_are g at) c.requires.list in
    subst (λ (B : Algebra). AreTails B (length c.deref-3.result.now) c.args.list.now) (sym c.basis_rows.ensures.algebra)
    (subst (λ m. AreTails A m c.args.list.now) (sym count) tails)

-- the same rows, of the journal
made_of_journal : (g : given.Over) (c : After-deref-3 g)
    → c.deref-3.result.now ≡ rows_after c.args.seat.now.algebra (length c.args.gens.now) c.args.journal.now.basis [] c.args.journal.now.entries
made_of_journal g c =
    c.deref-3.ensures.value ∙ c.in_ok-made.ensures.value
    ∙ (λ i. rows_after c.args.seat.now.algebra (length c.args.gens.now)
    ((c.deref.ensures.value ∙ ap (λ (j : Journal). j.basis) c.journal.view_is) i) [] ((c.deref-2.ensures.value ∙ ap (λ (j : Journal). j.entries) c.journal.view_is) i))

pub returns-in_err-rows-clause-over : goal.returns-in_err-rows-clause-over
returns-in_err-rows-clause-over g c =
    let at = (goal.at.returns-in_err-rows-clause-over g c).After-deref-3 in
    let A = c.args.seat.now.algebra in
    let p = err_from_is_err_and c.from_residual-in_err-rows.result c.from_residual-in_err-rows.ensures.1 in
    λ e. cofactor_rows-tails A c.args.gens.now c.args.journal.now c.args.list.now c.deref-3.result.now [] (made_of_journal g at)
    (c.in_err-rows.ensures.over (met_fault _ p.0 _ _ p.1 p.2 e))

pub values_reach-requires : goal.values_reach-requires
values_reach-requires g c =
    let A = c.args.seat.now.algebra in
    let n = length c.args.gens.now in
    let B = c.basis_rows.new.seat.algebra in
    let made : Each (IsRow B n) c.deref-3.result.now =
    subst (λ (B : Algebra). Each (IsRow B n) c.deref-3.result.now) (sym c.basis_rows.ensures.algebra)
    (subst (Each (IsRow A n)) (sym c.deref-3.ensures.value) c.in_ok-made.ensures.sorted) in
    record {
      one_each = subst (Each (λ (row : Row). length row ≡ length c.args.gens.now)) (sym c.deref-4.ensures.value)
          (Each-weaker (IsRow B n) (λ (row : Row). length row ≡ length c.args.gens.now) (λ row is. is.one_each) c.in_ok-rows.rows.items (c.in_ok-rows.ensures.sorted n made));
    }

pub returns-then-not-values_reach-clause-over : goal.returns-then-not-values_reach-clause-over
returns-then-not-values_reach-clause-over g c =
    let at = (goal.at.returns-then-not-values_reach-clause-over g c).After-deref-3 in
    let A = c.args.seat.now.algebra in
    let R = c.deref-3.result.now in
    let F = c.args.list.now in
    let off : c.values_reach.result ≡ false = grind (arith, c.if-not-values_reach.true) in
    let rows_are : c.in_ok-rows.rows.items ≡ finished_rows A R F.origin F.tails =
    c.in_ok-rows.ensures.value ∙ ap (λ (B : Algebra). finished_rows B R F.origin F.tails) c.basis_rows.ensures.algebra in
    λ e. cofactor_rows-values A c.args.gens.now c.args.journal.now F R c.in_ok-rows.rows.items (made_of_journal g at) rows_are
    (ap (λ rows. values_reach rows c.args.gens.now) (sym c.deref-4.ensures.value) ∙ sym c.values_reach.ensures ∙ off)

pub returns-clause-value : goal.returns-clause-value
returns-clause-value g c =
    let at = goal.at.returns-clause-value g c in
    let A = c.args.seat.now.algebra in
    let R = c.deref-3.result.now in
    let F = c.args.list.now in
    let J = c.args.journal.now in
    let on : c.values_reach.result ≡ true = grind (arith, c.if-not-values_reach.false) in
    let rows_are : c.in_ok-rows.rows.items ≡ finished_rows A R F.origin F.tails =
    c.in_ok-rows.ensures.value ∙ ap (λ (B : Algebra). finished_rows B R F.origin F.tails) c.basis_rows.ensures.algebra in
    let entries : entries_reach J.basis R J.entries ≡ true =
    (λ i. entries_reach (sym (basis_is g at.After-deref-2) i) (made_is g at.After-deref-3 i) (sym (entries_are g at.After-deref-2) i)) ∙ c.in_ok-made.ensures.within in
    cofactor_rows-is A c.args.gens.now J F R c.in_ok-rows.rows.items (made_of_journal g at.After-deref-3) entries c.in_ok-rows.ensures.within rows_are
    (ap (λ rows. values_reach rows c.args.gens.now) (sym c.deref-4.ensures.value) ∙ sym c.values_reach.ensures ∙ on)

-- each finished element is the value of its row
pub returns-clause-values : goal.returns-clause-values
returns-clause-values g c =
    let A = c.args.seat.now.algebra in
    let gens = c.args.gens.now in
    let F = c.args.list.now in
    by A (accepted g (goal.at.returns-clause-values g c).After-deref-2) gens c.requires.generators c.args.journal.now c.requires.left_run F c.requires.list
    c.in_ok-rows.rows.items (returns-clause-value g c)
  where
    by : (A : Algebra) → IsGAlgebra A → (gens : List Polynomial) → Each (IsPolynomial A.p A.order) gens → (J : Journal) → (budget : ℕ) × (J ≡ machine A gens Left budget)
        → (F : FinishedList) → finished A J.basis ≡ Some F → (rows : List Row) → cofactor_rows A gens J F ≡ Some rows → map (λ row. row_value A row gens) rows ≡ F.list
    by A ok gens sorted J run F listed rows computed =
        finished_values A ok gens sorted run.0 F (ap (λ (J : Journal). finished A J.basis) (sym run.1) ∙ listed) rows
        (ap (λ (J : Journal). cofactor_rows A gens J F) (sym run.1) ∙ computed)

-- the rows that are handed out
are_rows : (g : given.Over) (c : After-deref-4 g) → Each (IsRow c.args.seat.now.algebra (length c.args.gens.now)) c.in_ok-rows.rows.items
are_rows g c =
    let A = c.args.seat.now.algebra in
    let n = length c.args.gens.now in
    let B = c.basis_rows.new.seat.algebra in
    let made : Each (IsRow B n) c.deref-3.result.now =
    subst (λ (B : Algebra). Each (IsRow B n) c.deref-3.result.now) (sym c.basis_rows.ensures.algebra)
    (subst (Each (IsRow A n)) (sym c.deref-3.ensures.value) c.in_ok-made.ensures.sorted) in
    subst (λ (B : Algebra). Each (IsRow B n) c.in_ok-rows.rows.items) c.basis_rows.ensures.algebra (c.in_ok-rows.ensures.sorted n made)

pub returns-clause-sorted : goal.returns-clause-sorted
returns-clause-sorted g c =
    let A = c.args.seat.now.algebra in
    Each-weaker (IsRow A (length c.args.gens.now)) (λ (row : Row). Each (IsPolynomial A.p A.order) row) (λ row is. is.sorted) c.in_ok-rows.rows.items
    (are_rows g (goal.at.returns-clause-sorted g c).After-deref-4)

pub returns-clause-one_entry_each : goal.returns-clause-one_entry_each
returns-clause-one_entry_each g c =
    let n = length c.args.gens.now in
    Each-weaker (IsRow c.args.seat.now.algebra n) (λ (row : Row). length row ≡ n) (λ row is. is.one_each) c.in_ok-rows.rows.items
    (are_rows g (goal.at.returns-clause-one_entry_each g c).After-deref-4)
