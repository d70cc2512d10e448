use Rattle.std.proofs.Common.{◌≡◌, length, sym, ap, ◌∙◌, subst}
use Rattle.std.proofs.lemmas.Result.{err_from_is_err_and}
use Rattle.monomials.specs.WellFounded.{IsWellFounded}
use Rattle.monomials.specs.Polynomials.{Each, IsPolynomial}
use Rattle.monomials.proofs.Keys.{Each-weaker}
use Rattle.word_model.specs.Words.{Algebra}
use Rattle.word_model.specs.Conditions.{IsGAlgebra}
use Rattle.word_model.specs.Machine.{IsElement, Journal}
use Rattle.word_model.specs.Cofactors.{Row}
use Rattle.word_model.specs.declared.records.Mode.TheVariants.{Left}
use Rattle.word_model.specs.Inside.Sound.{AreSound, behind_all, IsJournal}
use Rattle.cofactors.specs.Rows.{IsRow}
use Rattle.algebra.proofs.MetFaults.{met_fault}
use Rattle.word_model.proofs.Journals.{journal-is, journal-elements}
use Rattle.syzygies.proofs.SyzygyLists.{syzygy_rows-is, syzygy_rows-none, each-relation, all-relations}
use Rattle.syzygies.proofs.syz.Goals as goal
use Rattle.syzygies.proofs.syz.Given as given
use Rattle.syzygies.proofs.syz.Goals.{After-deref-2}

-- the algebra is accepted
accepted : (g : given.Over) (c : After-deref-2 g) → IsGAlgebra c.args.seat.now.algebra
accepted g c = subst IsGAlgebra c.algebra-alg.ensures c.n-n.ensures.accepted

-- the basis and the entries that are handed on are those of the journal
basis_is : (g : given.Over) (c : After-deref-2 g) → c.deref.result.now ≡ c.args.journal.now.basis
basis_is g c = c.deref.ensures.value ∙ ap (λ (j : Journal). j.basis) c.journal.view_is

entries_are : (g : given.Over) (c : After-deref-2 g) → c.deref-2.result.now ≡ c.args.journal.now.entries
entries_are g c = c.deref-2.ensures.value ∙ ap (λ (j : Journal). j.entries) c.journal.view_is

elements_are : (g : given.Over) (c : After-deref-2 g) → Each (IsElement c.args.seat.now.algebra) c.args.journal.now.basis
elements_are g c = journal-elements c.args.seat.now.algebra (accepted g c) c.args.gens.now c.requires.generators Left c.args.journal.now c.requires.left_run

journal : (g : given.Over) (c : After-deref-2 g) → IsJournal c.args.seat.now.algebra c.args.gens.now Left c.args.journal.now
journal g c = journal-is c.args.seat.now.algebra (accepted g c) c.args.gens.now c.requires.generators Left c.args.journal.now c.requires.left_run

pub all_rows-requires-clause-elements : goal.all_rows-requires-clause-elements
all_rows-requires-clause-elements g c =
    let at = (goal.at.all_rows-requires-clause-elements g c).After-deref-2 in
    subst (Each (IsElement c.args.seat.now.algebra)) (sym (basis_is g at)) (elements_are g at)

pub all_rows-requires-clause-sound : goal.all_rows-requires-clause-sound
all_rows-requires-clause-sound g c =
    let at = (goal.at.all_rows-requires-clause-sound g c).After-deref-2 in
    let A = c.args.seat.now.algebra in
    let J = c.args.journal.now in
    subst (λ G. AreSound A c.args.gens.now G Left 0 c.deref-2.result.now) (sym (basis_is g at))
    (subst (λ E. AreSound A c.args.gens.now J.basis Left 0 E) (sym (entries_are g at)) (journal g at).entries)

pub all_rows-requires-clause-made : goal.all_rows-requires-clause-made
all_rows-requires-clause-made g c =
    let at = (goal.at.all_rows-requires-clause-made g c).After-deref-2 in
    ap (behind_all 0) (entries_are g at) ∙ (journal g at).count ∙ ap length (sym (basis_is g at))

pub returns-in_err-rows-clause-over : goal.returns-in_err-rows-clause-over
returns-in_err-rows-clause-over g c =
    let at = (goal.at.returns-in_err-rows-clause-over g c).After-deref-2 in
    let p = err_from_is_err_and c.from_residual.result c.from_residual.ensures.1 in
    λ e. syzygy_rows-none c.args.seat.now.algebra c.args.gens.now c.args.journal.now c.deref.result.now c.deref-2.result.now (basis_is g at) (entries_are g at)
    (c.in_err-rows.ensures.over (met_fault _ p.0 _ _ p.1 p.2 e))

pub returns-clause-value : goal.returns-clause-value
returns-clause-value g c =
    let at = (goal.at.returns-clause-value g c).After-deref-2 in
    (syzygy_rows-is c.args.seat.now.algebra c.args.gens.now c.args.journal.now c.deref.result.now c.deref-2.result.now c.in_ok-rows.rows.items
    (basis_is g at) (entries_are g at) c.in_ok-rows.ensures.value c.in_ok-rows.ensures.within).0

pub returns-clause-relations : goal.returns-clause-relations
returns-clause-relations g c =
    let at = (goal.at.returns-clause-relations g c).After-deref-2 in
    let A = c.args.seat.now.algebra in
    let J = c.args.journal.now in
    each-relation A (accepted g at) c.args.gens.now c.requires.generators J c.requires.left_run c.in_ok-rows.rows.items
    (syzygy_rows-is A c.args.gens.now J c.deref.result.now c.deref-2.result.now c.in_ok-rows.rows.items
    (basis_is g at) (entries_are g at) c.in_ok-rows.ensures.value c.in_ok-rows.ensures.within).1

pub returns-clause-all : goal.returns-clause-all
returns-clause-all g c =
    let at = (goal.at.returns-clause-all g c).After-deref-2 in
    let A = c.args.seat.now.algebra in
    let J = c.args.journal.now in
    let well : IsWellFounded c.args.seat.now.algebra.order =
    subst IsWellFounded (c.order.ensures ∙ ap (λ (A : Algebra). A.order) c.algebra-alg.ensures) c.order_is_well_founded.ensures.reached in
    all-relations A (accepted g at) c.args.gens.now c.requires.generators J c.requires.left_run c.in_ok-rows.rows.items
    (syzygy_rows-is A c.args.gens.now J c.deref.result.now c.deref-2.result.now c.in_ok-rows.rows.items
    (basis_is g at) (entries_are g at) c.in_ok-rows.ensures.value c.in_ok-rows.ensures.within).1
    c.requires.finished well

pub returns-clause-sorted : goal.returns-clause-sorted
returns-clause-sorted g c =
    let A = c.args.seat.now.algebra in
    Each-weaker (IsRow A (length c.args.gens.now)) (λ (row : Row). Each (IsPolynomial A.p A.order) row) (λ row is. is.sorted) c.in_ok-rows.rows.items c.in_ok-rows.ensures.sorted

pub returns-clause-one_entry_each : goal.returns-clause-one_entry_each
returns-clause-one_entry_each g c =
    let n = length c.args.gens.now in
    Each-weaker (IsRow c.args.seat.now.algebra n) (λ (row : Row). length row ≡ n) (λ row is. is.one_each) c.in_ok-rows.rows.items c.in_ok-rows.ensures.sorted
