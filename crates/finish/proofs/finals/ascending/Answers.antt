use Rattle.std.proofs.Common.{◌≡◌, ◌-◌, ◌+◌, Some, None, subst, arith, ◌∙◌}
use Rattle.std.proofs.lemmas.Result.{err_from_is_err_and}
use Rattle.monomials.specs.Polynomials.{Each}
use Rattle.word_model.specs.Words.{Algebra}
use Rattle.word_model.specs.Finished.{Final}
use Rattle.word_model.specs.Machine.{IsElement}
use Rattle.finish.specs.Finishing.{add_final}
use Rattle.algebra.proofs.MetFaults.{met_fault}
use Rattle.finish.proofs.Finishing.{has_finals-next, has_finals-over}
use Rattle.finish.proofs.finals.ascending.Goals as goal

pub loop-place-preserved : goal.loop-place-preserved
loop-place-preserved g c =
    let A = c.args.seat.now.algebra in
    let K = g.E.Elements.elements c.args.elements.now in
    let l = c.loop-place in
    let same : l.seat.algebra ≡ A = l.invariant.3 in
    let after = c.add_final.new.finals.items in
    let value : add_final A K (l.place - 1 + 1) (Some l.finals.items) ≡ Some after =
    subst (λ (B : Algebra). add_final B K (l.place - 1 + 1) (Some l.finals.items) ≡ Some after) same c.in_ok-add_final.ensures.value in (
      has_finals-next A K l.place (l.place - 1 + 1) (l.place - 1) l.finals.items after (omega (arith, c.loop-place-test.true)) l.invariant.2
          (omega (arith, c.loop-place-test.true)) (omega arith) l.invariant.0 value,
      subst (λ (B : Algebra). Each (λ (x : Final). IsElement B x.polynomial) after) same c.in_ok-add_final.ensures.finals,
      omega (arith, l.invariant.2),
      c.add_final.ensures.algebra ∙ same,
      λ place knew. c.add_final.ensures.kept place (l.invariant.4 place knew),
    )

pub returns-in_err-add_final-clause-over : goal.returns-in_err-add_final-clause-over
returns-in_err-add_final-clause-over g c =
    let A = c.args.seat.now.algebra in
    let K = g.E.Elements.elements c.args.elements.now in
    let p = err_from_is_err_and c.from_residual.result c.from_residual.ensures.1 in
    let l = c.loop-place in
    λ e. has_finals-over A K l.place (l.place - 1 + 1) l.finals.items
    (omega (arith, c.loop-place-test.true)) l.invariant.2 (omega (arith, c.loop-place-test.true)) l.invariant.0
    (subst (λ (B : Algebra). add_final B K (l.place - 1 + 1) (Some l.finals.items) ≡ None) l.invariant.3 (c.in_err-add_final.ensures.over (met_fault _ p.0 _ _ p.1 p.2 e)))
