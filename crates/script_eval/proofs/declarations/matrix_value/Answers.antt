use Rattle.std.proofs.Common.{ap, sym, subst, ◌∙◌}
use Rattle.std.specs.Prelude.{IfOk, IfSome}
use Rattle.word_model.specs.Words.{Algebra}
use Rattle.script_model.specs.Environment.{Scope}
use Rattle.script_values.specs.Values.{ArePolynomials, IsValueOf}
use Rattle.script_eval.proofs.declarations.matrix_value.Goals as goal

pub returns-clause-of_ring : goal.returns-clause-of_ring
returns-clause-of_ring g c =
    let R = c.in_ok-ring.ring.now in
    let found = c.in_ok-polys.polys in
    subst (λ o. IfOk c.matrix_of.result (λ v. IfSome o (λ Q. IsValueOf Q.algebra v))) (sym c.in_ok-ring.ensures.here)
    (c.matrix_of.ensures.of_ring R.algebra
    (subst (λ (S : Scope). ArePolynomials S.ring.algebra found) c.scope-scope.ensures c.in_ok-polys.ensures.of_ring))
