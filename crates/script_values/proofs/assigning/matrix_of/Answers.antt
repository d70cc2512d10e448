use Rattle.std.proofs.Common.{reverse, sym, subst, ap, ◌∙◌}
use Rattle.std.proofs.lemmas.List.{reverse-reverse}
use Rattle.monomials.specs.Polynomials.{Each}
use Rattle.script_model.specs.Statements.{matrix_rows}
use Rattle.script_values.specs.Values.{ArePolynomials}
use Rattle.script_values.proofs.Assigned.{matrix_rows-of_ring}
use Rattle.script_values.proofs.assigning.matrix_of.Goals as goal

pub returns-clause-of_ring : goal.returns-clause-of_ring
returns-clause-of_ring c = λ A h.
    let made = c.in_ok-matrix_rows.ensures ∙ ap (λ fs. matrix_rows c.args.rows c.args.columns (reverse fs)) c.in_ok-left.ensures
    ∙ ap (matrix_rows c.args.rows c.args.columns) (reverse-reverse c.args.polys) in
    subst (Each (ArePolynomials A)) (sym made) (matrix_rows-of_ring A c.args.rows c.args.columns c.args.polys h)
