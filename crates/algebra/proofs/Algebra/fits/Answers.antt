use Rattle.std.proofs.Common.{◌≡◌, ◌∙◌, false, true, refl, sym}
use Rattle.gpoly.specs.Terms.{pairs_of}
use Rattle.algebra.proofs.Fitting.{fits_by}
use Rattle.algebra.proofs.Algebra.fits.Goals as goal

pub returns-then-are_terms : goal.returns-then-are_terms
returns-then-are_terms c =
    let A = c.args.self.now in
    let fits = fits_by A.p c.p.result c.n.result A.order c.order.result.now c.args.f.now (pairs_of c.terms-terms.result.now)
    (c.p.ensures.value ∙ c.field.ensures) c.n.ensures.value c.order.ensures c.terms-terms.ensures.value c.terms-terms.ensures.facts in (
      λ t. fits.0 (c.are_terms.ensures.0 c.if-are_terms.true, c.is_falling.ensures.0 t),
      λ h. c.is_falling.ensures.1 (fits.1 h).1,
    )

pub returns-else-are_terms : goal.returns-else-are_terms
returns-else-are_terms c =
    let A = c.args.self.now in
    let fits = fits_by A.p c.p.result c.n.result A.order A.order c.args.f.now (pairs_of c.terms-terms.result.now)
    (c.p.ensures.value ∙ c.field.ensures) c.n.ensures.value refl c.terms-terms.ensures.value c.terms-terms.ensures.facts in (
      λ t. let no : false ≡ true = sym c.if-are_terms.false ∙ t in cc,
      λ h. c.are_terms.ensures.1 (fits.1 h).0,
    )
