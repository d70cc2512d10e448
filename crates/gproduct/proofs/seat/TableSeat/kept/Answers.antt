use Rattle.std.proofs.Common.{◌≡◌, ◌∷◌, [], IfSome, subst}
use Rattle.std.proofs.lemmas.Option.{IfSome_then}
use Rattle.monomials.specs.Polynomials.{IsPolynomial}
use Rattle.word_model.specs.Words.{Algebra}
use Rattle.word_model.specs.Products.{product}
use Rattle.gproduct.specs.Seats.{Seat}
use Rattle.gproduct.proofs.seat.TableSeat.kept.Goals as goal

pub returns-clause-sorted : goal.returns-clause-sorted
returns-clause-sorted c =
    subst (λ (s : Seat). IfSome c.find.result (λ r. IsPolynomial s.algebra.p s.algebra.order r.now)) c.self.view_is
    (IfSome_then c.find.result (c.find.ensures c.self.inside.table.now c.self.invariant.1) (λ r both. both.0))

pub returns-clause-value : goal.returns-clause-value
returns-clause-value c =
    subst (λ (s : Seat). IfSome c.find.result (λ r. r.now ≡ product s.algebra ((1, c.args.mono.now) ∷ []) c.args.f.now)) c.self.view_is
    (IfSome_then c.find.result (c.find.ensures c.self.inside.table.now c.self.invariant.1) (λ r both. both.1))
