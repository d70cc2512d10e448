use Rattle.std.proofs.Common.{◌≡◌, ◌≤◌, length}
use Rattle.monomials.specs.Polynomials.{Each}
use Rattle.word_model.specs.Finished.{Final}
use Rattle.word_model.specs.Machine.{IsElement}
use Rattle.gproduct.specs.Seats.{Keeps}
use Rattle.finish.proofs.Finishing.{has_finals}
use Rattle.finish.proofs.finals.ascending.Given as goal

abbrev pub invariant-loop-place : goal.invariant-loop-place
invariant-loop-place g l =
    has_finals l.fn.seat.algebra (g.E.Elements.elements l.elements) l.place l.finals.items
    × Each (λ (x : Final). IsElement l.fn.seat.algebra x.polynomial) l.finals.items
    × (l.place ≤ length (g.E.Elements.elements l.elements))
    × (l.seat.algebra ≡ l.fn.seat.algebra)
    × Keeps l.fn.seat l.seat
