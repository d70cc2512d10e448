use Rattle.std.proofs.Common.{◌≡◌, [], drop}
use Rattle.monomials.specs.Polynomials.{Each}
use Rattle.word_model.specs.Machine.{IsElement}
use Rattle.gproduct.specs.Seats.{Keeps}
use Rattle.two_sided.specs.Checks.{IsLine, first_answer, lines_values, lines_answers}
use Rattle.two_sided.proofs.lines.elements_of.Given as goal

abbrev pub invariant-loop-line : goal.invariant-loop-line
invariant-loop-line g l = record {
  answers :
      first_answer (lines_answers l.fn.seat.algebra l.gens [] l.lines)
      ≡ first_answer (lines_answers l.fn.seat.algebra l.gens l.basis.items (drop l.line-index l.lines));
  values : lines_values l.fn.seat.algebra l.gens l.basis.items (drop l.line-index l.lines) ≡ lines_values l.fn.seat.algebra l.gens [] l.lines;
  elements : Each (IsElement l.fn.seat.algebra) l.basis.items;
  numbers : Each (IsLine l.fn.seat.algebra) (drop l.line-index l.lines);
  algebra : l.seat.algebra ≡ l.fn.seat.algebra;
  kept : Keeps l.fn.seat l.seat;
}
