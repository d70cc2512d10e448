use Rattle.std.proofs.Common.{◌≡◌, map, take}
use Rattle.gpoly.specs.Terms.{pairs_of}
use Rattle.closed_forms.specs.Forms.{pairs_of as powers_of}
use Rattle.gproduct.proofs.ClosedTerms.{in_variables}
use Rattle.gproduct.proofs.swap.Swap.terms_of.Given as goal

abbrev pub invariant-loop-power : goal.invariant-loop-power
invariant-loop-power l = pairs_of l.terms.items ≡ map (in_variables l.fn.n l.fn.self.i l.fn.self.j) (powers_of (take l.power-index l.powers))
