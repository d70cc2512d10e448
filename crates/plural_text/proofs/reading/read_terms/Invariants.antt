use Rattle.std.proofs.Common.{◌≡◌, ◌≢◌, ◌≤◌, [], ◌++◌, length, map, string_bytes}
use Rattle.monomials.specs.Monomials.{degree}
use Rattle.monomials.specs.Polynomials.{Polynomial, Each, HasNumbers, HasVars}
use Rattle.gpoly.specs.Terms.{pairs_of}
use Rattle.plural_text.specs.Spelling.{Spells}
use Rattle.plural_text.proofs.Rests.{IsRest}
use Rattle.plural_text.proofs.reading.read_terms.Given as goal

-- the terms so far are the first ones of each polynomial other than 0 with this text, and its others are left
abbrev pub invariant-loop-rest : goal.invariant-loop-rest
invariant-loop-rest l = record {
  numbers : HasNumbers l.alg.p (pairs_of l.terms.items);
  vars : HasVars l.alg.order.vars (pairs_of l.terms.items);
  small : Each (λ t. degree t.1 ≤ 4095) (pairs_of l.terms.items);
  read : (f : Polynomial) → Spells l.alg.p l.alg.order (map string_bytes l.names) l.bytes f → f ≢ []
      → (g : Polynomial) × (f ≡ pairs_of l.terms.items ++ g) × IsRest l.alg.p (map string_bytes l.names) l.rest g;
}

abbrev pub decreases-loop-rest : goal.decreases-loop-rest
decreases-loop-rest l = length l.rest
