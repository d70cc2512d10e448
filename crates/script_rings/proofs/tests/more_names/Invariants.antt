use Rattle.std.proofs.Common.{map, length}
use Rattle.monomials.specs.Polynomials.{Each}
use Rattle.plural_syntax.specs.Words.{text_of}
use Rattle.plural_text.specs.Names.{IsName}
use Rattle.script_rings.proofs.tests.more_names.Given as goal

abbrev pub invariant-loop-after : goal.invariant-loop-after
invariant-loop-after l =
    Each IsName (map (text_of l.bytes) (map (λ a. a.token) l.left)) → Each IsName (map (text_of l.bytes) (map (λ a. a.token) l.more))

abbrev pub decreases-loop-after : goal.decreases-loop-after
decreases-loop-after l = length l.left
