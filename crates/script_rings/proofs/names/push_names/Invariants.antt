use Rattle.std.proofs.Common.{◌≡◌, ◌++◌, map, length, string_bytes}
use Rattle.monomials.specs.Polynomials.{Each}
use Rattle.plural_syntax.specs.Words.{text_of}
use Rattle.plural_text.specs.Names.{IsName}
use Rattle.script_rings.proofs.names.push_names.Given as goal

abbrev pub invariant-loop-after : goal.invariant-loop-after
invariant-loop-after l = record {
  named : Each IsName (map (text_of l.bytes) (map (λ a. a.token) l.more));
  whole : map string_bytes l.names.items ++ map (text_of l.bytes) (map (λ a. a.token) l.more)
      ≡ map string_bytes l.fn.names.items ++ map (text_of l.bytes) (map (λ a. a.token) l.fn.more);
}

abbrev pub decreases-loop-after : goal.decreases-loop-after
decreases-loop-after l = length l.more
