use Rattle.std.proofs.Common.{◌≡◌, ◌<◌, ◌≤◌, ◌==◌, length, drop, map, string_bytes}
use Rattle.std.specs.List.{slice_split}
use Rattle.monomials.specs.Monomials.{degree}
use Rattle.gpoly.specs.Terms.{pair_of}
use Rattle.plural_text.specs.Readings.{read_product, times_factors}
use Rattle.plural_text.proofs.reading.read_product.Given as goal

-- what is left of the factors goes on with the term so far
abbrev pub invariant-loop-factor : goal.invariant-loop-factor
invariant-loop-factor l = record {
  number : l.term.coef < l.field;
  vars : length l.term.mono ≡ length l.names;
  small : degree l.term.mono ≤ 4095;
  value : read_product l.field (map string_bytes l.names) l.text
      ≡ times_factors l.field (map string_bytes l.names) (pair_of l.term) (drop (length l.yielded) (slice_split (λ b. b == 42) l.text));
}
