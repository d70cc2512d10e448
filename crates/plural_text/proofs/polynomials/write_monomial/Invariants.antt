use Rattle.std.proofs.Common.{◌≡◌, ◌++◌, map, string_bytes}
use Rattle.word_model.specs.Texts.{monomial_text}
use Rattle.plural_text.proofs.Monomials.{powers_behind, powers_from}
use Rattle.plural_text.proofs.polynomials.write_monomial.Given as goal

abbrev pub invariant-loop-variable : goal.invariant-loop-variable
invariant-loop-variable l =
    l.text.items ++ powers_behind l.is_first (powers_from l.variable (map string_bytes l.names) l.mono)
    ≡ l.initial.text.items ++ monomial_text (map string_bytes l.names) l.mono
