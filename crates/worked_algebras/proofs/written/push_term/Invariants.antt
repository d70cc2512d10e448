use Rattle.std.proofs.Common.{◌≡◌, ◌++◌, drop, string_bytes}
use Rattle.worked_algebras.specs.Texts.{exponents_text, term_text}
use Rattle.worked_algebras.proofs.written.push_term.Given as goal

abbrev pub invariant-loop-place : goal.invariant-loop-place
invariant-loop-place l =
    string_bytes l.text ++ exponents_text (drop l.place l.mono) ≡ string_bytes l.fn.text ++ term_text l.fn.coef l.mono
