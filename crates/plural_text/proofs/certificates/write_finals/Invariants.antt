use Rattle.std.proofs.Common.{◌≡◌, ◌++◌, ◌+◌, map, drop, string_bytes}
use Rattle.monomials.specs.Polynomials.{Each}
use Rattle.word_model.specs.CertificateTexts.{finals_text}
use Rattle.plural_text.specs.Writable.{IsTermOf}
use Rattle.plural_text.proofs.certificates.write_finals.Given as goal

abbrev pub invariant-loop-place : goal.invariant-loop-place
invariant-loop-place l = record {
  written :
      l.text.items ++ finals_text l.alg.p (map string_bytes l.names) (l.place + 1) (drop l.place l.origin) (drop l.place l.tails)
      ≡ l.fn.text.items ++ finals_text l.alg.p (map string_bytes l.names) 1 l.origin l.tails;
  terms : Each (Each (IsTermOf l.alg)) (drop l.place l.tails);
}
