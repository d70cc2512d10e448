use Rattle.std.proofs.Common.{◌≡◌, ◌++◌, map, drop, string_bytes}
use Rattle.monomials.specs.Polynomials.{Each}
use Rattle.word_model.specs.CertificateTexts.{steps_text}
use Rattle.plural_text.specs.Writable.{IsTermOf}
use Rattle.plural_text.proofs.certificates.write_steps.Given as goal

abbrev pub invariant-loop-step : goal.invariant-loop-step
invariant-loop-step l = record {
  written :
      l.text.items ++ steps_text l.alg.p (map string_bytes l.names) (drop l.step-index l.made)
      ≡ l.fn.text.items ++ steps_text l.alg.p (map string_bytes l.names) l.made;
  terms : Each (IsTermOf l.alg) (drop l.step-index l.made);
}
