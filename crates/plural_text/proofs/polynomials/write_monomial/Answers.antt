use Rattle.std.proofs.Common.{◌≡◌, ◌<◌, ◌++◌, map, length, string_bytes, ℕ, ◌+◌, ◌-◌, List, [], get_or, arith, ap, sym, ◌∙◌, refl}
use Rattle.std.proofs.lemmas.List.{length-map, get_or-map}
use Rattle.word_model.specs.Texts.{power_text, monomial_text}
use Rattle.plural_text.proofs.Monomials.{powers_from, power_skipped, power_next, first_written, next_written}
use Rattle.plural_text.proofs.polynomials.write_monomial.Goals as goal

pub loop-variable-preserved : goal.loop-variable-preserved
loop-variable-preserved c =
    let v : ℕ = c.loop-variable.variable in
    let names : List (List ℕ) = map string_bytes c.args.names.now in
    let there : v < length c.args.mono.now = omega (arith, c.loop-variable-test.true, c.len-variable-end.ensures.length) in
    let named : v < length names = omega (arith, there, c.requires.count) in
    let place : v ≡ v + 1 - 1 = omega arith in
    let is : get_or c.args.mono.now v 0 ≡ c.get-exponent.result =
    ap (λ k. get_or c.args.mono.now k 0) place ∙ sym c.get-exponent.ensures in
    let text : List ℕ = c.loop-variable.text.items in
    let power : List ℕ = power_text (get_or names v []) c.get-exponent.result in
    let powers : List (List ℕ) = powers_from (v + 1) names c.args.mono.now in
    let whole : List ℕ = c.args.text.now.items ++ monomial_text names c.args.mono.now in
    let before = c.loop-variable.invariant in
    elim c.if-exponent-gt0.branch [
      | goal.then-exponent-gt0+in_ok-write_power w ↦
          let next = power_next names c.args.mono.now v c.get-exponent.result named there is w.if-exponent-gt0.true in
          let written = w.in_ok-write_power.ensures in
          let name = get_or-map string_bytes c.args.names.now v w.index-names-variable.result [] (omega (arith, named, length-map c.args.names.now string_bytes)) in
          let its_name = name ∙ (ap string_bytes (sym w.index-names-variable.is) ∙ sym w.deref.ensures) in
          elim w.if-not-is_first.branch [
            | goal.then-not-is_first+in_ok-push w' ↦
                rw (w.text-is, w.is_first-is) (next_written text w.write_power.new.text.items power whole powers (written ∙ rw (w'.text-is, w'.in_ok-push.ensures.items, its_name) refl) (rw (w'.if-not-is_first.true, next) at before))
            | goal.else-not-is_first w' ↦
                rw (w.text-is, w.is_first-is) (first_written text w.write_power.new.text.items power whole powers (written ∙ rw (w'.text-is, its_name) refl) (rw (w'.if-not-is_first.false, next) at before))
          ]
      | goal.else-exponent-gt0 w ↦
          let none : get_or c.args.mono.now v 0 ≡ 0 = is ∙ omega arith in
          rw (w.text-is, w.is_first-is, sym (power_skipped names c.args.mono.now v named there none)) before
    ]
