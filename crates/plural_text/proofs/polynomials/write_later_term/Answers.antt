use Rattle.std.proofs.Common.{◌≡◌, ℕ, ◌/◌, ◌<◌, ◌≤◌, List, map, string_bytes, ap, ◌∙◌, arith}
use Rattle.std.proofs.lemmas.Result.{on_ok_weaker}
use Rattle.word_model.specs.Texts.{term_text}
use Rattle.gpoly.specs.Terms.{pair_of}
use Rattle.plural_text.proofs.Signs.{with_sign-negative, with_sign-positive, plus_written, none_written}
use Rattle.plural_text.proofs.polynomials.write_later_term.Goals as goal

pub returns : goal.returns
returns c =
    let old : List ℕ = c.args.text.now.items in
    let a : ℕ = c.args.term.now.coef in
    let names : List (List ℕ) = map string_bytes c.args.names.now in
    let term : List ℕ = term_text c.args.field names (pair_of c.args.term.now) in
    let prime = c.p.ensures.prime in
    let half : c.p.result / 2 ≡ c.args.field / 2 = ap (λ n. n / 2) c.p.ensures.value in
    elim c.if-term-p.branch [
      | goal.then-term-p+in_ok-push w ↦
          let lower : a ≤ c.args.field / 2 = omega (arith, half, w.if-term-p.true) in
          let sign = with_sign-positive c.args.field a names c.args.term.now.mono prime.above_one prime.small c.requires.number lower c.requires.names in
          let plus = ap (λ v. v.items) w.text-is ∙ w.in_ok-push.ensures.items in
          on_ok_weaker c.write_term.result (λ e. plus_written old c.if-term-p.text.items c.write_term.new.text.items term _ plus e sign) c.write_term.ensures
      | goal.else-term-p w ↦
          let upper : c.args.field / 2 < a = omega (arith, half, w.if-term-p.false) in
          let sign = with_sign-negative c.args.field a names c.args.term.now.mono prime.above_one c.requires.number upper in
          let same = ap (λ v. v.items) w.text-is in
          on_ok_weaker c.write_term.result (λ e. none_written old c.if-term-p.text.items c.write_term.new.text.items term _ same e sign) c.write_term.ensures
    ]
