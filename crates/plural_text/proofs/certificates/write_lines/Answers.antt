use Rattle.std.proofs.Common.{rules, ◌≡◌, ◌<◌, ◌++◌, ◌+◌, suc, ◌∷◌, map, drop, length, string_bytes, refl, sym, ap, ◌∙◌, subst, arith}
use Rattle.std.proofs.lemmas.List.{drop_more}
use Rattle.monomials.specs.Polynomials.{Each}
use Rattle.word_model.specs.CertificateTexts.{line_text, lines_text}
use Rattle.plural_text.specs.Writable.{IsLineOf}
use Rattle.plural_text.proofs.Joined.{one_more}
use Rattle.plural_text.proofs.certificates.write_lines.Goals as goal

-- src/certificates.rt:74:5
pub loop-index-preserved : goal.loop-index-preserved
loop-index-preserved g c =
    let i = c.loop-index.index in
    let lines = c.args.lines.now in
    let line = c.index-lines-index.result in
    let names = map string_bytes c.args.names.now in
    let basis = c.args.basis.now in
    let alg = c.args.alg.now in
    let below : i < length lines = c.loop-index-test.true in
    let split : drop i lines ≡ line ∷ drop (i + 1) lines = drop_more lines i line below ∙ ap (λ l. l ∷ drop (i + 1) lines) (sym c.index-lines-index.is) in
    let next : suc (i + 1) ≡ i + 1 + 1 = omega arith in
    let added : c.write_line.new.text.items ≡ c.loop-index.text.items ++ line_text alg names basis (i + 1) line =
    c.in_ok-write_line.ensures.value ∙ ap (λ A. c.loop-index.text.items ++ line_text A names basis (i + 1) line) c.loop-index.invariant.algebra in
    record {
      written = one_more c.loop-index.text.items c.write_line.new.text.items
          (line_text alg names basis (i + 1) line)
          (lines_text alg names basis (i + 1 + 1) (drop (i + 1) lines))
          (lines_text alg names basis (i + 1) (drop i lines)) _
          added
          (ap (lines_text alg names basis (i + 1)) split ∙ ap (λ k. line_text alg names basis (i + 1) line ++ lines_text alg names basis k (drop (i + 1) lines)) next)
          c.loop-index.invariant.written;
      each = search rules;
      algebra = c.write_line.ensures.algebra ∙ c.loop-index.invariant.algebra;
    }
