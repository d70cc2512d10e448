use Rattle.std.proofs.Common.{◌≡◌, ◌++◌, ◌∙◌, ap, sym, map, string_bytes, true, false}
use Rattle.monomials.specs.Polynomials.{Polynomial}
use Rattle.word_model.specs.Words.{Algebra, c_of, d_of}
use Rattle.word_model.specs.Texts.{polynomial_text}
use Rattle.word_model.specs.RingTexts.{is_commuting}
use Rattle.plural_text.proofs.RelationLines.{other_number, some_rest, line_written}
use Rattle.plural_text.proofs.rings.write_relation.Goals as goal
use Rattle.plural_text.proofs.rings.write_relation.Goals.{else-c-eq1-via-then-c-eq1+else-is_zero, else-c-eq1-via-else-c-eq1}

pub returns : goal.returns
returns c =
    let A : Algebra = c.args.alg.now in
    let other : is_commuting (c_of A c.args.i c.args.j) (d_of A c.args.i c.args.j) ≡ false =
    elim c.else-c-eq1.branch [
      | else-c-eq1-via-then-c-eq1+else-is_zero w ↦
          some_rest (c_of A c.args.i c.args.j) (d_of A c.args.i c.args.j)
          (λ none. let yes : w.is_zero.result ≡ true = w.is_zero.ensures.1 (w.d.ensures ∙ none) in let no : true ≡ false = sym yes ∙ w.if-is_zero.false in cc)
      | else-c-eq1-via-else-c-eq1 w ↦
          other_number (c_of A c.args.i c.args.j) (d_of A c.args.i c.args.j) (λ one. w.if-c-eq1.false (c.c.ensures ∙ one))
    ] in
    line_written A (map string_bytes c.args.names.now) c.args.i c.args.j c.args.text.now.items _ _ _ other
    c.in_ok-write_left_side.ensures
    (c.in_ok-write_polynomial.ensures ∙ ap (λ (f : Polynomial). c.write_left_side.new.text.items ++ polynomial_text A.p (map string_bytes c.args.names.now) f) c.in_ok-right.ensures.value)
    c.in_ok-push.ensures.items
