use Rattle.std.proofs.Common.{◌≡◌, ◌+◌, ◌-◌, ◌++◌, suc, map, string_bytes, arith, ap, ◌∙◌, List, ℕ}
use Rattle.word_model.specs.Words.{Algebra}
use Rattle.word_model.specs.RingTexts.{relation_row}
use Rattle.plural_text.proofs.Joined.{one_more}
use Rattle.plural_text.proofs.Relations.{lines_step}
use Rattle.plural_text.proofs.rings.write_relations.Goals as goal

pub loop-i-preserved : goal.loop-i-preserved
loop-i-preserved c =
    let A : Algebra = c.args.alg.now in
    let n : ℕ = A.order.vars in
    let i : ℕ = c.loop-i.i in
    let names : List (List ℕ) = map string_bytes c.args.names.now in
    let more : n + 1 - i ≡ suc (n + 1 - (i + 1)) = omega arith in
    let left : n - i ≡ n + 1 - (i + 1) = omega arith in
    record {
      written =
          one_more c.loop-i.text.items c.write_relations_of.new.text.items (relation_row A names i (i + 1) (n + 1 - (i + 1))) _ _ _
          (c.in_ok-write_relations_of.ensures ∙ ap (λ k. c.loop-i.text.items ++ relation_row A names i (i + 1) k) left)
          (lines_step A names i (i + 1) (n + 1 - i) (n + 1 - (i + 1)) (omega arith) more)
          c.loop-i.invariant.written;
      low = omega arith;
    }
