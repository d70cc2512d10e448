use Rattle.std.proofs.Common.{◌≡◌, ◌+◌, ◌-◌, suc, map, string_bytes, arith, List, ℕ}
use Rattle.word_model.specs.Words.{Algebra}
use Rattle.plural_text.proofs.Joined.{one_more}
use Rattle.plural_text.proofs.Relations.{row_step}
use Rattle.plural_text.proofs.rings.write_relations_of.Goals as goal

pub loop-j-preserved : goal.loop-j-preserved
loop-j-preserved c =
    let A : Algebra = c.args.alg.now in
    let n : ℕ = A.order.vars in
    let j : ℕ = c.loop-j.j in
    let names : List (List ℕ) = map string_bytes c.args.names.now in
    let more : n + 1 - j ≡ suc (n + 1 - (j + 1)) = omega arith in
    record {
      written =
          one_more c.loop-j.text.items c.write_relation.new.text.items _ _ _ _ c.in_ok-write_relation.ensures
          (row_step A names c.args.i j (j + 1) (n + 1 - j) (n + 1 - (j + 1)) (omega arith) more)
          c.loop-j.invariant.written;
      low = omega arith;
    }
