use Rattle.std.proofs.Common.{◌≡◌, ◌+◌, ◌-◌, ◌≤◌, ◌++◌, map, string_bytes}
use Rattle.word_model.specs.RingTexts.{relation_row}
use Rattle.plural_text.proofs.rings.write_relations_of.Given as goal

abbrev pub invariant-loop-j : goal.invariant-loop-j
invariant-loop-j l = record {
  written :
      l.text.items ++ relation_row l.alg (map string_bytes l.names) l.i l.j (l.alg.order.vars + 1 - l.j)
      ≡ l.fn.text.items ++ relation_row l.alg (map string_bytes l.names) l.i (l.i + 1) (l.alg.order.vars - l.i);
  low : l.i + 1 ≤ l.j;
}
