use Rattle.std.proofs.Common.{◌≡◌, ◌+◌, ◌-◌, ◌≤◌, ◌++◌, map, string_bytes}
use Rattle.word_model.specs.RingTexts.{relation_lines}
use Rattle.plural_text.proofs.rings.write_relations.Given as goal

abbrev pub invariant-loop-i : goal.invariant-loop-i
invariant-loop-i l = record {
  written :
      l.text.items ++ relation_lines l.alg (map string_bytes l.names) l.i (l.alg.order.vars + 1 - l.i)
      ≡ l.fn.text.items ++ relation_lines l.alg (map string_bytes l.names) 1 l.alg.order.vars;
  low : 1 ≤ l.i;
}
