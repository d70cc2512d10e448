use Rattle.std.proofs.Common.{drop, sym, ap, ◌∙◌, subst}
use Rattle.std.proofs.lemmas.List.{drop-map, take_rest}
use Rattle.gpoly.specs.Terms.{pair_of, pairs_of, IsTermList}
use Rattle.gpoly.proofs.Gathered.{IsTermList-drop}
use Rattle.gpoly.proofs.buckets.Bucket.terms.Goals as goal

pub returns : goal.returns
returns c = record {
  value =
      ap pairs_of (take_rest c.terms.result.now c.self.inside.taken)
      ∙ sym (drop-map pair_of c.self.inside.taken c.terms.result.now)
      ∙ ap (drop c.self.inside.taken) c.terms.ensures.value
      ∙ c.self.view_is;
  facts = subst IsTermList c.self.view_is (IsTermList-drop c.self.inside.taken c.self.inside.poly c.terms.ensures.facts);
}
