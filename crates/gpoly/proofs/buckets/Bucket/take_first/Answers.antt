use Rattle.std.proofs.Common.{drop, sym, ap, ◌∙◌}
use Rattle.std.proofs.lemmas.List.{drop-drop}
use Rattle.gpoly.proofs.buckets.Bucket.take_first.Goals as goal

pub returns-then-self-terms : goal.returns-then-self-terms
returns-then-self-terms c = sym (drop-drop 1 c.self.inside.taken c.self.inside.poly) ∙ ap (drop 1) c.self.view_is
