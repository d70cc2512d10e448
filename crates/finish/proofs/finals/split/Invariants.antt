use Rattle.std.proofs.Common.{◌≡◌, ◌++◌, length, map}
use Rattle.std.specs.Vec.Iter.{into_iter_items, into_iter_len}
use Rattle.word_model.specs.Finished.{Final}
use Rattle.finish.proofs.finals.split.Given as goal

abbrev pub invariant-loop-item : goal.invariant-loop-item
invariant-loop-item l =
    (l.list.items ++ map (λ (x : Final). x.polynomial) (into_iter_items l.item-iterator) ≡ map (λ (x : Final). x.polynomial) l.fn.finals.items)
    × (l.origin.items ++ map (λ (x : Final). x.origin) (into_iter_items l.item-iterator) ≡ map (λ (x : Final). x.origin) l.fn.finals.items)
    × (l.tails.items ++ map (λ (x : Final). x.tail) (into_iter_items l.item-iterator) ≡ map (λ (x : Final). x.tail) l.fn.finals.items)
    × (into_iter_len l.item-iterator ≡ length (into_iter_items l.item-iterator))
