use Rattle.std.proofs.Common.{◌≡◌, ◌<◌, ◌++◌, length, map, take, drop, get_or, set, ap, ◌∙◌, arith}
use Rattle.std.proofs.lemmas.List.{length-set}
use Rattle.monomials.specs.Orders.{order_cmp}
use Rattle.gpoly.specs.Inside.Leads.{without}
use Rattle.gpoly.proofs.Gathered.{at_next, set_next}
use Rattle.gpoly.proofs.buckets.Buckets.take_off.Goals as goal

pub loop-k-preserved : goal.loop-k-preserved
loop-k-preserved c =
    let bs = c.self.inside.buckets.items in
    let k = c.loop-k.k in
    let b = c.index_mut.result.now in
    let w = without (order_cmp c.args.order.now.rows) c.args.mono.now in
    let inside : k < length bs = omega (arith, c.loop-k-test.true, c.len-k-end.ensures) in
    let here : b ≡ get_or bs k b = c.index_mut.ensures.value ∙ ap (λ xs. get_or xs k b) c.loop-k.invariant.items ∙ at_next w bs k b inside in
    record {
      items =
          (λ j. set (c.loop-k.invariant.items j) k (c.take_off.ensures j))
          ∙ ap (λ x. set (map w (take k bs) ++ drop k bs) k (w x)) here
          ∙ set_next w bs k b inside;
      length = length-set c.loop-k.self-inside.buckets.items k c.take_off.new.self ∙ c.loop-k.invariant.length;
    }
