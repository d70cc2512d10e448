use Rattle.std.proofs.Common.{◌≡◌, Option, IfSome, subst}
use Rattle.std.proofs.lemmas.List.Elements.{All-pop}
use Rattle.gproduct.specs.declared.kept.KeptProduct.{KeptProduct}
use Rattle.gproduct.specs.Inside.Kept.{IsKept}
use Rattle.gproduct.proofs.kept.spread.Goals as goal

pub loop-slot-preserved-in-Some-slot : goal.loop-slot-preserved-in-Some-slot
loop-slot-preserved-in-Some-slot c A factors are =
    let P : Option KeptProduct → Type 0 = λ slot. IfSome slot (IsKept A factors) in
    let both = All-pop P c.loop-slot.slots.items c.pop.new.self.items c.pop.result c.pop.ensures.items (c.loop-slot.invariant A factors are).0 in
    let is : IsKept A factors c.in-Some-slot.kept = subst P c.in-Some-slot.is (subst (λ r. IfSome r P) c.in-Some.is both.1) in
    (both.0, c.put-before.ensures A factors is (c.loop-slot.invariant A factors are).1)

pub loop-slot-preserved-in-Some-slot-2 : goal.loop-slot-preserved-in-Some-slot-2
loop-slot-preserved-in-Some-slot-2 c A factors are =
    let P : Option KeptProduct → Type 0 = λ slot. IfSome slot (IsKept A factors) in
    let both = All-pop P c.loop-slot.slots.items c.pop.new.self.items c.pop.result c.pop.ensures.items (c.loop-slot.invariant A factors are).0 in
    let is : IsKept A factors c.in-Some-slot.kept = subst P c.in-Some-slot.is (subst (λ r. IfSome r P) c.in-Some.is both.1) in
    (both.0, c.put-before.ensures A factors is (c.loop-slot.invariant A factors are).1)

pub loop-slot-preserved : goal.loop-slot-preserved
loop-slot-preserved c A factors are =
    let P : Option KeptProduct → Type 0 = λ slot. IfSome slot (IsKept A factors) in
    let both = All-pop P c.loop-slot.slots.items c.pop.new.self.items c.pop.result c.pop.ensures.items (c.loop-slot.invariant A factors are).0 in
    (both.0, (c.loop-slot.invariant A factors are).1)
