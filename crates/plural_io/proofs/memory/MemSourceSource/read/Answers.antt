use Rattle.std.proofs.Common.{◌≡◌, ◌<◌, ◌-◌, ap, sym, take, drop, length, arith}
use Rattle.std.proofs.lemmas.Bool.Decides.{nat_tests}
use Rattle.std.proofs.lemmas.List.{take_rest, drop-drop}
use Rattle.plural_io.proofs.Told.{has_next}
use Rattle.plural_io.proofs.memory.MemSourceSource.read.Goals as goal

-- the buffer begins with the first n of the bytes left
pub returns-clause-answer : goal.returns-clause-answer
returns-clause-answer c =
    let at = c.self.inside.at in
    let n = c.min-n.result in
    let bytes = c.self.inside.bytes.items in
    let left : take (length c.deref-2.result.now - at) (drop at c.deref-2.result.now) ≡ drop at bytes =
    rw c.deref-2.ensures.value (take_rest bytes at) in
    let long = ap length left in
    let is = ap (λ s. s.left) (sym c.self.view_is) in
    let rests = sym (drop-drop n at bytes) in
    let copied : c.copy_from_slice.new.self ≡ take n (drop at bytes) =
    rw (← left) c.copy_from_slice.ensures.after in
    let some : 0 < length (drop at bytes) = grind (arith, nat_tests, c.if-is_empty.ensures, long) in
    has_next (drop at bytes) _ _ _ _ n _ is rests copied (omega arith) (omega arith) (λ room. omega arith)
