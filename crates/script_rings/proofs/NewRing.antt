-- What a `ring` statement is refused by, step after step.
use Rattle.std.proofs.Common.{◌≡◌, ℕ, true, false, List, length, nat_lt, Option, Some, None, Ok, Err, refl, ap}
use Rattle.prime_field.specs.Modular.{in_table}
use Rattle.monomials.specs.declared.order.Block.{Block}
use Rattle.plural_syntax.specs.declared.tree.Order.{Order}
use Rattle.script_model.specs.declared.values.Refusal.{Refusal}
use Rattle.script_model.specs.Orders.{blocks_of}
use Rattle.script_model.specs.Statements.{new_ring, ring_of, repeated}
use Rattle.script_values.specs.declared.stop.Stop.{Stop}
use Rattle.script_values.specs.Gives.{Stops}
use Rattle.script_values.proofs.Stopping.{stops_through}
use Rattle.script_rings.specs.Walks.{ordered}

-- what the order is refused by, the ring is
pub refused_order : (e : Stop) (p : ℕ) (names : List (List ℕ)) (o : Option (List Block)) → Stops e (ordered o) → Stops e (ring_of p names o)
refused_order e p names o h = stops_through e (ordered o) (ring_of p names o) (by o) h
  where
    by : (o : Option (List Block)) (r : Refusal) → ordered o ≡ Err r → ring_of p names o ≡ Err r
    by None r h = ap (λ x. elim x [ Ok a ↦ ring_of p names None | Err q ↦ Err q ]) h
    by (Some bs) r h = absurd (cc h)

pub ring_remains : (bytes : List ℕ) (p : ℕ) (names : List (List ℕ)) (o : Order) → in_table p ≡ true → nat_lt 16 (length names) ≡ false → repeated names ≡ None
    → new_ring bytes p names o ≡ ring_of p names (blocks_of bytes (length names) o)
ring_remains bytes p names o table few different = rw (table, few, different) refl
