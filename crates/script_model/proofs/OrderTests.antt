-- The test of an order's blocks is what `Order::new` asks of them.
use Rattle.std.proofs.Common.{◌↔◌, ℕ, ◌-◌, ◌<◌, ◌≤◌, ◌&&◌, Bool, true, false, nat_lt, nat_le, IsTrue, All, List, [], ◌∷◌, length, map, refl, arith}
use Rattle.std.specs.List.{list_all}
use Rattle.std.proofs.lemmas.Bool.Decides.{nat_tests}
use Rattle.std.proofs.lemmas.List.Sums.{AllPass-from_list_all, list_all-from_AllPass, sum_by-cons}
use Rattle.monomials.specs.Blocks.{AreWeighted, Covers, HasWeights, IsPart, IsWeight, block_len, is_extra}
use Rattle.monomials.specs.declared.order.Block.{Block}
use Rattle.monomials.specs.declared.order.Block.TheVariants.{Extra, Lex, DegRev, DegLex, WeightRev, WeightLex}
use Rattle.monomials.proofs.Covering.{CoversRest, covers_whole}
use Rattle.script_model.specs.Orders.{is_part, cover, is_weight, has_weights, is_order}

never : {A : Type 0} → IsTrue false → A
never h = absurd (cc h)

both : {A B : Type 0} (a b : Bool) → IsTrue a ↔ A → IsTrue b ↔ B → IsTrue (a && b) ↔ (A × B)
both true b f g = (λ h. (f.0 refl, g.0 h), λ p. g.1 p.1)
both false b f g = (λ h. never h, λ p. never (f.1 p.0))

less : (a b : ℕ) → IsTrue (nat_lt a b) ↔ (a < b)
less a b = (λ h. grind (arith, nat_tests, h), λ h. grind (arith, nat_tests, h))

at_most : (a b : ℕ) → IsTrue (nat_le a b) ↔ (a ≤ b)
at_most a b = (λ h. grind (arith, nat_tests, h), λ h. grind (arith, nat_tests, h))

all : {X : Type 0} (p : X → Bool) (P : X → Type 0) → ((x : X) → IsTrue (p x) ↔ P x) → (xs : List X) → IsTrue (list_all p xs) ↔ All P xs
all p P each xs = (
  λ h. λ k d l. (each _).0 (AllPass-from_list_all p xs h k d l),
  λ h. list_all-from_AllPass p xs (λ k d l. (each _).1 (h k d l)),
)

-- ---- weights

weight : (w : ℕ) → IsTrue (is_weight w) ↔ IsWeight w
weight w = both _ _ (less 0 w) (at_most w 65535)

weights : (b : Block) → IsTrue (has_weights b) ↔ HasWeights b
weights (Extra ws) = all (λ w. nat_le w 65535) (λ w. w ≤ 65535) (λ w. at_most w 65535) ws
weights (WeightRev ws) = all is_weight IsWeight weight ws
weights (WeightLex ws) = all is_weight IsWeight weight ws
weights (Lex len) = (λ h. tt, λ h. refl)
weights (DegRev len) = (λ h. tt, λ h. refl)
weights (DegLex len) = (λ h. tt, λ h. refl)

-- ---- blocks that cover the variables

part : (n : ℕ) (front : Bool) (b : Block) → IsTrue (is_part n front b) ↔ IsPart n front b
part n front (Extra ws) =
    let test = both front (nat_lt 0 (length ws) && nat_le (length ws) n) (λ h. h, λ h. h) (both _ _ (less 0 (length ws)) (at_most (length ws) n)) in
    (λ h. let p = test.0 h in (p.0, p.1.0, p.1.1), λ h. test.1 (h.0, (h.1, h.2)))
part n front (Lex len) = less 0 len
part n front (DegRev len) = less 0 len
part n front (DegLex len) = less 0 len
part n front (WeightRev ws) = less 0 (length ws)
part n front (WeightLex ws) = less 0 (length ws)

covered : (n : ℕ) (front : Bool) (left : ℕ) (blocks : List Block) → IsTrue (cover n front left blocks) ↔ CoversRest n front left blocks
covered n front left [] = (λ h. record { parts = tt; all = grind (arith, nat_tests, h) }, λ h. grind (arith, nat_tests, h.all))
covered n front left (b ∷ bs) =
    let total = sum_by-cons (λ x. x) (block_len b) (map block_len bs) in
    let test = both (is_part n front b) _ (part n front b) (both _ _ (at_most (block_len b) left) (covered n (front && is_extra b) (left - block_len b) bs)) in (
      λ h. let p = test.0 h in record { parts = (p.0, p.1.1.parts); all = omega (arith, p.1.0, p.1.1.all, total) },
      λ h. test.1 (h.parts.0, (omega (arith, h.all, total), record { parts = h.parts.1; all = omega (arith, h.all, total) })),
    )

pub is_order-iff : (n : ℕ) (blocks : List Block) → IsTrue (is_order n blocks) ↔ (Covers n blocks × AreWeighted blocks)
is_order-iff n blocks =
    let whole = covers_whole n blocks in
    let rest = covered n true n blocks in
    both (cover n true n blocks) (list_all has_weights blocks) (λ h. whole.1 (rest.0 h), λ h. rest.1 (whole.0 h)) (all has_weights HasWeights weights blocks)
