-- Maps by names.
use Rattle.std.proofs.Common.{◌≡◌, ℕ, List, [], ◌∷◌, Some, cond, refl, sym, ap, subst}
use Rattle.std.specs.Prelude.{All}
use Rattle.std.specs.Global.{Vec}
use Rattle.std.specs.Ordering.{nat_cmp}
use Rattle.std.specs.Cmp.Lexicographic.{slice_cmp}
use Rattle.std.specs.List.{IsAmong}
use Rattle.std.specs.Map.{lookup}
use Rattle.std.specs.BTreeMap.{is_at, insert_entry}
use Rattle.std.specs.declared.cmp.Ordering.{Ordering}
use Rattle.std.specs.declared.cmp.Ordering.TheVariants.{Less, Equal, Greater}
use Rattle.std.specs.Ordering.{match_ordering}
use Rattle.script_model.specs.Environment.{Text, find, put}
use Rattle.script_values.specs.Kept.{entries_of}

pub find_kept : {A : Type 0} (name : Text) (entries : List (Vec ℕ × A)) → lookup (is_at (λ k. slice_cmp nat_cmp name k.items)) entries ≡ find name (entries_of entries)
find_kept name [] = refl
find_kept name (e ∷ entries) = ap (cond (is_at (λ (k : Vec ℕ). slice_cmp nat_cmp name k.items) e.0) (Some e.1)) (find_kept name entries)

-- what holds of all holds of one of them
pub All_among : {X : Type 0} (P : X → Type 0) (xs : List X) (x : X) → All P xs → IsAmong xs x → P x
All_among P xs x all among = subst P (sym among.1.1) (all among.0 x among.1.0)

at_order : {A : Type 0} (o : Ordering) (a b c : List (Vec ℕ × A)) (d : List (Text × A)) → entries_of c ≡ d → entries_of (match_ordering o a b c) ≡ match_ordering o (entries_of a) (entries_of b) d
at_order Less a b c d e = refl
at_order Equal a b c d e = refl
at_order Greater a b c d e = e

pub put_kept : {A : Type 0} (k : Vec ℕ) (a : A) (entries : List (Vec ℕ × A)) → entries_of (insert_entry (λ x y. slice_cmp nat_cmp x.items y.items) entries k a) ≡ put k.items a (entries_of entries)
put_kept k a [] = refl
put_kept k a (e ∷ entries) =
    at_order (slice_cmp nat_cmp k.items e.0.items) ((k, a) ∷ e ∷ entries) ((e.0, a) ∷ entries) (e ∷ insert_entry (λ x y. slice_cmp nat_cmp x.items y.items) entries k a) _
    (ap (λ es. (e.0.items, e.1) ∷ es) (put_kept k a entries))
