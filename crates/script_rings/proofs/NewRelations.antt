-- What `nc_algebra` is refused by, step after step.
use Rattle.std.proofs.Common.{◌≡◌, ◌∙◌, ℕ, false, List, length, Ok, refl, sym, ap, subst}
use Rattle.monomials.specs.Orders.{RowOrder}
use Rattle.monomials.specs.Polynomials.{Polynomial}
use Rattle.word_model.specs.Words.{Algebra}
use Rattle.script_model.specs.Environment.{Ring}
use Rattle.script_model.specs.Refusals.{◌>>=◌}
use Rattle.script_model.specs.declared.values.Value.{Value}
use Rattle.script_model.specs.Statements.{nc_ring, related, constants_for, entries_for}
use Rattle.script_values.specs.declared.stop.Stop.{Stop}
use Rattle.script_values.specs.Gives.{Stops}
use Rattle.script_values.proofs.Stopping.{stops_before}

abbrev data_of : ℕ → RowOrder → List ℕ → List Polynomial → Algebra
data_of p o c d = record { p = p; order = o; c = c; d = d }

module _ (R : Ring) (v w : Value) (new : R.made ≡ false) where
  begun : nc_ring R v w ≡ (constants_for (length R.names) v >>= λ c. entries_for (length R.names) w >>= λ d. related R c d)
  begun = rw new refl

  pub refused_constants : (e : Stop) → Stops e (constants_for (length R.names) v) → Stops e (nc_ring R v w)
  refused_constants e h = subst (Stops e) (sym begun) (stops_before e (constants_for (length R.names) v) _ h)

  module _ (c : List ℕ) (numbers : constants_for (length R.names) v ≡ Ok c) where
    pub refused_entries : (e : Stop) → Stops e (entries_for (length R.names) w) → Stops e (nc_ring R v w)
    refused_entries e h =
        subst (Stops e) (sym (begun ∙ ap (λ o. o >>= λ c. entries_for (length R.names) w >>= λ d. related R c d) numbers))
        (stops_before e (entries_for (length R.names) w) _ h)

    pub relations_remain : (d : List Polynomial) → entries_for (length R.names) w ≡ Ok d → nc_ring R v w ≡ related R c d
    relations_remain d h =
        begun ∙ ap (λ o. o >>= λ c. entries_for (length R.names) w >>= λ d. related R c d) numbers ∙ ap (λ o. o >>= λ d. related R c d) h

-- the same relations over equal fields and orders
pub same_data : {p q : ℕ} {o r : RowOrder} → p ≡ q → o ≡ r → (c : List ℕ) (d : List Polynomial) → data_of p o c d ≡ data_of q r c d
same_data e f c d = λ t. record { p = e t; order = f t; c = c; d = d }
