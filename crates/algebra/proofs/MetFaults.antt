-- Faults that a call met, and that `?` hands on.
use Rattle.std.proofs.Common.{◌≡◌, Result, Ok, Err, sym, ap, ◌∙◌}

fault_or : {T E : Type 0} → E → Result T E → E
fault_or d (Ok x) = d
fault_or d (Err e) = e

-- the fault that a `?` hands on is the one that it met
pub met_fault : {T U E : Type 0} (r : Result T E) (y x d : E) → r ≡ Err y → y ≡ x → r ≡ Err d → ◌≡◌ {A = Result U E} (Err x) (Err d)
unfolding fault_or
met_fault r y x d r_is y_is e = ap Err (sym y_is ∙ ap (fault_or y) (sym r_is ∙ e))
