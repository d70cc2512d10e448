use Rattle.std.proofs.Common.{◌≡◌, ℕ, zero, suc, false, replicate, slice_index_or, refl}
use Rattle.crew.proofs.compared.Compared.none.Goals as goal

no_mark : (n k : ℕ) → slice_index_or (replicate n false) k false ≡ false
no_mark zero k = refl
no_mark (suc n) zero = refl
no_mark (suc n) (suc k) = no_mark n k

pub returns : goal.returns
returns c = no_mark 2048
