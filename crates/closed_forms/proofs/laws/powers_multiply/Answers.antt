use Rattle.closed_forms.proofs.Normal.{normal_form-powers}
use Rattle.closed_forms.proofs.laws.powers_multiply.Goals as goal

pub returns : goal.returns
returns c = normal_form-powers
