use Rattle.word_model.proofs.OnlyForm.{only_form}
use Rattle.word_model.proofs.laws.only_normal_form.Goals as goal

pub returns : goal.returns
returns c = only_form
