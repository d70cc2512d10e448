use Rattle.word_model.proofs.TripleRests.{triple_rest_is}
use Rattle.word_model.proofs.laws.triple_rests.Goals as goal

pub returns : goal.returns
returns c = λ A i j k above_one downward low ij jk high. triple_rest_is A above_one downward i j k low ij jk high
