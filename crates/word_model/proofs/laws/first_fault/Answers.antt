use Rattle.word_model.proofs.Faults.{first_from-none, first_from-found, relations_fault-none, relations_fault-pair, relations_fault-triple}
use Rattle.word_model.proofs.laws.first_fault.Goals as goal

pub returns : goal.returns
returns c = record {
  passed = first_from-none;
  found = first_from-found;
  none = relations_fault-none;
  pair = relations_fault-pair;
  triple = λ A i j k f pairs. relations_fault-triple A pairs i j k f;
}
