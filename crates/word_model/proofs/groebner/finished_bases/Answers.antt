use Rattle.word_model.proofs.RunIdeals.{same_ideal, finished_basis}
use Rattle.word_model.proofs.TwoSidedBases.{closed_right}
use Rattle.word_model.proofs.groebner.finished_bases.Goals as goal

pub returns : goal.returns
returns c = record {
  basis = λ A gens mode budget ok well sorted end. finished_basis A ok gens sorted mode budget end well;
  ideal = λ A gens mode budget f ok sorted end. same_ideal A ok gens sorted mode budget end f;
  right = λ A gens budget f b ok sorted end b_is h. closed_right A ok gens sorted budget end f b b_is h;
}
