use Rattle.word_model.proofs.RunIdeals.{finished_reduced, reduced_decides}
use Rattle.word_model.proofs.groebner.members_have_normal_form_zero.Goals as goal

pub returns : goal.returns
returns c = λ A gens mode budget F f ok well sorted end listed f_is over.
    reduced_decides A ok gens sorted well mode F.list (finished_reduced A ok gens sorted mode budget end well F listed) f f_is over
