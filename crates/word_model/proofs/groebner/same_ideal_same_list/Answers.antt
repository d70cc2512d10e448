use Rattle.word_model.proofs.RunIdeals.{same_lists}
use Rattle.word_model.proofs.groebner.same_ideal_same_list.Goals as goal

pub returns : goal.returns
returns c = λ A gens gens' mode budget budget' F F' ok well sorted sorted' same end end' listed listed'.
    same_lists A ok well gens gens' sorted sorted' mode same budget budget' end end' F F' listed listed'
