use Rattle.word_model.proofs.Reductions.{reduce-next, normal_form_by-next, reduce_tail-next, reduce-sorted, normal_form_by-sorted, reduce_tail-sorted}
use Rattle.word_model.proofs.reducing.reductions.Goals as goal

pub returns-clause-reduction : goal.returns-clause-reduction
returns-clause-reduction c A G h ok elements h_is = reduce-next A ok G elements h h_is

pub returns-clause-normal_form : goal.returns-clause-normal_form
returns-clause-normal_form c A G h ok elements h_is = normal_form_by-next A ok G elements h h_is

pub returns-clause-tail : goal.returns-clause-tail
returns-clause-tail c A G h ok elements h_is = reduce_tail-next A ok G elements h h_is

pub returns-clause-rest : goal.returns-clause-rest
returns-clause-rest c A G h ok elements h_is =
    (reduce-sorted A ok G elements h h_is, normal_form_by-sorted A ok G elements h h_is, reduce_tail-sorted A ok G elements h h_is)
