use Rattle.std.proofs.Common.{◌≡◌, ◌∙◌, sym, ap, subst, arith}
use Rattle.std.proofs.lemmas.Result.{IfOk-weaker}
use Rattle.word_model.specs.Words.{word_value}
use Rattle.word_model.specs.Conditions.{overlap, triple_rest}
use Rattle.algebra.specs.Inside.WordSums.{words_of, IsPending}
use Rattle.algebra.proofs.OverlapSums.{word_value-reduced, IsPending-reduced, overlap_fits}
use Rattle.algebra.proofs.presentation.Presentation.triple_rest.Goals as goal

pub word_value-requires-clause-pending : goal.word_value-requires-clause-pending
word_value-requires-clause-pending c =
    let a = c.args.self.now in
    subst (IsPending a.p a.order.vars) (sym c.in_ok-words.ensures)
    (IsPending-reduced a.p a.order.vars (overlap a c.args.i c.args.j c.args.k) (omega (arith, c.field-p.ensures.prime.above_one))
    (overlap_fits a c.requires.downward c.args.i c.args.j c.args.k c.requires.first c.requires.second c.requires.third c.requires.last))

pub returns : goal.returns
returns c =
    let a = c.args.self.now in
    let value : word_value a (words_of c.in_ok-words.words.items) ≡ triple_rest a c.args.i c.args.j c.args.k =
    ap (word_value a) c.in_ok-words.ensures ∙ word_value-reduced a c.field-p.ensures.prime.above_one (overlap a c.args.i c.args.j c.args.k) in
    IfOk-weaker c.word_value.result _ _ (λ r is. is ∙ value) c.word_value.ensures.value
