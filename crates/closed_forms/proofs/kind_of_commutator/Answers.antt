use Rattle.std.proofs.Common.{◌∙◌, length, refl, ap}
use Rattle.monomials.specs.Monomials.{variable}
use Rattle.closed_forms.proofs.PairKinds.{left_kind}
use Rattle.closed_forms.proofs.kind_of_commutator.Goals as goal

pub returns-then-eq-2 : goal.returns-then-eq-2
returns-then-eq-2 c = λ p kind below.
    left_kind p (length c.args.term.now.mono) c.args.i c.args.j c.requires.first c.requires.ordered c.args.term.now.coef c.args.term.now.mono
    (c.if-eq-2.ensures.same.0 refl ∙ c.var.ensures ∙ ap (λ n. variable n c.args.i) c.len-n.ensures.length)
    c.requires.nonzero below kind
