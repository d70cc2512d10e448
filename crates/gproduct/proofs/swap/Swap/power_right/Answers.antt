use Rattle.std.proofs.Common.{[], ◌∷◌, ◌++◌, replicate, ap, ◌∙◌, arith}
use Rattle.std.proofs.lemmas.Result.{IfOk-weaker}
use Rattle.monomials.specs.Monomials.{degree}
use Rattle.word_model.specs.Words.{Algebra, monomial_of}
use Rattle.gproduct.proofs.LetterValue.{raised_none}
use Rattle.gproduct.proofs.TwoPowers.{degree-powers}
use Rattle.gproduct.proofs.swap.Swap.power_right.Goals as goal

pub returns : goal.returns
returns c =
    let A : Algebra = c.args.alg.now in
    let w = replicate c.args.self.b c.args.self.i ++ replicate 0 c.args.self.j in
    let mono = c.monomial.ensures ∙ ap (λ n. monomial_of n w) c.n.ensures.value in
    IfOk-weaker c.of_term.result _ _ (λ r is. is ∙ ap (λ m. (1, m) ∷ []) mono ∙ raised_none A c.n.ensures.accepted c.args.self c.requires) c.of_term.ensures

pub of_term-requires-clause-small : goal.of_term-requires-clause-small
of_term-requires-clause-small c =
    let size = degree-powers c.args.self.i c.args.self.j c.args.self.b 0 c.requires.first c.requires.ordered c.n.result (omega (arith, c.n.ensures.value, c.requires.last)) in
    omega (arith, ap degree c.monomial.ensures, size, c.requires.reach)
