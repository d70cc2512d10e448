use Rattle.std.proofs.Common.{◌≡◌, length, sym, ap, ◌∙◌}
use Rattle.monomials.specs.Monomials.{lcm}
use Rattle.monomials.specs.Leading.{leading_monomial}
use Rattle.word_model.specs.Reduction.{element}
use Rattle.word_model.specs.Jobs.{key_monomial, pair_lcm}
use Rattle.pair_strategy.proofs.Monomials.{pair_job-vars, right-mono, right-vars, same-vars}
use Rattle.pair_strategy.proofs.keys.key_monomial.Goals as goal

pub returns-in-Pair-clause-vars : goal.returns-in-Pair-clause-vars
returns-in-Pair-clause-vars g c = λ n generators elements.
    let G = g.B.Elements.elements c.args.basis.now in
    let first : c.lead-in-Pair.result.now.mono ≡ leading_monomial (element G c.in-Pair.i) = c.lead-in-Pair.ensures.mono ∙ ap leading_monomial c.at.ensures in
    let second : c.lead-in-Pair-2.result.now.mono ≡ leading_monomial (element G c.in-Pair.j) = c.lead-in-Pair-2.ensures.mono ∙ ap leading_monomial c.at-in-Pair.ensures in
    let is : c.lcm.result ≡ pair_lcm G c.in-Pair.i c.in-Pair.j =
    c.lcm.ensures ∙ ap (λ m. lcm m c.lead-in-Pair-2.result.now.mono) first ∙ ap (lcm (leading_monomial (element G c.in-Pair.i))) second in
    ap length is
    ∙ pair_job-vars n G elements (length c.args.gens.now) c.requires.in_range.0 c.args.gens.now c.args.job.now c.requires.in_range.3 c.requires.nonzero c.in-Pair.i c.in-Pair.j c.in-Pair.is

pub returns-in-Right-clause-mono : goal.returns-in-Right-clause-mono
returns-in-Right-clause-mono g c = λ A elements.
    let G = g.B.Elements.elements c.args.basis.now in
    let lead : c.lead-in-Right.result.now.mono ≡ leading_monomial (element G c.in-Right.i) = c.lead-in-Right.ensures.mono ∙ ap leading_monomial c.at-in-Right.ensures in
    right-mono A.order.vars G elements (length c.args.gens.now) c.requires.in_range.0 c.args.gens.now c.args.job.now c.requires.in_range.3 c.requires.nonzero c.in-Right.i c.in-Right.v c.in-Right.is
    c.lead-in-Right.result.now.mono c.len.result c.var.result c.plus.result lead c.len.ensures.length c.var.ensures c.plus.ensures
    ∙ ap (key_monomial A c.args.gens.now G) (sym c.in-Right.is)

pub returns-in-Right-clause-vars : goal.returns-in-Right-clause-vars
returns-in-Right-clause-vars g c = λ n generators elements.
    let G = g.B.Elements.elements c.args.basis.now in
    let k = c.requires.in_range.0 in
    let gens = c.args.gens.now in
    let job = c.args.job.now in
    let lead : c.lead-in-Right.result.now.mono ≡ leading_monomial (element G c.in-Right.i) = c.lead-in-Right.ensures.mono ∙ ap leading_monomial c.at-in-Right.ensures in
    let same : k ≡ n = same-vars n k (length gens) gens G job c.in-Right.i c.in-Right.v elements c.requires.in_range.2 c.requires.in_range.3 c.requires.nonzero c.in-Right.is in
    ap length
    (right-mono n G elements (length gens) k gens job c.requires.in_range.3 c.requires.nonzero c.in-Right.i c.in-Right.v c.in-Right.is
    c.lead-in-Right.result.now.mono c.len.result c.var.result c.plus.result lead c.len.ensures.length c.var.ensures c.plus.ensures)
    ∙ right-vars n G elements (length gens) k gens job c.requires.in_range.3 c.requires.nonzero c.in-Right.i c.in-Right.v c.in-Right.is same
