use Rattle.std.proofs.Common.{ap, ◌∙◌, arith}
use Rattle.monomials.specs.Monomials.{degree}
use Rattle.gproduct.proofs.TwoPowers.{exponents_are, degree-powers}
use Rattle.gproduct.proofs.swap.Swap.monomial.Goals as goal

pub of-requires-clause-small : goal.of-requires-clause-small
of-requires-clause-small c =
    let exponents = exponents_are c.args.self.i c.args.self.j c.args.x c.args.y c.requires.first c.requires.ordered 16 c.args.n c.requires.last c.requires.few in
    let is = degree-powers c.args.self.i c.args.self.j c.args.x c.args.y c.requires.first c.requires.ordered c.args.n c.requires.last in
    rw (c.from.ensures, c.from-2.ensures) (omega (arith, ap degree exponents, is, c.requires.small))

pub returns : goal.returns
returns c =
    c.of.ensures
    ∙ rw (c.from.ensures, c.from-2.ensures) (exponents_are c.args.self.i c.args.self.j c.args.x c.args.y c.requires.first c.requires.ordered 16 c.args.n c.requires.last c.requires.few)
