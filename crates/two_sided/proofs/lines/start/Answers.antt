use Rattle.std.proofs.Common.{◌-◌, ◌<◌, length, refl, ◌∙◌, subst, arith}
use Rattle.std.proofs.lemmas.List.{get_or_read_under}
use Rattle.monomials.specs.Polynomials.{IsPolynomial}
use Rattle.monomials.proofs.Keys.{Each-weaker}
use Rattle.word_model.specs.Jobs.{IsJob}
use Rattle.word_model.specs.Machine.{IsElement}
use Rattle.left_reduce.proofs.Starts.{start-seed}
use Rattle.two_sided.proofs.LineTests.{names_nonzero}
use Rattle.two_sided.proofs.lines.start.Goals as goal

pub returns-in-Seed-clause-value : goal.returns-in-Seed-clause-value
returns-in-Seed-clause-value g c =
    let gens = c.args.gens.now in
    let G = c.args.basis.now.items in
    let range = subst (IsJob (length gens) (length G) c.args.seat.now.algebra.order.vars) c.in-Seed.is c.requires.in_range in
    let below : c.in-Seed.s - 1 < length gens = omega (arith, range.0, range.1) in
    start-seed c.args.seat.now.algebra gens G c.args.job.now c.in-Seed.s c.in_ok-copy.field-0 c.in-Seed.is
    (c.in_ok-copy.ensures ∙ get_or_read_under gens (c.in-Seed.s - 1) (length gens) c.index-gens-s.result _ c.index-gens-s.is below refl)

pub start_of-requires : goal.start_of-requires
start_of-requires g c =
    let A = c.args.seat.now.algebra in
    record {
      generators = c.requires.generators;
      sorted = Each-weaker (IsElement A) (IsPolynomial A.p A.order) (λ f e. e.0) c.args.basis.now.items c.requires.elements;
      in_range = c.requires.in_range;
      nonzero = names_nonzero A c.args.gens.now c.args.basis.now.items c.args.job.now c.requires.elements c.requires.in_range c.in_default.not-Seed;
    }
