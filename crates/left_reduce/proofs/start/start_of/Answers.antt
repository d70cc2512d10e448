use Rattle.std.proofs.Common.{◌≡◌, ◌-◌, ◌<◌, Some, length, refl, sym, ap, ◌∙◌, subst, arith}
use Rattle.std.proofs.lemmas.List.{get_or_read_under}
use Rattle.word_model.specs.Products.{product, variable_polynomial, in_reach}
use Rattle.word_model.specs.Jobs.{start_of, s_polynomial, both_within, IsJob}
use Rattle.left_reduce.proofs.Starts.{with_fact, start-seed, start-pair, start-pair_over, start-right, start-right_over}
use Rattle.left_reduce.proofs.start.start_of.Goals as goal

pub returns-in_ok-copy-in-Seed-clause-value : goal.returns-in_ok-copy-in-Seed-clause-value
returns-in_ok-copy-in-Seed-clause-value g c =
    let gens = c.args.gens.now in
    let G = g.B.Elements.elements c.args.basis.now in
    let range = subst (IsJob (length gens) (length G) c.args.seat.now.algebra.order.vars) c.in-Seed.is c.requires.in_range in
    let below : c.in-Seed.s - 1 < length gens = omega (arith, range.0, range.1) in
    start-seed c.args.seat.now.algebra gens G c.args.job.now c.in-Seed.s c.in_ok-copy-in-Seed.field-0 c.in-Seed.is
    (c.in_ok-copy-in-Seed.ensures ∙ get_or_read_under gens (c.in-Seed.s - 1) (length gens) c.index-gens-s.result _ c.index-gens-s.is below refl)

pub returns-in-Pair-clause-value : goal.returns-in-Pair-clause-value
returns-in-Pair-clause-value g c =
    let a = c.args.seat.now.algebra in
    let gens = c.args.gens.now in
    let G = g.B.Elements.elements c.args.basis.now in
    with_fact c.s_polynomial.result _ _ (λ h. start_of a gens G c.args.job.now ≡ Some h) c.s_polynomial.ensures.within c.s_polynomial.ensures.value
    (λ within h is.
    start-pair a gens G c.args.job.now c.in-Pair.i c.in-Pair.j h c.in-Pair.is
    ((λ k. both_within (sym c.at.ensures k) (sym c.at-in-Pair.ensures k)) ∙ within)
    (is ∙ (λ k. s_polynomial a (c.at.ensures k) (c.at-in-Pair.ensures k))))

pub returns-in-Pair-clause-over : goal.returns-in-Pair-clause-over
returns-in-Pair-clause-over g c =
    λ e. start-pair_over c.args.seat.now.algebra c.args.gens.now (g.B.Elements.elements c.args.basis.now) c.args.job.now c.in-Pair.i c.in-Pair.j c.in-Pair.is
    ((λ k. both_within (sym c.at.ensures k) (sym c.at-in-Pair.ensures k)) ∙ c.s_polynomial.ensures.over e)

pub returns-in-Right-clause-value : goal.returns-in-Right-clause-value
returns-in-Right-clause-value g c =
    let a = c.args.seat.now.algebra in
    let gens = c.args.gens.now in
    let G = g.B.Elements.elements c.args.basis.now in
    let x = variable_polynomial a c.in-Right.v in
    with_fact c.right_times.result _ _ (λ h. start_of a gens G c.args.job.now ≡ Some h) c.right_times.ensures.within c.right_times.ensures.value
    (λ within h is.
    start-right a gens G c.args.job.now c.in-Right.i c.in-Right.v h c.in-Right.is
    (ap (λ f. in_reach f x) (sym c.at-in-Right.ensures) ∙ within)
    (is ∙ ap (λ f. product a f x) c.at-in-Right.ensures))

pub returns-in-Right-clause-over : goal.returns-in-Right-clause-over
returns-in-Right-clause-over g c =
    let a = c.args.seat.now.algebra in
    λ e. start-right_over a c.args.gens.now (g.B.Elements.elements c.args.basis.now) c.args.job.now c.in-Right.i c.in-Right.v c.in-Right.is
    (ap (λ f. in_reach f (variable_polynomial a c.in-Right.v)) (sym c.at-in-Right.ensures) ∙ c.right_times.ensures.over e)
