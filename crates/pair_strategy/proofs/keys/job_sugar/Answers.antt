use Rattle.std.proofs.Common.{length, subst, arith}
use Rattle.word_model.specs.Jobs.{IsJob}
use Rattle.word_model.specs.declared.records.Job.TheVariants.{Right}
use Rattle.word_model.proofs.Sugars.{AreSugars-length}
use Rattle.pair_strategy.proofs.keys.job_sugar.Goals as goal

pub bounds-sugars-i : goal.bounds-sugars-i
bounds-sugars-i g c =
    let G = g.B.Elements.elements c.args.basis.now in
    let numbers : IsJob (length c.args.gens.now) (length G) c.requires.in_range.0 (Right c.in-Right.i c.in-Right.v) =
    subst (IsJob (length c.args.gens.now) (length G) c.requires.in_range.0) c.in-Right.is c.requires.in_range.3 in
    omega (arith, AreSugars-length G c.args.sugars.now c.requires.sugars, numbers.0, numbers.1)
