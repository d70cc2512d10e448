use Rattle.std.proofs.Common.{sym, subst}
use Rattle.std.proofs.lemmas.Result.{IfOk-weaker}
use Rattle.word_model.specs.Bases.{RunLaws}
use Rattle.crew.proofs.engines.ByEngine.basis.Goals as goal

pub returns-clause-value : goal.returns-clause-value
returns-clause-value g c =
    (c.requires.ready c.args.alloc c.args.alg c.args.gens c.args.mode c.args.budget c.requires.sorted c.requires.few c.requires.some).1 c.run.result c.run.ensures

pub returns-clause-run : goal.returns-clause-run
returns-clause-run g c =
    IfOk-weaker c.run.result _ (RunLaws c.args.alg.now c.args.mode c.args.gens.now)
    (λ j made. subst (RunLaws c.args.alg.now c.args.mode c.args.gens.now) (sym made) (c.runs_have_laws.ensures c.args.mode c.args.budget))
    ((c.requires.ready c.args.alloc c.args.alg c.args.gens c.args.mode c.args.budget c.requires.sorted c.requires.few c.requires.some).1 c.run.result c.run.ensures)
