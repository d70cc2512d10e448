use Rattle.std.proofs.Common.{subst}
use Rattle.std.proofs.lemmas.Result.{IfOk-weaker}
use Rattle.replay.specs.Worlds.{first_world}
use Rattle.replay.specs.Shown.{Shows}
use Rattle.replay.proofs.Showing.{first-fits, acts-same}
use Rattle.replay.proofs.world.replay.Goals as goal

pub replayed-requires-clause-fit : goal.replayed-requires-clause-fit
replayed-requires-clause-fit c =
    let world = c.in_ok-world.world in
    let is = c.in_ok-world.ensures in (
      first_world c.args.gens.now,
      is.shows,
      first-fits c.args.alg.now c.args.gens.now c.args.mode c.args.budget world c.n-n.ensures.accepted c.requires.sorted is.algebra is.generators is.mode is.budget,
    )

pub returns-clause-value : goal.returns-clause-value
returns-clause-value c =
    let world = c.in_ok-world.world in
    let is = c.in_ok-world.ensures in
    let fits = first-fits c.args.alg.now c.args.gens.now c.args.mode c.args.budget world c.n-n.ensures.accepted c.requires.sorted is.algebra is.generators is.mode is.budget in
    IfOk-weaker c.replayed.result _ _
    (λ after h. subst (Shows after) (acts-same c.args.alg.now c.args.gens.now c.args.mode c.args.budget world (first_world c.args.gens.now) c.args.events.now is.algebra is.generators is.mode is.budget) (h (first_world c.args.gens.now) is.shows fits))
    c.replayed.ensures

pub returns-clause-sound : goal.returns-clause-sound
returns-clause-sound c = c.every_interleaving.ensures c.args.mode c.args.budget c.args.events.now
