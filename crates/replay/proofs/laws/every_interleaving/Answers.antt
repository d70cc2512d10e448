use Rattle.replay.specs.Worlds.{first_world, after_events}
use Rattle.replay.proofs.Worlds.{fit-first, fit-acts, fit-sound}
use Rattle.replay.proofs.laws.every_interleaving.Goals as goal

pub returns : goal.returns
returns c = λ mode budget events. (
    let A = c.args.alg.now in
    let gens = c.args.gens.now in
    let ok = c.n-n.ensures.accepted in
    fit-sound A ok gens c.requires.sorted mode budget (after_events A gens mode budget (first_world gens) events)
    (fit-acts A ok gens c.requires.sorted mode budget (first_world gens) events (fit-first A ok gens c.requires.sorted mode budget))
    )
