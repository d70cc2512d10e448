use Rattle.script_eval.proofs.declarations.entries.Goals as goal

pub returns-clause-of_ring : goal.returns-clause-of_ring
returns-clause-of_ring g c = c.all_polys.ensures.of_ring c.args.scope.now.ring.algebra c.in_ok-found.ensures.of_ring
