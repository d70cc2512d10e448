use Rattle.std.proofs.Common.{◌≡◌}
use Rattle.crew.proofs.tests.sealing.lead_of.Given as goal

-- seat and lead are of the algebra
abbrev pub invariant-loop-turn : goal.invariant-loop-turn
invariant-loop-turn l = (l.seat.algebra ≡ l.fn.alg) × (l.lead.algebra ≡ l.fn.alg)

-- the ledger of the blank
abbrev pub ghosts-commit : goal.ghosts-commit
ghosts-commit a = record { name = a.blank.name; parts = a.blank.parts }
