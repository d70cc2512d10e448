use Rattle.uses.proofs.tests.uncounted_membership.Given as goal

-- the ledger of the blank
abbrev pub ghosts-membership : goal.ghosts-membership
ghosts-membership a = record { name = a.blank.name; parts = a.blank.parts }
