use Rattle.left_reduce.proofs.tests.reduces_within_the_degree.Given as goal

-- the ledger of the blank
abbrev pub ghosts-ends : goal.ghosts-ends
ghosts-ends g a = record { name = a.blank.name; parts = a.blank.parts }
