use Rattle.left_reduce.proofs.tests.row_text.Given as goal

-- the ledger of the blank
abbrev pub ghosts-counted_reduction : goal.ghosts-counted_reduction
ghosts-counted_reduction a = record { name = a.blank.name; parts = a.blank.parts }
