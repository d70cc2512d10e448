use Rattle.plural_text.proofs.certificates.chain_text.Given as goal

-- the ledger of the blank
abbrev pub ghosts-write_lines : goal.ghosts-write_lines
ghosts-write_lines a = record { name = a.blank.name; parts = a.blank.parts }
