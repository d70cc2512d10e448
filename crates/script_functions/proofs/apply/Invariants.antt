use Rattle.script_functions.proofs.apply.Given as goal

abbrev pub ghosts-counted_apply : goal.ghosts-counted_apply
ghosts-counted_apply g a = record { name = a.blank.name; parts = a.blank.parts }
