use Rattle.crew.proofs.desk.Desk.lead.Given as goal

abbrev pub ghosts-led : goal.ghosts-led
ghosts-led g a = record { name = a.blank.name; parts = a.blank.parts }
