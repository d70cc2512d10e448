use Rattle.gproduct.proofs.tests.products.holds.Given as goal

abbrev pub ghosts-product : goal.ghosts-product
ghosts-product a = record { name = a.blank.name; parts = a.blank.parts }
