use Rattle.gproduct.proofs.tests.keeping.kept_products_are_products.Given as goal

abbrev pub ghosts-agree_in_weyl : goal.ghosts-agree_in_weyl
ghosts-agree_in_weyl g a = record { name = a.blank.name; parts = a.blank.parts }
