use Rattle.path_tests.proofs.tests.an_arc_that_raises_nothing_takes_four_steps.Given as goal

abbrev pub ghosts-add_beside : goal.ghosts-add_beside
ghosts-add_beside a b = record { name = b.blank.name; parts = b.blank.parts }
