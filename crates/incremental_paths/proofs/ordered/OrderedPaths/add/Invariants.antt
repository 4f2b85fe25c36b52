use Rattle.incremental_paths.proofs.ordered.OrderedPaths.add.Given as goal

abbrev pub ghosts-add_from : goal.ghosts-add_from
ghosts-add_from a = record { name = a.blank.name; parts = a.blank.parts }
