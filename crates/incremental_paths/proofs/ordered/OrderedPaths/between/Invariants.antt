use Rattle.incremental_paths.proofs.ordered.OrderedPaths.between.Given as goal

abbrev pub ghosts-find_way : goal.ghosts-find_way
ghosts-find_way a = record { name = a.blank.name; parts = a.blank.parts }
