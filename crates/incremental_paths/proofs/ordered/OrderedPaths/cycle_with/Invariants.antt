use Rattle.incremental_paths.proofs.ordered.OrderedPaths.cycle_with.Given as goal

abbrev pub ghosts-find_cycle : goal.ghosts-find_cycle
ghosts-find_cycle a = record { name = a.blank.name; parts = a.blank.parts }
