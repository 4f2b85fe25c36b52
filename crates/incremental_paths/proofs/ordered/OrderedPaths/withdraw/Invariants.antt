use Rattle.incremental_paths.proofs.ordered.OrderedPaths.withdraw.Given as goal

abbrev pub ghosts-spread_anew : goal.ghosts-spread_anew
ghosts-spread_anew a = record { name = a.blank.name; parts = a.blank.parts }
