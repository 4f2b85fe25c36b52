use Rattle.incremental_paths.proofs.ordered.OrderedPaths.raise.Given as goal

abbrev pub ghosts-raise_length : goal.ghosts-raise_length
ghosts-raise_length a = record { name = a.blank.name; parts = a.blank.parts }
