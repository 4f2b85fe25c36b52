use Rattle.turn_lock.proofs.lock.Turn.split.Given as goal

abbrev pub ghosts-give : goal.ghosts-give
ghosts-give g a = record { caller = a.caller }
