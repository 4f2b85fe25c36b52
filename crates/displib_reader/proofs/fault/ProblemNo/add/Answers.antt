use Rattle.displib_reader.proofs.fault.ProblemNo.add.Goals as goal

pub returns-in_ok-write_count-in-NotOneEntry : goal.returns-in_ok-write_count-in-NotOneEntry
returns-in_ok-write_count-in-NotOneEntry c = rw c.in-NotOneEntry.is c.in_ok-write_count-in-NotOneEntry.ensures

pub returns-in_ok-write_count-in-NotOneExit : goal.returns-in_ok-write_count-in-NotOneExit
returns-in_ok-write_count-in-NotOneExit c = rw c.in-NotOneExit.is c.in_ok-write_count-in-NotOneExit.ensures

pub returns-in_ok-write_index-in-UnknownObjective : goal.returns-in_ok-write_index-in-UnknownObjective
returns-in_ok-write_index-in-UnknownObjective c = rw c.in-UnknownObjective.is c.in_ok-write_index-in-UnknownObjective.ensures
