-- what has been copied is the front of the entries
use Rattle.std.proofs.Common.{◌≡◌, take}
use Rattle.shared_board.proofs.stored.copies.Given as goal

abbrev pub invariant-loop-entry : goal.invariant-loop-entry
invariant-loop-entry l = l.list.items ≡ take l.entry-index l.entries
