-- what has been copied is the front of the list
use Rattle.std.proofs.Common.{◌≡◌, take}
use Rattle.plain_values.proofs.list.ListCopied.copy.Given as goal

abbrev pub invariant-loop-item : goal.invariant-loop-item
invariant-loop-item g l = l.other.items ≡ take l.item-index l.item-items
