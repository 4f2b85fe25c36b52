-- the decisions that were looked at so far are noted
use Rattle.tree_checker.specs.Places.{last_decision}
use Rattle.tree_checker.specs.Descents.{AreNoted}
use Rattle.tree_checker.proofs.descent.changed_by.Given as goal

abbrev pub invariant-loop-at : goal.invariant-loop-at
invariant-loop-at l = AreNoted l.path l.fn.place.depth (last_decision l.fn.place.decision) l.at l.changed.items
