use Rattle.std.proofs.Common.{◌≡◌, take}
use Rattle.std.specs.Prelude.{option_map}
use Rattle.answered_tasks.specs.Settled.{settled_tree}
use Rattle.answered_tasks.proofs.journal.settled_tree.Given as goal

-- the verdict and the tree of the entries so far
abbrev pub invariant-loop-entry : goal.invariant-loop-entry
invariant-loop-entry l =
    option_map (λ s. (s.0, s.1.now)) l.settled ≡ settled_tree l.number (take l.entry-index l.journal)
