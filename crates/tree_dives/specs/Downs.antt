-- What a step down makes of the sides of a place.
use Rattle.std.specs.Prelude.{◌≡◌, ℕ, ◌+◌, ◌++◌, length, reverse, Bool, true, false, Option}
use Rattle.disp_model.specs.declared.decision.Choice.{Choice}
use Rattle.disp_model.specs.declared.decision.Decision.{Decision}
use Rattle.disp_model.specs.Node.{Node, with_decision}
use Rattle.disp_model.specs.Nodes.{IsDead}
use Rattle.tree_dives.specs.declared.down.Halves.{Halves}
use Rattle.disp_model.specs.declared.settings.Rule.{Rule}
use Rattle.tree_growth.specs.Grown.{Helps, branches}
use Rattle.tree_dives.specs.Halves.{Sides, Completes, IsLeafAt}

abbrev pub sides_of : Halves → Sides
sides_of halves = record {
  before = halves.before.nodes.items;
  before_bounds = halves.before.bounds.items;
  behind = halves.behind.nodes.items;
  behind_bounds =
      halves.behind.bounds.items;
}

abbrev pub branches_in : Sides → ℕ
branches_in sides = branches sides.before + branches sides.behind

-- the place of the node below is left to be filled, with one decision more; or none is: a child is
-- dead, and a leaf stands at its place
abbrev pub DiveGoesOn : Rule → Option ℕ → Node → Node → Node → Sides → Bool → Type 0
DiveGoesOn rule best root here below sides true =
    (length below.decisions ≡ length here.decisions + 1) × Completes rule best root below sides
DiveGoesOn rule best root here below sides false =
    (child : Decision) × IsDead (with_decision here child)
    × IsLeafAt rule best root (with_decision here child) (sides.before ++ reverse sides.behind)
    (sides.before_bounds ++ reverse sides.behind_bounds)

-- from the place of a node, by a branch there, to that of a node below it
abbrev pub GoesDown : Rule → Choice → Node → Sides → Node → Sides → Bool → Type 0
GoesDown rule choice here old below new more =
    ((best : Option ℕ) (root : Node) → Helps rule best here choice
    → Completes rule best root here old → DiveGoesOn rule best root here below new more)
    × (branches_in new ≡ branches_in old + 1)
