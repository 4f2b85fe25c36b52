-- The histories of the examples, on the two trains.
use Rattle.std.specs.Prelude.{ℕ, List, [], ◌∷◌, ◌++◌, None}
use Rattle.disp_model.specs.declared.decision.Choice.TheVariants.{Order}
use Rattle.disp_model.specs.declared.fixing.Fixing.{Fixing}
use Rattle.disp_model.specs.declared.fixing.Change.TheVariants.{Fix}
use Rattle.disp_model.specs.declared.settings.Settings.{Settings}
use Rattle.disp_model.specs.declared.settings.Rule.TheVariants.{Fixed}
use Rattle.disp_model.specs.declared.fixing.Fixing.TheVariants.{Started}
use Rattle.disp_model.specs.declared.reply.Reply.TheVariants.{Accepted}
use Rattle.disp_model.specs.declared.tree.TreeNode.{TreeNode}
use Rattle.disp_model.specs.declared.tree.Verdict.TheVariants.{Optimal}
use Rattle.disp_model.specs.declared.entry.Entry.{Entry}
use Rattle.disp_model.specs.declared.entry.Entry.TheVariants.{Asked, Shown, Grown, Published, Settled, Stopped}
use Rattle.disp_model.specs.declared.entry.Mark.TheVariants as mark
use Rattle.disp_model.specs.declared.plan.Event.{Event}
use Rattle.definition_examples.specs.Trains.{a0, b0}
use Rattle.definition_examples.specs.Trees.{late_tree}
use Rattle.definition_examples.specs.Plans.{first_first, second_first}

-- a budget, under the fixed rule
abbrev pub fixed_rule : ℕ → Settings
fixed_rule budget = record { budget = budget; rule = Fixed }

-- the first train starts at 0
abbrev pub a0_at_0 : Fixing
a0_at_0 = Started 0 0 0

-- the fixing is accepted, and a feed is shown edition 1
abbrev pub asked : List Entry
asked = Asked 0 1 (Fix a0_at_0) (Accepted 1)
    ∷ Shown 0 2 (record { edition = 1; best = None; mark = mark.Working }) ∷ []

-- then a plan is published for edition 1
abbrev pub published : List Event → ℕ → List Entry
published plan cost =
    Asked 0 1 (Fix a0_at_0) (Accepted 1) ∷ Shown 0 2
    (record { edition = 1; best = None; mark = mark.Working }) ∷ Published 1 plan cost ∷ []

-- a plan is published before the fixing is accepted, and a feed is shown the edition after it
abbrev pub outdated : List Entry
outdated =
    Published 0 second_first 18 ∷ Asked 0 1 (Fix a0_at_0) (Accepted 1)
    ∷ Shown 0 2 (record { edition = 1; best = None; mark = mark.Working }) ∷ []

-- an edition is stopped
abbrev pub stopped : ℕ → ℕ → List Entry
stopped spent bound = Stopped 0 spent bound ∷ []

-- the fixing is accepted; a searcher splits the tree's one leaf by the order of the two trains;
-- then a plan is published, and the edition settled
abbrev pub settled : List Event → ℕ → List Entry
settled plan cost =
    Asked 0 1 (Fix a0_at_0) (Accepted 1) ∷ Shown 0 2
    (record { edition = 1; best = None; mark = mark.Working })
    ∷ Grown 0 1 1 0 (record { node = 0; choice = Order a0 b0 } ∷ []) ∷ Published 1 plan cost
    ∷ Settled 1 (Optimal cost) late_tree ∷ []

-- the same edition is settled again, with whatever tree
abbrev pub settled_again : List TreeNode → List Entry
settled_again tree = settled first_first 24 ++ Settled 1 (Optimal 24) tree ∷ []

-- a searcher splits the tree by the order of the two trains, before a fixing is accepted
abbrev pub grown_before : List Entry
grown_before = Grown 0 0 0 0 (record { node = 0; choice = Order a0 b0 } ∷ [])
    ∷ Asked 0 1 (Fix a0_at_0) (Accepted 1) ∷ []
