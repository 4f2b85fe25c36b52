-- The verdict on an edition, and the tree that shows it.
use Rattle.std.specs.Prelude.{◌≡◌, ℕ, ◌==◌, List, [], ◌∷◌, Option, Some, None, if◌then◌else◌}
use Rattle.disp_model.specs.declared.entry.Entry.{Entry}
use Rattle.disp_model.specs.declared.entry.Entry.TheVariants.{Asked, Unread, Shown, Grown, Published, Settled, Stopped}
use Rattle.disp_model.specs.declared.entry.Mark.{Mark}
use Rattle.disp_model.specs.declared.entry.Mark.TheVariants as mark
use Rattle.disp_model.specs.declared.fixing.Fixing.{Fixing}
use Rattle.disp_model.specs.declared.problem.Problem.{Problem}
use Rattle.disp_model.specs.declared.tree.TreeNode.{TreeNode}
use Rattle.disp_model.specs.declared.tree.Verdict.{Verdict}
use Rattle.disp_model.specs.History.{mark_of_verdict}
use Rattle.disp_model.specs.Trees.{Accepts}

-- a verdict on an edition with its tree, after this entry; there is none where the edition is
-- stopped
abbrev pub tree_after : ℕ → Option (Verdict × List TreeNode) → Entry
    → Option (Verdict × List TreeNode)
tree_after number before (Asked feed line change reply) = before
tree_after number before (Unread feed line why) = before
tree_after number before (Shown feed line standing) = before
tree_after number before (Grown searcher edition seen node splits) = before
tree_after number before (Published edition plan cost) = before
tree_after number before (Settled edition verdict tree) =
    if edition == number then Some (verdict, tree) else before
tree_after number before (Stopped edition spent bound) = if edition == number then None else before

abbrev pub tree_from : ℕ → Option (Verdict × List TreeNode) → List Entry
    → Option (Verdict × List TreeNode)
tree_from number before [] = before
tree_from number before (entry ∷ history) =
    tree_from number (tree_after number before entry) history

-- the verdict on an edition with its tree: by the last entry that settled or stopped it
abbrev pub settled_tree : ℕ → List Entry → Option (Verdict × List TreeNode)
settled_tree number history = tree_from number None history

-- no verdict is told
abbrev pub IsUnsettled : Mark → Type 0
IsUnsettled mark.Working = Unit {0}
IsUnsettled (mark.Optimal cost) = ⊥
IsUnsettled mark.Infeasible = ⊥
IsUnsettled (mark.Stopped spent bound) = Unit {0}

-- there is a tree exactly where the mark tells a verdict, and it shows that verdict
abbrev pub ShowsMark : Problem → List Fixing → Mark → Option (Verdict × List TreeNode) → Type 0
ShowsMark problem fixings told None = IsUnsettled told
ShowsMark problem fixings told (Some settled) =
    (told ≡ mark_of_verdict settled.0) × Accepts problem fixings settled.0 settled.1
