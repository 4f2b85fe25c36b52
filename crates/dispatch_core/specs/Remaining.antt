-- What is left of a fragment under the newest edition: all of it, where since its edition no change
-- was taken back.
use Rattle.std.specs.Prelude.{ℕ, List, [], ◌∷◌, All}
use Rattle.disp_model.specs.declared.fixing.Change.{Change}
use Rattle.disp_model.specs.declared.fixing.Change.TheVariants.{Fix, Withdraw}
use Rattle.disp_model.specs.declared.tree.TreeNode.{TreeNode}
use Rattle.disp_model.specs.History.{edition_of}
use Rattle.disp_model.specs.Node.{node_at}
use Rattle.open_nodes.specs.declared.work.Fragment.{Fragment}
use Rattle.tree_growth.specs.Left.{AreLeft}
use Rattle.dispatch_core.specs.States.{Core}

-- the change takes one back
abbrev pub IsWithdrawal : Change → Type 0
IsWithdrawal (Fix fixing) = ⊥
IsWithdrawal (Withdraw number) = Unit {0}

-- none of these changes takes one back
abbrev pub AreFixingChanges : List Change → Type 0
AreFixingChanges changes = All (λ change. IsWithdrawal change → ⊥) changes

-- these nodes and bounds are what is left of the fragment's
abbrev pub AreLeftOf : Core → Fragment → List TreeNode → List ℕ → Type 0
AreLeftOf core fragment nodes bounds =
    AreLeft (node_at core.problem (edition_of core.history) fragment.work.decisions ∷ [])
    fragment.subtree fragment.bounds nodes bounds

-- the fragment with other nodes and bounds
abbrev pub with_tree : Fragment → List TreeNode → List ℕ → Fragment
with_tree fragment nodes bounds = record { work = fragment.work; subtree = nodes; bounds = bounds }
