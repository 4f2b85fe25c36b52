-- Legal histories: each entry is judged by the entries before it.
use Rattle.std.specs.Prelude.{◌≡◌, ℕ, ◌+◌, ◌≤◌, List, [], ◌∷◌, ◌++◌, length, take, All, Contains, Option, Some, None, IsSome, slice_get}
use Rattle.disp_model.specs.declared.decision.Decision.{Decision}
use Rattle.disp_model.specs.declared.plan.Event.{Event}
use Rattle.disp_model.specs.declared.tree.TreeNode.{TreeNode}
use Rattle.disp_model.specs.declared.tree.TreeNode.TheVariants.{Branch, Leaf}
use Rattle.disp_model.specs.declared.tree.Verdict.{Verdict}
use Rattle.disp_model.specs.declared.tree.Verdict.TheVariants.{Optimal, Infeasible}
use Rattle.disp_model.specs.declared.entry.Entry.{Entry}
use Rattle.disp_model.specs.declared.entry.Entry.TheVariants.{Asked, Unread, Shown, Grown, Published, Settled, Stopped}
use Rattle.disp_model.specs.declared.entry.Mark.TheVariants as mark
use Rattle.disp_model.specs.declared.entry.Split.{Split}
use Rattle.disp_model.specs.declared.settings.Settings.{Settings}
use Rattle.disp_model.specs.declared.problem.Problem.{Problem}
use Rattle.disp_model.specs.Valid.{IsValid}
use Rattle.disp_model.specs.Cost.{cost_of}
use Rattle.disp_model.specs.Trees.{children_of, Accepts, FitsVerdict, FitsNode}
use Rattle.disp_model.specs.Replies.{IsReply}
use Rattle.disp_model.specs.Node.{node_at}
use Rattle.disp_model.specs.Nodes.{IsDead}
use Rattle.disp_model.specs.Shares.{IsBound}
use Rattle.disp_model.specs.Earliest.{IsPicked}
use Rattle.disp_model.specs.History.{changes_of, edition_of, newest, IsBestCost, mark_of, IsStanding}
use Rattle.disp_model.specs.Replay.{Place, branch, leaf, Growth, grown_by, after_split, above_leaf, spent_on, IsBelowBest, IsUseful}

-- the edition is the newest, and worked on
pub record IsWorking (history : List Entry) (edition : ℕ) : Type 0 where
  pub newest_is : edition ≡ newest history
  pub working : mark_of edition history ≡ mark.Working

-- the numbers of new leaves
abbrev pub numbers_from : ℕ → List Decision → List ℕ
numbers_from number [] = []
numbers_from number (child ∷ children) = number ∷ numbers_from (number + 1) children

-- the splits, one after the other, are of leaves below the node (those named, and children of
-- earlier splits), and help
abbrev pub AreUseful : Problem → Settings → List Entry → ℕ → ℕ → Growth → List ℕ → List Split
    → Type 0
AreUseful problem settings history edition seen growth below [] = Unit {0}
AreUseful problem settings history edition seen growth below (split ∷ splits) =
    Contains below split.node
    × ((above : List Decision) × (above_leaf split.node growth.places ≡ Some above)
    × IsUseful problem settings history edition seen above split)
    × AreUseful problem settings history edition seen (after_split problem growth split)
    (below ++ numbers_from growth.unused (children_of problem split.choice)) splits

-- a searcher grew the tree
pub record IsLegalGrowth (problem : Problem) (settings : Settings) (history : List Entry)
    (edition seen node : ℕ) (splits : List Split) : Type 0 where
  pub taken_before : seen ≤ length history
  pub edition_then : newest (take seen history) ≡ edition
  pub leaf_then : IsSome (above_leaf node (grown_by problem (take seen history)).places)
  pub leaf_now : IsSome (above_leaf node (grown_by problem history).places)
  pub useful : AreUseful problem settings history edition seen (grown_by problem history) (node ∷ []) splits
  pub within_budget : spent_on edition history + length splits ≤ settings.budget

-- a plan was published
pub record IsLegalPlan (problem : Problem) (history : List Entry) (edition : ℕ) (plan : List Event)
    (cost : ℕ) : Type 0 where
  pub working : IsWorking history edition
  pub valid : IsValid problem (edition_of history) plan
  pub cost_is : cost_of problem.components plan ≡ cost
  pub better : IsBelowBest problem history cost

-- the verdict is optimal with the best cost, or infeasible where there is none
abbrev pub IsVerdictOf : Option ℕ → Verdict → Type 0
IsVerdictOf best (Optimal cost) = best ≡ Some cost
IsVerdictOf best Infeasible = best ≡ None

-- the branches of a tree are those that were grown
abbrev pub HasBranchesOf : List Place → List TreeNode → Type 0
HasBranchesOf [] [] = Unit {0}
HasBranchesOf [] (node ∷ tree) = ⊥
HasBranchesOf (place ∷ places) [] = ⊥
HasBranchesOf (branch choice ∷ places) (Branch other children ∷ tree) = (choice ≡ other)
    × HasBranchesOf places tree
HasBranchesOf (branch choice ∷ places) (Leaf shown ∷ tree) = ⊥
HasBranchesOf (leaf number above ∷ places) (Branch other children ∷ tree) = ⊥
HasBranchesOf (leaf number above ∷ places) (Leaf shown ∷ tree) = HasBranchesOf places tree

-- an edition was settled
pub record IsLegalVerdict (problem : Problem) (history : List Entry) (edition : ℕ)
    (verdict : Verdict) (tree : List TreeNode) : Type 0 where
  pub working : IsWorking history edition
  pub accepted : Accepts problem (edition_of history) verdict tree
  pub verdict_fits : FitsVerdict verdict
  pub tree_fits : All FitsNode tree
  pub branches : HasBranchesOf (grown_by problem history).places tree
  pub best : Option ℕ
  pub best_is : IsBestCost problem history best
  pub verdict_is : IsVerdictOf best verdict

-- a live leaf: not dead, and its bound is below the best, or there is no best
pub record IsLive (problem : Problem) (settings : Settings) (history : List Entry)
    (above : List Decision) (bound : ℕ) : Type 0 where
  pub alive : IsDead (node_at problem (edition_of history) above) → ⊥
  pub bound_is : IsBound (node_at problem (edition_of history) above) settings.rule bound
  pub below : IsBelowBest problem history bound

-- a live leaf of the grown tree, with its bound
pub record HasLive (problem : Problem) (settings : Settings) (history : List Entry) (node : ℕ)
    (above : List Decision) (bound : ℕ) : Type 0 where
  pub there : above_leaf node (grown_by problem history).places ≡ Some above
  pub live : IsLive problem settings history above bound

-- an edition was stopped: the whole budget is spent, some leaf is live, at none of the live ones
-- the earliest plan is valid, and the bound is the least of theirs
pub record IsLegalStop (problem : Problem) (settings : Settings) (history : List Entry)
    (edition spent bound : ℕ) : Type 0 where
  pub working : IsWorking history edition
  pub spent_is : spent ≡ spent_on edition history
  pub budget_is : spent ≡ settings.budget
  pub some_live : (node : ℕ) × (above : List Decision)
      × HasLive problem settings history node above bound
  pub least : (node : ℕ) (above : List Decision) (other : ℕ)
      → HasLive problem settings history node above other → bound ≤ other
  pub none_ready : (node : ℕ) (above : List Decision) (other : ℕ)
      → HasLive problem settings history node above other
      → IsPicked (node_at problem (edition_of history) above) settings.rule None → ⊥

-- an entry is legal behind the entries before it
abbrev pub IsLegalEntry : Problem → Settings → List Entry → Entry → Type 0
IsLegalEntry problem settings history (Asked feed line change reply) =
    IsReply problem (changes_of history) change reply
IsLegalEntry problem settings history (Unread feed line why) = Unit {0}
IsLegalEntry problem settings history (Shown feed line standing) =
    IsStanding problem history standing
IsLegalEntry problem settings history (Grown searcher edition seen node splits) =
    IsLegalGrowth problem settings history edition seen node splits
IsLegalEntry problem settings history (Published edition plan cost) =
    IsLegalPlan problem history edition plan cost
IsLegalEntry problem settings history (Settled edition verdict tree) =
    IsLegalVerdict problem history edition verdict tree
IsLegalEntry problem settings history (Stopped edition spent bound) =
    IsLegalStop problem settings history edition spent bound

-- a legal history: each entry is legal behind those before it (this project)
abbrev pub IsLegal : Problem → Settings → List Entry → Type 0
IsLegal problem settings history = (i : ℕ) (entry : Entry) → slice_get history i ≡ Some entry
    → IsLegalEntry problem settings (take i history) entry
