-- Where works of an edition are grown.
use Rattle.std.specs.Prelude.{◌≡◌, ◌⊎◌, ℕ, List, [], Option}
use Rattle.disp_model.specs.declared.fixing.Fixing.{Fixing}
use Rattle.disp_model.specs.declared.problem.Problem.{Problem}
use Rattle.disp_model.specs.declared.settings.Rule.{Rule}
use Rattle.disp_model.specs.Node.{Node, node_at}
use Rattle.event_graph.specs.Joined.{IsOfEdition}
use Rattle.incumbent_cell.specs.declared.pass.Known.{Known}
use Rattle.incumbent_cell.specs.Code.{edition_in, code_cost}
use Rattle.incumbent_cell.specs.Knowledge.{Stands}
use Rattle.node_leaves.specs.Shown.{IsDeadLeaf}
use Rattle.open_nodes.specs.declared.work.Work.{Work}
use Rattle.open_nodes.specs.States.{IsBoundBelow}
use Rattle.search_workers.specs.declared.growth.Growth.{Growth}
use Rattle.search_workers.specs.Explorers.{IsExplorerOf}
use Rattle.search_workers.specs.Grown.{IsGrownOf}
use Rattle.search_crew.specs.declared.ground.Ground.{Ground}
use Rattle.search_crew.specs.declared.ground.Ground.TheVariants as ground

-- a graph at a node of the problem under these fixings, which are an edition's, where what its
-- explorer knows holds; or a leaf that shows that the root is dead
abbrev pub IsGround : Problem → List Fixing → Ground → Type 0
IsGround problem fixings (ground.Alive explorer) =
    (explorer.graph.problem ≡ problem) × (explorer.graph.fixings ≡ fixings)
    × IsOfEdition explorer.graph × IsExplorerOf problem explorer
IsGround problem fixings (ground.Dead leaf) = IsDeadLeaf (node_at problem fixings []) leaf

-- what is below the first is below the second
abbrev pub IsBestNoMore : Option ℕ → Option ℕ → Type 0
IsBestNoMore best other = (bound : ℕ) → IsBoundBelow bound best → IsBoundBelow bound other

-- the best of the work, or one that the crew's word told for the work's edition
abbrev pub IsCutoff : Work → Known → Option ℕ → Type 0
IsCutoff work known best = (best ≡ work.best)
    ⊎ ((code : ℕ) × (edition_in code ≡ work.edition) × (best ≡ code_cost code) × Stands known code)

-- what a work came to, below a best that is no more than the work's
pub record IsGrownFor (rule : Rule) (node : Node) (work : Work) (growth : Growth) : Type 0 where
  pub best : Option ℕ
  pub no_more : IsBestNoMore best work.best
  pub grown : IsGrownOf rule node best work.allowance work.bound growth
