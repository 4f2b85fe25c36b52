-- What is answered of a node: a list that stands for its arcs, or the first train without an
-- allowed route.
use Rattle.std.specs.Prelude.{ℕ, ◌<◌, length}
use Rattle.disp_model.specs.Node.{Node}
use Rattle.disp_model.specs.Routes.{HasRoute}
use Rattle.event_arcs.specs.declared.list.NodeArcs.{NodeArcs}
use Rattle.event_arcs.specs.declared.list.NodeArcs.TheVariants.{Listed, NoRoute}
use Rattle.event_arcs.specs.Listed.{AreArcsOf}
use Rattle.event_arcs.specs.Placed.{IsFirstWithout}

abbrev pub IsListedAt : Node → NodeArcs → Type 0
IsListedAt node (Listed arcs) = AreArcsOf node arcs.items
    × ((t : ℕ) → t < length node.problem.trains → HasRoute node t)
IsListedAt node (NoRoute t) = IsFirstWithout node t
