-- those so far are right
use Rattle.std.proofs.Common.{ℕ, ◌<◌, List, get_or}
use Rattle.std.specs.Prelude.{All}
use Rattle.disp_model.specs.declared.tree.TrainWalks.{TrainWalks}
use Rattle.disp_model.specs.declared.fixing.Fixing.{Fixing}
use Rattle.disp_model.specs.Node.{node_at}
use Rattle.node_facts.specs.Orders.{AreKnown}
use Rattle.tree_checker.specs.Rules.{IsListRight}
use Rattle.tree_checker.proofs.rights.trains_are_right.Given as goal

abbrev pub invariant-loop-listed : goal.invariant-loop-listed
invariant-loop-listed l =
    (fixings : List Fixing) → AreKnown (node_at l.problem fixings l.decisions) l.trains
    → (k : ℕ) (d : TrainWalks) → k < l.listed-index → All (IsListRight (node_at l.problem fixings l.decisions) l.rule) (get_or l.shown k d).walks
