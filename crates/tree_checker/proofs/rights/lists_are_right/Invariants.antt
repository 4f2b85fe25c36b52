-- those so far are right
use Rattle.std.proofs.Common.{ℕ, ◌<◌, List, get_or}
use Rattle.disp_model.specs.declared.train.Op.{Op}
use Rattle.disp_model.specs.declared.fixing.Fixing.{Fixing}
use Rattle.disp_model.specs.Node.{node_at}
use Rattle.node_facts.specs.Orders.{AreKnown}
use Rattle.tree_checker.specs.Rules.{IsListRight}
use Rattle.tree_checker.proofs.rights.lists_are_right.Given as goal

abbrev pub invariant-loop-walk : goal.invariant-loop-walk
invariant-loop-walk l =
    (fixings : List Fixing) → AreKnown (node_at l.problem fixings l.decisions) l.trains
    → (k : ℕ) (d : List Op) → k < l.walk-index → IsListRight (node_at l.problem fixings l.decisions) l.rule (get_or l.walks k d)
