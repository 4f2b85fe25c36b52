-- the operations so far are forced
use Rattle.std.proofs.Common.{ℕ, ◌<◌, get_or}
use Rattle.disp_model.specs.declared.train.Op.{Op}
use Rattle.disp_model.specs.Node.{Node}
use Rattle.disp_model.specs.Routes.{IsForced}
use Rattle.node_facts.specs.Orders.{AreKnown}
use Rattle.tree_checker.proofs.lists.are_forced.Given as goal

abbrev pub invariant-loop-op : goal.invariant-loop-op
invariant-loop-op l = (node : Node) → AreKnown node l.trains → (k : ℕ) (d : Op) → k < l.op-index → IsForced node (get_or l.walk k d)
