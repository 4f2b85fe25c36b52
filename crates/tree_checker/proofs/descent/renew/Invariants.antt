-- the trains so far are made anew
use Rattle.std.proofs.Common.{take}
use Rattle.disp_model.specs.Node.{node_at}
use Rattle.tree_checker.specs.Descents.{AreRenewed}
use Rattle.tree_checker.proofs.descent.renew.Given as goal

abbrev pub invariant-loop-train : goal.invariant-loop-train
invariant-loop-train l = AreRenewed (node_at l.problem l.fixings l.decisions) (take l.train-index l.changed) l.fn.trains l.trains
