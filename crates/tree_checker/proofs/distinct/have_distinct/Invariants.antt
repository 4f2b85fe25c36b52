-- the numbers of those so far are seen, and none of them twice
use Rattle.disp_model.specs.declared.tree.ComponentWalk.{ComponentWalk}
use Rattle.tree_checker.specs.Seen.{AreSeen}
use Rattle.tree_checker.proofs.Apart.{AreApart}
use Rattle.tree_checker.proofs.distinct.have_distinct.Given as goal

abbrev pub invariant-loop-walk : goal.invariant-loop-walk
invariant-loop-walk l = AreSeen (λ (x : ComponentWalk). x.component) l.walks l.walk-index l.seen.keys × AreApart (λ (x : ComponentWalk). x.component) l.walks l.walk-index
