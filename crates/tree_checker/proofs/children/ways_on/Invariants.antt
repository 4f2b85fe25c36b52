-- the decisions so far
use Rattle.std.proofs.Common.{◌≡◌, take}
use Rattle.std.specs.Prelude.{map}
use Rattle.disp_model.specs.declared.decision.Decision.TheVariants.{Go}
use Rattle.tree_checker.proofs.children.ways_on.Given as goal

abbrev pub invariant-loop-next : goal.invariant-loop-next
invariant-loop-next l = l.ways.items ≡ map (λ s. Go l.op s) (take l.next-index l.nexts)
