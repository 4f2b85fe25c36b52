use Rattle.std.proofs.Common.{◌≡◌, take}
use Rattle.std.specs.Prelude.{map}
use Rattle.disp_model.specs.declared.decision.Decision.TheVariants.{Go}
use Rattle.branch_rules.proofs.child.ways_on.Given as goal

abbrev pub invariant-loop-next : goal.invariant-loop-next
invariant-loop-next l = l.ways ≡ map (λ s. Go l.op s) (take l.next-index l.next)
