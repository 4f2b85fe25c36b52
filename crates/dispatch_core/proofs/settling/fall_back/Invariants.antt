use Rattle.std.proofs.Common.{◌≡◌, take}
use Rattle.dispatch_core.specs.Falling.{fallen_all}
use Rattle.dispatch_core.proofs.settling.fall_back.Given as goal

abbrev pub invariant-loop-number : goal.invariant-loop-number
invariant-loop-number l = l.nodes ≡ fallen_all l.initial.nodes (take l.number-index l.numbers)
