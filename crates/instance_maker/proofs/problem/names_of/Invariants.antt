use Rattle.std.proofs.Common.{◌≡◌}
use Rattle.instance_maker.specs.Made.{names_of}
use Rattle.instance_maker.proofs.problem.names_of.Given as goal

abbrev pub invariant-loop-k : goal.invariant-loop-k
invariant-loop-k l = l.names ≡ names_of l.k
