-- the bound of the components so far
use Rattle.cost_bound.specs.Bounds.{IsBoundTo}
use Rattle.cost_bound.proofs.walks.bound.Given as goal

abbrev pub invariant-loop-place : goal.invariant-loop-place
invariant-loop-place l = IsBoundTo l.graph l.place l.bound
