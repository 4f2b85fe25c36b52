-- the successors so far that are kept
use Rattle.std.proofs.Common.{ℕ, take}
use Rattle.std.specs.Prelude.{Contains, ◌↔◌}
use Rattle.node_facts.specs.Live.{IsLiveStep}
use Rattle.node_facts.proofs.needed.row_of.Given as goal

abbrev pub invariant-loop-next : goal.invariant-loop-next
invariant-loop-next l = (s : ℕ) → Contains l.row s ↔ (Contains (take l.next-index l.operation.next) s × IsLiveStep l.places l.demands l.sums l.op s)
