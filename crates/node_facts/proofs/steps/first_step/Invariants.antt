-- none of those so far is one to go on to
use Rattle.std.proofs.Common.{ℕ, ◌<◌, get_or}
use Rattle.node_facts.specs.Live.{IsLiveStep}
use Rattle.node_facts.proofs.steps.first_step.Given as goal

abbrev pub invariant-loop-next : goal.invariant-loop-next
invariant-loop-next l = (k : ℕ) → k < l.next-index → IsLiveStep l.places l.demands l.sums l.op (get_or l.nexts k 0) → ⊥
