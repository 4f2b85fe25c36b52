use Rattle.std.proofs.Common.{◌≡◌, ◌+◌, drop}
use Rattle.open_nodes.specs.Grafts.{grafted, ungrown}
use Rattle.open_nodes.proofs.graft.grown_from.Given as goal

abbrev pub invariant-loop-k : goal.invariant-loop-k
invariant-loop-k l = grafted l.problem l.last (l.shows + l.k) (drop l.k l.subtree) (record { grown = l.made.grown.items; at = l.step.at; bounds = l.step.left.now; splits = l.made.splits })
    ≡ grafted l.fn.problem l.fn.last l.fn.shows l.fn.subtree (ungrown l.fn.place l.fn.number l.fn.bounds)
