-- the walk so far, and what is left of it
use Rattle.std.proofs.Common.{◌≤◌, ◌+◌, ◌*◌, ◌^◌, ℕ, List, drop}
use Rattle.std.specs.Prelude.{◌↔◌}
use Rattle.disp_model.specs.declared.fixing.Fixing.{Fixing}
use Rattle.disp_model.specs.Node.{node_at}
use Rattle.disp_model.specs.Walks.{WalksOn}
use Rattle.node_facts.specs.Orders.{AreKnown}
use Rattle.node_facts.proofs.walks.walks_on.Given as goal

abbrev pub invariant-loop-to : goal.invariant-loop-to
invariant-loop-to l =
    (l.total ≤ (l.to-index + 1) * 2 ^ 64)
    × ((fixings : List Fixing) → AreKnown (node_at l.problem fixings l.decisions) l.trains → (n : ℕ)
    → WalksOn (node_at l.problem fixings l.decisions) l.fn.first l.fn.walked l.rest n ↔ WalksOn (node_at l.problem fixings l.decisions) l.from l.total (drop l.to-index l.rest) n)
