-- A node without its last decision, and with it again.
use Rattle.std.proofs.Common.{◌≡◌, ◌∙◌, ℕ, ◌-◌, ◌+◌, ◌<◌, List, length, take, get_or, sym, ap, arith}
use Rattle.std.proofs.lemmas.List.{take_more, take_all}
use Rattle.disp_model.specs.declared.decision.Decision.{Decision}
use Rattle.disp_model.specs.Node.{Node, node_at, with_decision}
use Rattle.event_graph.specs.Graphs.{without_last_decision}

pub with_last : (node : Node) (d : Decision) → 0 < length node.decisions
    → node ≡ with_decision (without_last_decision node) (get_or node.decisions (length node.decisions - 1) d)
with_last node d some =
    let n = length node.decisions in
    let on : (n - 1) + 1 ≡ n = omega (arith, some) in
    ap (λ (ds : List Decision). node_at node.problem node.fixings ds)
    (sym (take_all n node.decisions (omega arith)) ∙ ap (λ (k : ℕ). take k node.decisions) (sym on)
    ∙ take_more node.decisions (n - 1) d (omega (arith, some)))
