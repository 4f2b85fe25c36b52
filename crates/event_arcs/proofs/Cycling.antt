-- Cycles along a list of arcs are cycles of the node, and the other way round.
use Rattle.std.proofs.Common.{◌≡◌, ℕ, ◌+◌, List, [], ◌∷◌, map, refl, sym, ap, subst, ◌∙◌, inl, inr}
use Rattle.std.specs.Prelude.{All, Contains, ◌↔◌}
use Rattle.std.proofs.lemmas.List.Elements.{All-contains}
use Rattle.disp_model.specs.declared.train.Op.{Op}
use Rattle.disp_model.specs.declared.decision.Decision.TheVariants.{First}
use Rattle.disp_model.specs.WellFormed.{LeadsTo}
use Rattle.disp_model.specs.Numbers.{number_of}
use Rattle.disp_model.specs.Valid.{train_at}
use Rattle.disp_model.specs.Node.{Node}
use Rattle.disp_model.specs.Routes.{IsForced}
use Rattle.disp_model.specs.Arcs.{IsArc, HasArc}
use Rattle.disp_model.specs.Walks.{ClosesTo, IsCycle as IsCycleAt, HasCycle as HasCycleAt}
use Rattle.disp_laws.proofs.Arcs.{passes_leads}
use Rattle.disp_laws.proofs.Composed.{own_arc}
use Rattle.disp_laws.proofs.Positions.{leads_then as then_up}
use Rattle.incremental_paths.specs.declared.arc.Arc.{Arc}
use Rattle.incremental_paths.specs.Walks.{JoinsPair, FollowsArcs, last_node_from, IsArcCycle, ArcsHaveCycle}
use Rattle.incremental_paths.proofs.Members.{joining}
use Rattle.event_arcs.specs.Listed.{IsArcOf, LeadsOver, AreArcsOf}
use Rattle.event_arcs.proofs.Leading.{leads_then, back_makes_cycle}
use Rattle.event_arcs.proofs.Numbering.{same_forced, step_of}

pub no_arc_to_itself : (node : Node) (o : Op) (n : ℕ) → IsArc node o o n → ⊥
no_arc_to_itself node o n arc =
    let own = own_arc node o o n refl arc in
    let way = passes_leads (train_at node.problem o.train) own.reached.0 o.op o.op n own.reached.1.is_route own.reached.2 in
    (node.problem.well_formed.acyclic o.train [] arc.from_forced.train).no_cycle way.0 o.op way.1

-- ---- from numbers to operations

record IsClosed (node : Node) (first u : Op) (rest : List ℕ) : Type 0 where
  pub ops : List Op
  pub numbers : map (number_of node.problem) ops ≡ rest
  pub closes : ClosesTo node first u ops

closed_of : (node : Node) (arcs : List Arc) (first u : Op) (rest : List ℕ) → All (IsArcOf node) arcs → IsForced node first → IsForced node u
    → FollowsArcs arcs (number_of node.problem u) rest → JoinsPair arcs (last_node_from (number_of node.problem u) rest) (number_of node.problem first) → IsClosed node first u rest
closed_of node arcs first u [] sound start forced follows joined =
    let step = step_of node arcs u (number_of node.problem first) sound forced joined in
    let same = same_forced node step.v first step.longest.there.to_forced start step.number_is in
    record { ops = []; numbers = refl; closes = subst (λ (o : Op). HasArc node u o) same (step.arc_length, step.longest.there) }
closed_of node arcs first u (m ∷ rest) sound start forced follows joined =
    let step = step_of node arcs u m sound forced follows.0 in
    let on : FollowsArcs arcs (number_of node.problem step.v) rest = subst (λ (n : ℕ). FollowsArcs arcs n rest) (sym step.number_is) follows.1 in
    let back : JoinsPair arcs (last_node_from (number_of node.problem step.v) rest) (number_of node.problem first) = subst (λ (n : ℕ). JoinsPair arcs (last_node_from n rest) (number_of node.problem first)) (sym step.number_is) joined in
    let later = closed_of node arcs first step.v rest sound start step.longest.there.to_forced on back in
    record {
      ops = step.v ∷ later.ops;
      numbers = ap (λ (n : ℕ). n ∷ map (number_of node.problem) later.ops) step.number_is ∙ ap (λ (l : List ℕ). m ∷ l) later.numbers;
      closes = ((step.arc_length, step.longest.there), later.closes);
    }

-- at least two operations stand in it
two_or_more : (node : Node) (u : Op) (ops : List Op) → ClosesTo node u u ops → IsCycleAt node (u ∷ ops)
two_or_more node u [] closes = absurd (no_arc_to_itself node u closes.0 closes.1)
two_or_more node u (v ∷ ops) closes = closes

pub cycle_of_numbers : (node : Node) (arcs : List Arc) (numbers : List ℕ) → All (IsArcOf node) arcs → IsArcCycle arcs numbers
    → (ops : List Op) × (map (number_of node.problem) ops ≡ numbers) × IsCycleAt node ops
cycle_of_numbers node arcs [] sound cycle = absurd cycle
cycle_of_numbers node arcs (m ∷ rest) sound cycle =
    let listed = joining arcs (last_node_from m rest) m cycle.1 in
    let arc = All-contains (IsArcOf node) arcs listed.0 sound listed.1 in
    let is : number_of node.problem arc.v ≡ m = sym arc.to_is ∙ listed.3 in
    let on : FollowsArcs arcs (number_of node.problem arc.v) rest = subst (λ (n : ℕ). FollowsArcs arcs n rest) (sym is) cycle.0 in
    let back : JoinsPair arcs (last_node_from (number_of node.problem arc.v) rest) (number_of node.problem arc.v) = subst (λ (n : ℕ). JoinsPair arcs (last_node_from n rest) n) (sym is) cycle.1 in
    let closed = closed_of node arcs arc.v arc.v rest sound arc.joins.to_forced arc.joins.to_forced on back in
    (arc.v ∷ closed.ops, ap (λ (n : ℕ). n ∷ map (number_of node.problem) closed.ops) is ∙ ap (λ (l : List ℕ). m ∷ l) closed.numbers, two_or_more node arc.v closed.ops closed.closes)

-- ---- from operations to numbers

leads_closed : (node : Node) (arcs : List Arc) (first u : Op) (ops : List Op) → AreArcsOf node arcs → ClosesTo node first u ops
    → (least : ℕ) × LeadsOver arcs (number_of node.problem u) (number_of node.problem first) least
leads_closed node arcs first u [] are closes = (closes.0, are.complete u first closes.0 closes.1)
leads_closed node arcs first u (v ∷ ops) are closes =
    let later = leads_closed node arcs first v ops are closes.1 in (
      closes.0.0 + later.0,
      leads_then arcs (number_of node.problem u) (number_of node.problem v) (number_of node.problem first) closes.0.0 later.0 (are.complete u v closes.0.0 closes.0.1) later.1,
    )

cycle_of_ops : (node : Node) (arcs : List Arc) (ops : List Op) → AreArcsOf node arcs → IsCycleAt node ops → ArcsHaveCycle arcs
cycle_of_ops node arcs [] are cycle = absurd cycle
cycle_of_ops node arcs (u ∷ []) are cycle = absurd cycle
cycle_of_ops node arcs (u ∷ v ∷ ops) are cycle =
    let way = leads_closed node arcs u u (v ∷ ops) are cycle in
    back_makes_cycle arcs (number_of node.problem u) way.0 way.1

pub cycle_from : (node : Node) (arcs : List Arc) → All (IsArcOf node) arcs → ArcsHaveCycle arcs → HasCycleAt node
cycle_from node arcs sound has = let ops = cycle_of_numbers node arcs has.0 sound has.1 in (ops.0, ops.2)

pub same_cycles : (node : Node) (arcs : List Arc) → AreArcsOf node arcs → (ArcsHaveCycle arcs ↔ HasCycleAt node)
same_cycles node arcs are = (cycle_from node arcs are.sound, λ has. cycle_of_ops node arcs has.0 are has.1)

-- ---- where nothing is ordered

-- an arc is one of a train, and leads up it
leads_up : (node : Node) (u v : Op) → ((a b : Op) → Contains node.decisions (First a b) → ⊥) → HasArc node u v → (u.train ≡ v.train) × ((n : ℕ) × LeadsTo (train_at node.problem u.train) n u.op v.op)
leads_up node u v none (n, arc) = elim arc.kind [
  | inl train ↦ (train.same_train, passes_leads (train_at node.problem u.train) train.reached.0 u.op v.op n train.reached.1.is_route train.reached.2)
  | inr r ↦ elim r [ inl order ↦ absurd (none u v order.decided) | inr release ↦ absurd (none release.holder v release.decided) ]
]

closes_up : (node : Node) (first u : Op) (ops : List Op) → ((a b : Op) → Contains node.decisions (First a b) → ⊥) → ClosesTo node first u ops → (u.train ≡ first.train) × ((n : ℕ) × LeadsTo (train_at node.problem u.train) n u.op first.op)
closes_up node first u [] none closes = leads_up node u first none closes
closes_up node first u (v ∷ ops) none closes =
    let here = leads_up node u v none closes.0 in
    let later = closes_up node first v ops none closes.1 in
    let way = subst (λ (t : ℕ). LeadsTo (train_at node.problem t) later.1.0 v.op first.op) (sym here.0) later.1.1 in
    (here.0 ∙ later.0, then_up (train_at node.problem u.train) here.1.0 later.1.0 u.op v.op first.op here.1.1 way)

pub no_order_no_cycle : (node : Node) → ((a b : Op) → Contains node.decisions (First a b) → ⊥) → HasCycleAt node → ⊥
no_order_no_cycle node none ([], cycle) = absurd cycle
no_order_no_cycle node none (u ∷ [], cycle) = absurd cycle
no_order_no_cycle node none (u ∷ v ∷ ops, cycle) =
    let round = closes_up node u u (v ∷ ops) none cycle in
    (node.problem.well_formed.acyclic u.train [] cycle.0.1.from_forced.train).no_cycle round.1.0 u.op round.1.1
