-- A leaf that holds at a node holds at one that is no wider: cycles and walks stay, and none is shorter.
use Rattle.std.proofs.Common.{ℕ, ◌+◌, ◌≤◌, List, [], ◌∷◌, Bool, true, false, cond, refl, inl, inr, arith}
use Rattle.std.specs.Prelude.{nat_eq, max}
use Rattle.disp_model.specs.declared.train.Op.{Op}
use Rattle.disp_model.specs.declared.fixing.Fixing.{Fixing}
use Rattle.disp_model.specs.declared.decision.Decision.{Decision}
use Rattle.disp_model.specs.declared.tree.ComponentWalk.{ComponentWalk}
use Rattle.disp_model.specs.declared.tree.TrainWalks.{TrainWalks}
use Rattle.disp_model.specs.declared.tree.Leaf.{Leaf}
use Rattle.disp_model.specs.declared.tree.Leaf.TheVariants.{NoRoute, Cycle, Late, Costs, Shares}
use Rattle.disp_model.specs.declared.tree.Verdict.{Verdict}
use Rattle.disp_model.specs.declared.tree.Verdict.TheVariants.{Optimal, Infeasible}
use Rattle.disp_model.specs.Cost.{cost_at}
use Rattle.disp_model.specs.Node.{Node, node_at}
use Rattle.disp_model.specs.Walks.{lower_of, WalksOn, IsWalk, ClosesTo, IsCycle}
use Rattle.disp_model.specs.Shares.{Arrival, AreWalksOn, greatest_to, shown_base, ShowsShare, SharesCost}
use Rattle.disp_model.specs.Trees.{IsLateWalk, WalkCosts, WalksCost, ReachVerdict, ShareVerdict, Shows, LeafHolds}
use Rattle.disp_laws.proofs.Costs.{costs_grow}
use Rattle.disp_laws.proofs.LeavesStay.{HaveRoutes, routes_or_none}
use Rattle.disp_laws.proofs.Shares.{train_there, share_exists, share_grows}
use Rattle.deeper_nodes.proofs.Tighter.{IsTighter, still_none, still_forced, arc_stays, longest_arc_stays}

module _ (node : Node) (fixings : List Fixing) (decisions : List Decision) (tightens : IsTighter node fixings decisions) (all : HaveRoutes (node_at node.problem fixings decisions)) where
  abbrev later : Node
  later = node_at node.problem fixings decisions

  -- ---- cycles

  closes_stays : (first u : Op) (rest : List Op) → ClosesTo node first u rest → ClosesTo later first u rest
  closes_stays first u [] arc =
      let new = arc_stays node fixings decisions tightens u first arc.0 arc.1 (all u.train arc.1.from_forced.train) (all first.train arc.1.to_forced.train) in (new.0, new.1)
  closes_stays first u (v ∷ rest) closes =
      let arc = closes.0 in
      let new = arc_stays node fixings decisions tightens u v arc.0 arc.1 (all u.train arc.1.from_forced.train) (all v.train arc.1.to_forced.train) in
      ((new.0, new.1), closes_stays first v rest closes.1)

  pub cycle_stays : (nodes : List Op) → IsCycle node nodes → IsCycle later nodes
  cycle_stays [] cycle = cycle
  cycle_stays (u ∷ []) cycle = cycle
  cycle_stays (u ∷ v ∷ rest) cycle = closes_stays u u (v ∷ rest) cycle

  -- ---- walks

  walks_on_stays : (u : Op) (rest : List Op) (walked total from : ℕ) → WalksOn node u walked rest total → walked ≤ from → (new : ℕ) × WalksOn later u from rest new × (total ≤ new)
  walks_on_stays u [] walked total from walk le = (from, refl, omega (arith, walk, le))
  walks_on_stays u (v ∷ rest) walked total from walk le =
      let arc = longest_arc_stays node fixings decisions tightens u v walk.0 all walk.1 in
      let on = walks_on_stays v rest (walked + walk.0) total (from + arc.0) walk.2 (omega (arith, le, arc.2)) in
      (on.0, (arc.0, arc.1, on.1), on.2)

  pub walk_stays : (walk : List Op) (total : ℕ) → IsWalk node walk total → (new : ℕ) × IsWalk later walk new × (total ≤ new)
  walk_stays [] total walk = absurd walk
  walk_stays (u ∷ rest) total walk =
      let forced = still_forced node fixings decisions tightens u walk.0 (all u.train walk.0.train) in
      let on = walks_on_stays u rest (lower_of node.problem node.fixings u) total (lower_of node.problem fixings u) walk.1 (tightens.lowers u) in
      (on.0, (forced, on.1), on.2)

  late_stays : (walk : List Op) → IsLateWalk node walk → IsLateWalk later walk
  late_stays walk late =
      let new = walk_stays walk late.total late.is_walk in
      let upper = tightens.uppers late.end late.upper late.upper_is in
      record { end = late.end; ends = late.ends; total = new.0; is_walk = new.1; upper = upper.0; upper_is = upper.1; late = omega (arith, late.late, new.2, upper.2) }

  walks_cost_stay : (walks : List ComponentWalk) (sum : ℕ) → WalksCost node walks sum → (new : ℕ) × WalksCost later walks new × (sum ≤ new)
  walks_cost_stay [] sum adds = (0, refl, omega (arith, adds))
  walks_cost_stay (w ∷ walks) sum adds =
      let old = adds.2 in
      let walk = walk_stays w.walk old.total old.is_walk in
      let cost = cost_at old.component walk.0 in
      let rest = walks_cost_stay walks adds.1 adds.3 in
      let new : WalkCosts later w cost =
      record { component = old.component; there = old.there; ends = old.ends; total = walk.0; is_walk = walk.1; cost_is = refl } in
      (cost + rest.0, (cost, rest.0, new, rest.1, refl), omega (arith, adds.4, old.cost_is, costs_grow old.component old.total walk.0 walk.2, rest.2))

  -- ---- shares

  -- walks on a train stay, and end no earlier
  walks_on_train_stay : (t : ℕ) (walks : List (List Op)) (arrivals : List Arrival) → AreWalksOn node t walks arrivals
      → (new : List Arrival) × AreWalksOn later t walks new × ((o : ℕ) → greatest_to o arrivals ≤ greatest_to o new)
  walks_on_train_stay t [] [] are = ([], tt, λ o. omega arith)
  walks_on_train_stay t [] (a ∷ arrivals) are = absurd are
  walks_on_train_stay t (w ∷ walks) [] are = absurd are
  walks_on_train_stay t (w ∷ walks) (a ∷ arrivals) are =
      let walk = walk_stays w a.total are.1 in
      let rest = walks_on_train_stay t walks arrivals are.2 in
      let new : Arrival = record { operation = a.operation; total = walk.0 } in
      (new ∷ rest.0, (are.0, walk.1, rest.1), λ o. here o (nat_eq a.operation o) walk.0 rest.0 walk.2 (rest.2 o))
    where
      here : (o : ℕ) (b : Bool) (total : ℕ) (new : List Arrival) → a.total ≤ total → greatest_to o arrivals ≤ greatest_to o new
          → cond b (max a.total (greatest_to o arrivals)) (greatest_to o arrivals) ≤ cond b (max total (greatest_to o new)) (greatest_to o new)
      here o true total new le behind = omega (arith, le, behind)
      here o false total new le behind = behind

  share_stays : (listed : TrainWalks) (share : ℕ) → ShowsShare node listed share → (new : ℕ) × ShowsShare later listed new × (share ≤ new)
  share_stays listed share shown =
      let t = listed.train in
      let walks = walks_on_train_stay t listed.walks shown.arrivals shown.walks in
      let there = train_there node t shown.over.there.0 shown.over.there.1 in
      let new = share_exists later t (shown_base later t walks.0) there (all t there) in
      let grows = share_grows node later t (shown_base node t shown.arrivals) (shown_base later t walks.0) share new.0 refl (tightens.fewer t)
      (λ o. omega (arith, tightens.lowers (record { train = t; op = o }), walks.2 o)) shown.over new.1 in
      (new.0, record { arrivals = walks.0; walks = walks.1; over = new.1 }, grows)

  shares_cost_stay : (trains : List TrainWalks) (sum : ℕ) → SharesCost node trains sum → (new : ℕ) × SharesCost later trains new × (sum ≤ new)
  shares_cost_stay [] sum adds = (0, refl, omega (arith, adds))
  shares_cost_stay (listed ∷ trains) sum adds =
      let here = share_stays listed adds.0 adds.2 in
      let rest = shares_cost_stay trains adds.1 adds.3 in
      (here.0 + rest.0, (here.0, rest.0, here.1, rest.1, refl), omega (arith, adds.4, here.2, rest.2))

  -- ---- what a leaf lists

  reach_stays : (verdict : Verdict) (walks : List ComponentWalk) → ReachVerdict node verdict walks → ReachVerdict later verdict walks
  reach_stays (Optimal cost) walks enough =
      let new = walks_cost_stay walks enough.sum enough.sum_is in
      record { distinct = enough.distinct; sum = new.0; sum_is = new.1; enough = omega (arith, enough.enough, new.2) }
  reach_stays Infeasible walks enough = enough

  share_verdict_stays : (verdict : Verdict) (walks : List ComponentWalk) (trains : List TrainWalks) → ShareVerdict node verdict walks trains → ShareVerdict later verdict walks trains
  share_verdict_stays (Optimal cost) walks trains enough =
      let own = walks_cost_stay walks enough.sum enough.sum_is in
      let shares = shares_cost_stay trains enough.shares enough.shares_is in
      record {
        distinct = enough.distinct;
        distinct_trains = enough.distinct_trains;
        others = enough.others;
        sum = own.0;
        sum_is = own.1;
        shares = shares.0;
        shares_is = shares.1;
        enough = omega (arith, enough.enough, own.2, shares.2);
      }
  share_verdict_stays Infeasible walks trains enough = enough

  pub shows_stay : (verdict : Verdict) (leaf : Leaf) → Shows node verdict leaf → Shows later verdict leaf
  shows_stay verdict NoRoute shown = shown
  shows_stay verdict (Cycle nodes) shown = cycle_stays nodes shown
  shows_stay verdict (Late walk) shown = late_stays walk shown
  shows_stay verdict (Costs walks) shown = reach_stays verdict walks shown
  shows_stay verdict (Shares walks trains) shown = share_verdict_stays verdict walks trains shown

-- whatever the leaf lists: where a train has no route left it holds by that
pub leaf_stays : (node : Node) (fixings : List Fixing) (decisions : List Decision) (verdict : Verdict) (leaf : Leaf) → IsTighter node fixings decisions
    → LeafHolds node verdict leaf → LeafHolds (node_at node.problem fixings decisions) verdict leaf
leaf_stays node fixings decisions verdict leaf tightens holds = elim holds [
  | inl none ↦ inl (still_none node fixings decisions tightens none)
  | inr shown ↦ elim (routes_or_none (node_at node.problem fixings decisions)) [
    | inl none ↦ inl none
    | inr all ↦ inr (shows_stay node fixings decisions tightens all verdict leaf shown)
  ]
]
