-- A node that is no wider than a dead one is dead.
use Rattle.std.proofs.Common.{ℕ, ◌+◌, ◌≤◌, List, [], ◌∷◌, ◌++◌, subst, inl, inr, arith}
use Rattle.disp_model.specs.declared.train.Op.{Op}
use Rattle.disp_model.specs.declared.fixing.Fixing.{Fixing}
use Rattle.disp_model.specs.declared.decision.Decision.{Decision}
use Rattle.disp_model.specs.Node.{Node, node_at}
use Rattle.disp_model.specs.Nodes.{HasLate, IsDead}
use Rattle.disp_model.specs.Routes.{IsForced}
use Rattle.disp_model.specs.Walks.{lower_of, WalksOn, IsWalk, EndsIn, IsLongest}
use Rattle.disp_laws.proofs.LeavesStay.{HaveRoutes, routes_or_none}
use Rattle.disp_laws.proofs.LongestWalks.{longest_walk}
use Rattle.deeper_nodes.proofs.Tighter.{IsTighter, still_none, still_forced}
use Rattle.deeper_nodes.proofs.Staying.{cycle_stays, walk_stays}

-- ---- the end of a walk is forced

-- each of these operations is forced
abbrev AreForced : Node → List Op → Type 0
AreForced node [] = Unit {0}
AreForced node (o ∷ ops) = IsForced node o × AreForced node ops

on_forced : (node : Node) (u : Op) (walked : ℕ) (rest : List Op) (total : ℕ) → WalksOn node u walked rest total → AreForced node rest
on_forced node u walked [] total on = tt
on_forced node u walked (v ∷ rest) total on = (on.1.there.to_forced, on_forced node v (walked + on.0) rest total on.2)

last_forced : (node : Node) (front : List Op) (o : Op) → AreForced node (front ++ o ∷ []) → IsForced node o
last_forced node [] o are = are.0
last_forced node (p ∷ front) o are = last_forced node front o are.1

end_forced : (node : Node) (walk : List Op) (total : ℕ) (o : Op) → IsWalk node walk total → EndsIn walk o → IsForced node o
end_forced node [] total o is ends = absurd is
end_forced node (u ∷ rest) total o is ends =
    last_forced node ends.0 o (subst (AreForced node) ends.1 (is.0, on_forced node u (lower_of node.problem node.fixings u) rest total is.1))

module _ (node : Node) (fixings : List Fixing) (decisions : List Decision) (tightens : IsTighter node fixings decisions) (all : HaveRoutes (node_at node.problem fixings decisions)) where
  abbrev later : Node
  later = node_at node.problem fixings decisions

  -- the longest walk to an operation is no shorter
  pub longest_grows : (o : Op) (total other : ℕ) → IsLongest node o total → IsLongest later o other → total ≤ other
  longest_grows o total other longest then =
      let reached = longest.reached in
      let walk = walk_stays node fixings decisions tightens all reached.0 total reached.3 in
      omega (arith, walk.2, then.none_longer reached.0 walk.0 reached.1 reached.2 walk.1)

  -- so an operation that cannot start in time still cannot
  late_stays : HasLate node → HasLate later
  late_stays late =
      let o = late.operation in
      let reached = late.longest.reached in
      let before = end_forced node reached.0 late.total o reached.3 reached.1 in
      let forced = still_forced node fixings decisions tightens o before (all o.train before.train) in
      let longest = longest_walk later o forced in
      let upper = tightens.uppers o late.upper late.upper_is in
      record {
        operation = o;
        total = longest.0;
        longest = longest.1;
        upper = upper.0;
        upper_is = upper.1;
        late = omega (arith, late.late, upper.2, longest_grows o late.total longest.0 late.longest longest.1);
      }

pub dead_stays : (node : Node) (fixings : List Fixing) (decisions : List Decision) → IsTighter node fixings decisions → IsDead node → IsDead (node_at node.problem fixings decisions)
dead_stays node fixings decisions tightens dead = elim (routes_or_none (node_at node.problem fixings decisions)) [
  | inl none ↦ inl none
  | inr all ↦ elim dead [
    | inl none ↦ inl (still_none node fixings decisions tightens none)
    | inr rest ↦ elim rest [
      | inl cycle ↦ inr (inl (cycle.0, cycle_stays node fixings decisions tightens all cycle.0 cycle.1))
      | inr late ↦ inr (inr (late_stays node fixings decisions tightens all late))
    ]
  ]
]
