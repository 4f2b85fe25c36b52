-- Walks at a node without a cycle: their ends are forced, and they are at most as long as the longest ones.
use Rattle.std.proofs.Common.{ℕ, ◌+◌, ◌≤◌, inl, inr, List, [], ◌∷◌, ◌++◌, map, refl, subst, arith}
use Rattle.disp_model.specs.declared.train.Op.{Op}
use Rattle.disp_model.specs.declared.train.Component.{Component}
use Rattle.disp_model.specs.declared.tree.ComponentWalk.{ComponentWalk}
use Rattle.disp_model.specs.Cost.{cost_at}
use Rattle.disp_model.specs.Node.{Node}
use Rattle.disp_model.specs.Nodes.{component_op, AddsForced, ForcedAddUp, IsForcedBound, HasLate}
use Rattle.disp_model.specs.Routes.{IsForced}
use Rattle.disp_model.specs.Trees.{WalksCost, HaveDistinct, IsLateWalk}
use Rattle.disp_model.specs.Walks.{lower_of, WalksOn, IsWalk, EndsIn, IsLongest, HasCycle}
use Rattle.disp_laws.proofs.Costs.{costs_grow, total_of, cost_at_place, EachWithin, walks_within}
use Rattle.disp_laws.proofs.EarliestExists.{walk_once}
use Rattle.disp_laws.proofs.LongestWalks.{from_once, longest_walk, adds_some, add_up_same}

-- ---- the end of a walk is forced

-- each of these operations is forced
abbrev AreForced : Node → List Op → Type 0
AreForced node [] = Unit {0}
AreForced node (o ∷ ops) = IsForced node o × AreForced node ops

on_forced : (node : Node) (u : Op) (walked : ℕ) (rest : List Op) (total : ℕ) → WalksOn node u walked rest total → AreForced node rest
on_forced node u walked [] total on = tt
on_forced node u walked (v ∷ rest) total on = (on.1.there.to_forced, on_forced node v (walked + on.0) rest total on.2)

last_forced : (node : Node) (front : List Op) (o : Op) → AreForced node (front ++ o ∷ []) → IsForced node o
last_forced node [] o are = are.0
last_forced node (p ∷ front) o are = last_forced node front o are.1

pub end_forced : (node : Node) (walk : List Op) (total : ℕ) (o : Op) → IsWalk node walk total → EndsIn walk o → IsForced node o
end_forced node [] total o is ends = absurd is
end_forced node (u ∷ rest) total o is ends =
    last_forced node ends.0 o (subst (AreForced node) ends.1 (is.0, on_forced node u (lower_of node.problem node.fixings u) rest total is.1))

-- ---- no walk is longer

module _ (node : Node) (no_cycle : HasCycle node → ⊥) where
  pub none_longer : (walk : List Op) (total : ℕ) (o : Op) (most : ℕ) → IsWalk node walk total → EndsIn walk o → IsLongest node o most → total ≤ most
  none_longer [] total o most is ends longest = absurd is
  none_longer (u ∷ rest) total o most is ends longest =
      longest.none_longer (u ∷ rest) total ends (from_once (u ∷ rest) (walk_once node no_cycle u (lower_of node.problem node.fixings u) rest total is.1)) is

  -- nor does an operation's lower lie behind its longest walk
  pub lower_within : (o : Op) (most : ℕ) → IsForced node o → IsLongest node o most → lower_of node.problem node.fixings o ≤ most
  lower_within o most forced longest = none_longer (o ∷ []) (lower_of node.problem node.fixings o) o most (forced, refl) ([], refl) longest

  -- a walk longer than the upper of its end shows that the node is dead
  pub late_is_dead : (walk : List Op) → IsLateWalk node walk → HasLate node
  late_is_dead walk late =
      let longest = longest_walk node late.end (end_forced node walk late.total late.end late.is_walk late.ends) in
      record {
        operation = late.end;
        total = longest.0;
        longest = longest.1;
        upper = late.upper;
        upper_is = late.upper_is;
        late = omega (arith, late.late, none_longer walk late.total late.end longest.0 late.is_walk late.ends longest.1);
      }

  -- ---- walks to distinct components cost at most what the forced ones add up to

  -- what a component adds to what the forced ones add up to
  abbrev forced_cost : Component → ℕ
  forced_cost c = (adds_some node c).0

  -- what they add up to, as a sum of a list
  forced_total : (components : List Component) → ForcedAddUp node components (total_of (map forced_cost components))
  forced_total [] = refl
  forced_total (c ∷ components) = (forced_cost c, total_of (map forced_cost components), (adds_some node c).1, forced_total components, refl)

  -- a component costs at the length of a walk to its operation no more than it adds
  walk_within : (c : Component) (walk : List Op) (total cost : ℕ) → IsWalk node walk total → EndsIn walk (component_op c) → AddsForced node c cost → cost_at c total ≤ cost
  walk_within c walk total cost is ends (inl (most, forced, longest, cost_is)) =
      omega (arith, cost_is, costs_grow c total most (none_longer walk total (component_op c) most is ends longest))
  walk_within c walk total cost is ends (inr (free, none)) = absurd (free (end_forced node walk total (component_op c) is ends))

  pub walks_low : (walks : List ComponentWalk) (sum bound : ℕ) → WalksCost node walks sum → HaveDistinct walks → IsForcedBound node bound → sum ≤ bound
  walks_low walks sum bound adds distinct is =
      let each : EachWithin node walks (map forced_cost node.problem.components) =
      λ i w cost at costs. let place = cost_at_place forced_cost node.problem.components w.component costs.component costs.there in
      omega (arith, place, costs.cost_is, walk_within costs.component w.walk costs.total (forced_cost costs.component) costs.is_walk costs.ends (adds_some node costs.component).1) in
      omega (
        arith,
        walks_within node walks sum (map forced_cost node.problem.components) adds distinct each,
        add_up_same node node.problem.components bound (total_of (map forced_cost node.problem.components)) is (forced_total node.problem.components),
      )
