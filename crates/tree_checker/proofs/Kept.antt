-- A leaf that keeps all rules shows what it is to show, but for what it costs.
use Rattle.std.proofs.Common.{◌≡◌, ℕ, zero, suc, ◌+◌, ◌^◌, ◌<◌, ◌≤◌, List, [], ◌∷◌, length, Some, None, refl, sym, ap, subst, inl, inr, arith}
use Rattle.std.specs.Prelude.{All, slice_get, Option}
use Rattle.std.proofs.lemmas.Bool.{cases_lt}
use Rattle.std.proofs.lemmas.Option.{none-some}
use Rattle.disp_model.specs.declared.train.Op.{Op}
use Rattle.disp_model.specs.declared.train.Component.{Component}
use Rattle.disp_model.specs.declared.tree.ComponentWalk.{ComponentWalk}
use Rattle.disp_model.specs.declared.tree.TrainWalks.{TrainWalks}
use Rattle.disp_model.specs.declared.tree.Leaf.{Leaf}
use Rattle.disp_model.specs.declared.tree.Leaf.TheVariants.{NoRoute, Cycle, Late, Costs, Shares}
use Rattle.disp_model.specs.declared.tree.Verdict.{Verdict}
use Rattle.disp_model.specs.declared.tree.Verdict.TheVariants.{Optimal}
use Rattle.disp_model.specs.Cost.{cost_at}
use Rattle.disp_model.specs.Node.{Node}
use Rattle.disp_model.specs.Routes.{HasRoute, HasNoRoute, IsForced}
use Rattle.disp_model.specs.Arcs.{HasArc}
use Rattle.disp_model.specs.Walks.{WalksOn, IsWalk, EndsIn, ClosesTo, IsCycle, lower_of}
use Rattle.disp_model.specs.Shares.{Arrival, AreWalksOn, shown_base, SharesCost}
use Rattle.disp_model.specs.Trees.{WalkCosts, WalksCost, Shows}
use Rattle.disp_laws.proofs.LongestArcs.{longest_arc}
use Rattle.disp_laws.proofs.RouteSearch.{has_route_or_not}
use Rattle.disp_laws.proofs.Shares.{share_exists}
use Rattle.tree_checker.specs.declared.why.Why.TheVariants.{BadName, HasRoute as SaysNothing, NotCycle, EmptyWalk, NotForced, BadArc, NotLate, RepeatedComponent, RepeatedTrain, WrongTrain, WrongEnd, NoVerdict, BelowCost}
use Rattle.tree_checker.specs.Rules.{HasArcs, IsJoinedBack, EndsRight, EndsOn, ShowsCosts, HasCost, KeepsAllRules, IsFirstRule, component_walks, listed_trains, rank_of_why, rule_at}
use Rattle.tree_checker.specs.Bounds.{IsCappedBound}
use Rattle.tree_checker.proofs.Ranking.{kept_unbroken}

-- ---- lists without their first element

tail_of : {X : Type 0} (P : X → Type 0) (x : X) (xs : List X) → All P (x ∷ xs) → All P xs
tail_of P x xs all k d lt = all (suc k) d (omega (arith, lt))

head_of : {X : Type 0} (P : X → Type 0) (x : X) (xs : List X) → All P (x ∷ xs) → P x
head_of P x xs all = all 0 x (omega arith)

arcs_behind : (node : Node) (u : Op) (rest : List Op) → HasArcs node (u ∷ rest) → HasArcs node rest
arcs_behind node u rest arcs i a b at next = let e : suc (i + 1) ≡ suc i + 1 = omega arith in arcs (suc i) a b at (subst (λ (n : ℕ). slice_get (u ∷ rest) n ≡ Some b) e next)

-- ---- cycles

closes : (node : Node) (first u : Op) (rest : List Op) → HasArcs node (u ∷ rest) → ((last : Op) → EndsIn (u ∷ rest) last → HasArc node last first) → ClosesTo node first u rest
closes node first u [] arcs back = back u ([], refl)
closes node first u (v ∷ rest) arcs back = (
  arcs 0 u v refl refl,
  closes node first v rest (arcs_behind node u (v ∷ rest) arcs) (λ last ends. back last (u ∷ ends.0, ap (λ (l : List Op). u ∷ l) ends.1)),
)

cycle_closes : (node : Node) (nodes : List Op) → 2 ≤ length nodes → HasArcs node nodes → IsJoinedBack node nodes → IsCycle node nodes
cycle_closes node [] long arcs back = absurd (omega (arith, long))
cycle_closes node (u ∷ []) long arcs back = absurd (omega (arith, long))
cycle_closes node (u ∷ v ∷ rest) long arcs back = closes node u u (v ∷ rest) arcs (λ last ends. back u last refl ends)

-- ---- walks

walks_on : (node : Node) (u : Op) (walked : ℕ) (rest : List Op) → HasArcs node (u ∷ rest) → (total : ℕ) × WalksOn node u walked rest total
walks_on node u walked [] arcs = (walked, refl)
walks_on node u walked (v ∷ rest) arcs =
    let arc = arcs 0 u v refl refl in
    let longest = longest_arc node u v arc.0 arc.1 in
    let onward = walks_on node v (walked + longest.0) rest (arcs_behind node u (v ∷ rest) arcs) in
    (onward.0, (longest.0, longest.1, onward.1))

is_walk : (node : Node) (walk : List Op) → (walk ≡ [] → ⊥) → All (IsForced node) walk → HasArcs node walk → (total : ℕ) × IsWalk node walk total
is_walk node [] some forced arcs = absurd (some refl)
is_walk node (u ∷ rest) some forced arcs = let on = walks_on node u (lower_of node.problem node.fixings u) rest arcs in (on.0, (head_of (IsForced node) u rest forced, on.1))

walk_costs : (node : Node) (w : ComponentWalk) → w.component < length node.problem.components → (w.walk ≡ [] → ⊥) → All (IsForced node) w.walk → HasArcs node w.walk → EndsRight node.problem w → (cost : ℕ) × WalkCosts node w cost
walk_costs node w lt some forced arcs right = by (slice_get node.problem.components w.component) refl
  where
    by : (found : Option Component) → slice_get node.problem.components w.component ≡ found → (cost : ℕ) × WalkCosts node w cost
    by None none = absurd (past node.problem.components w.component lt none)
      where
        past : (xs : List Component) (i : ℕ) → i < length xs → slice_get xs i ≡ None → ⊥
        past [] i lt e = omega (arith, lt)
        past (x ∷ xs) zero lt e = none_is e
          where
            none_is : ◌≡◌ {A = Option Component} (Some x) None → ⊥
            none_is e = none-some x (sym e)
        past (x ∷ xs) (suc i) lt e = past xs i (omega (arith, lt)) e
    by (Some c) there = let total = is_walk node w.walk some forced arcs in (cost_at c total.0, record { component = c; there = there; ends = right.ends c there; total = total.0; is_walk = total.1; cost_is = refl })

walks_cost : (node : Node) (walks : List ComponentWalk) → All (λ w. w.component < length node.problem.components) walks → All (λ w. w.walk ≡ [] → ⊥) walks → All (λ w. All (IsForced node) w.walk) walks → All (λ w. HasArcs node w.walk) walks
    → All (EndsRight node.problem) walks → (sum : ℕ) × WalksCost node walks sum
walks_cost node [] named some forced arcs right = (0, refl)
walks_cost node (w ∷ walks) named some forced arcs right =
    let one = walk_costs node w (head_of (λ w. w.component < length node.problem.components) w walks named) (head_of (λ w. w.walk ≡ [] → ⊥) w walks some) (head_of (λ w. All (IsForced node) w.walk) w walks forced)
    (head_of (λ w. HasArcs node w.walk) w walks arcs) (head_of (EndsRight node.problem) w walks right) in
    let more = walks_cost node walks (tail_of (λ w. w.component < length node.problem.components) w walks named) (tail_of (λ w. w.walk ≡ [] → ⊥) w walks some) (tail_of (λ w. All (IsForced node) w.walk) w walks forced)
    (tail_of (λ w. HasArcs node w.walk) w walks arcs) (tail_of (EndsRight node.problem) w walks right) in
    (one.0 + more.0, (one.0, more.0, one.1, more.1, refl))

-- ---- shares

ends_somewhere : (u : Op) (rest : List Op) → (o : Op) × EndsIn (u ∷ rest) o
ends_somewhere u [] = (u, ([], refl))
ends_somewhere u (v ∷ rest) = let more = ends_somewhere v rest in (more.0, (u ∷ more.1.0, ap (λ (l : List Op). u ∷ l) more.1.1))

arrives : (node : Node) (t : ℕ) (walk : List Op) → (walk ≡ [] → ⊥) → All (IsForced node) walk → HasArcs node walk → EndsOn t walk → (arrival : Arrival) × EndsIn walk (record { train = t; op = arrival.operation }) × IsWalk node walk arrival.total
arrives node t [] some forced arcs on = absurd (some refl)
arrives node t (u ∷ rest) some forced arcs on =
    let end = ends_somewhere u rest in
    let total = is_walk node (u ∷ rest) some forced arcs in
    (record { operation = end.0.op; total = total.0 }, subst (λ (n : ℕ). EndsIn (u ∷ rest) (record { train = n; op = end.0.op })) (on.ends end.0 end.1) end.1, total.1)

arrive : (node : Node) (t : ℕ) (walks : List (List Op)) → All (λ walk. walk ≡ [] → ⊥) walks → All (λ walk. All (IsForced node) walk) walks → All (HasArcs node) walks → All (EndsOn t) walks → (arrivals : List Arrival) × AreWalksOn node t walks arrivals
arrive node t [] some forced arcs on = ([], tt)
arrive node t (walk ∷ walks) some forced arcs on =
    let one = arrives node t walk (head_of (λ walk. walk ≡ [] → ⊥) walk walks some) (head_of (λ walk. All (IsForced node) walk) walk walks forced) (head_of (HasArcs node) walk walks arcs) (head_of (EndsOn t) walk walks on) in
    let more = arrive node t walks (tail_of (λ walk. walk ≡ [] → ⊥) walk walks some) (tail_of (λ walk. All (IsForced node) walk) walk walks forced) (tail_of (HasArcs node) walk walks arcs) (tail_of (EndsOn t) walk walks on) in
    (one.0 ∷ more.0, (one.1, one.2, more.1))

has_route : (node : Node) (t : ℕ) → t < length node.problem.trains → (HasNoRoute node → ⊥) → HasRoute node t
has_route node t lt routes = elim (has_route_or_not node t lt) [ inl is ↦ is | inr not ↦ absurd (routes (t, lt, not)) ]

shares_cost : (node : Node) (trains : List TrainWalks) → (HasNoRoute node → ⊥) → All (λ t. t.train < length node.problem.trains) trains → All (λ t. All (λ walk. walk ≡ [] → ⊥) t.walks) trains → All (λ t. All (λ walk. All (IsForced node) walk) t.walks) trains
    → All (λ t. All (HasArcs node) t.walks) trains → All (λ t. All (EndsOn t.train) t.walks) trains → (shares : ℕ) × SharesCost node trains shares
shares_cost node [] routes named some forced arcs on = (0, refl)
shares_cost node (t ∷ trains) routes named some forced arcs on =
    let lt = head_of (λ t. t.train < length node.problem.trains) t trains named in
    let walks = arrive node t.train t.walks (head_of (λ t. All (λ walk. walk ≡ [] → ⊥) t.walks) t trains some) (head_of (λ t. All (λ walk. All (IsForced node) walk) t.walks) t trains forced)
    (head_of (λ t. All (HasArcs node) t.walks) t trains arcs) (head_of (λ t. All (EndsOn t.train) t.walks) t trains on) in
    let share = share_exists node t.train (shown_base node t.train walks.0) lt (has_route node t.train lt routes) in
    let more = shares_cost node trains routes (tail_of (λ t. t.train < length node.problem.trains) t trains named) (tail_of (λ t. All (λ walk. walk ≡ [] → ⊥) t.walks) t trains some)
    (tail_of (λ t. All (λ walk. All (IsForced node) walk) t.walks) t trains forced) (tail_of (λ t. All (HasArcs node) t.walks) t trains arcs) (tail_of (λ t. All (EndsOn t.train) t.walks) t trains on) in
    (share.0 + more.0, (share.0, more.0, record { arrivals = walks.0; walks = walks.1; over = share.1 }, more.1, refl))

-- ---- leaves

-- walks and listed trains of a leaf that keeps all rules have costs
pub kept_costs : (node : Node) (verdict : Verdict) (leaf : Leaf) → (HasNoRoute node → ⊥) → KeepsAllRules node verdict leaf → (sum : ℕ) × (shares : ℕ) × WalksCost node (component_walks leaf) sum × SharesCost node (listed_trains leaf) shares
kept_costs node verdict leaf routes keeps =
    let names = keeps BadName in
    let some = keeps EmptyWalk in
    let forced = keeps NotForced in
    let arcs = (keeps BadArc).0 in
    let sum = walks_cost node (component_walks leaf) names.components some.components forced.components arcs.components (keeps WrongEnd) in
    let shares = shares_cost node (listed_trains leaf) routes names.trains some.trains forced.trains arcs.trains (keeps WrongTrain).1 in
    (sum.0, shares.0, sum.1, shares.1)

-- a leaf that keeps all rules and yet shows nothing is one of costs, under a verdict with a cost
pub kept_shows : (node : Node) (verdict : Verdict) (leaf : Leaf) → KeepsAllRules node verdict leaf → (Shows node verdict leaf → ⊥) → ShowsCosts leaf × HasCost verdict
kept_shows node verdict NoRoute keeps not = absurd (keeps SaysNothing)
kept_shows node verdict (Cycle nodes) keeps not = absurd (not (cycle_closes node nodes (keeps NotCycle) ((keeps BadArc).0.own 0 nodes (omega arith)) (keeps BadArc).1))
kept_shows node verdict (Late walk) keeps not = absurd (not (keeps NotLate))
kept_shows node verdict (Costs walks) keeps not = (tt, keeps NoVerdict)
kept_shows node verdict (Shares walks trains) keeps not = (tt, keeps NoVerdict)

-- costs that reach a verdict's show it
pub costs_show : (node : Node) (cost : ℕ) (leaf : Leaf) (sum shares : ℕ) → KeepsAllRules node (Optimal cost) leaf → ShowsCosts leaf → WalksCost node (component_walks leaf) sum → SharesCost node (listed_trains leaf) shares → cost ≤ sum + shares → Shows node (Optimal cost) leaf
costs_show node cost NoRoute sum shares keeps costs sum_is shares_is enough = absurd costs
costs_show node cost (Cycle nodes) sum shares keeps costs sum_is shares_is enough = absurd costs
costs_show node cost (Late walk) sum shares keeps costs sum_is shares_is enough = absurd costs
costs_show node cost (Costs walks) sum shares keeps costs sum_is shares_is enough = record { distinct = keeps RepeatedComponent; sum = sum; sum_is = sum_is; enough = omega (arith, enough, shares_is) }
costs_show node cost (Shares walks trains) sum shares keeps costs sum_is shares_is enough = record {
  distinct = keeps RepeatedComponent;
  distinct_trains = keeps RepeatedTrain;
  others = (keeps WrongTrain).0;
  sum = sum;
  sum_is = sum_is;
  shares = shares;
  shares_is = shares_is;
  enough = enough;
}

-- what it costs is the first rule that it breaks
pub below_first : (node : Node) (verdict : Verdict) (leaf : Leaf) (bound cost : ℕ) → verdict ≡ Optimal cost → cost < 2 ^ 64 → KeepsAllRules node verdict leaf → (Shows node verdict leaf → ⊥) → IsCappedBound node (component_walks leaf) (listed_trains leaf) bound
    → IsFirstRule node verdict leaf (BelowCost bound cost)
below_first node verdict leaf bound cost same small keeps not capped =
    subst (λ (v : Verdict). IsFirstRule node v leaf (BelowCost bound cost)) (sym same) (by (subst (λ (v : Verdict). KeepsAllRules node v leaf) same keeps) (subst (λ (v : Verdict). Shows node v leaf → ⊥) same not))
  where
    by : KeepsAllRules node (Optimal cost) leaf → (Shows node (Optimal cost) leaf → ⊥) → IsFirstRule node (Optimal cost) leaf (BelowCost bound cost)
    by keeps not = record {
      broken = (
        shown,
        record {
          verdict_is = refl;
          sum = capped.sum;
          sum_is = capped.sum_is;
          shares = capped.shares;
          shares_is = capped.shares_is;
          bound_is = omega (arith, capped.found_is, less, small);
          below = omega (arith, capped.found_is, less, small);
        },
      );
      first = λ other lower breaks. kept_unbroken node (Optimal cost) leaf other lower (keeps (rule_at (rank_of_why other))) breaks;
    }
      where
        shown : ShowsCosts leaf
        shown = (kept_shows node (Optimal cost) leaf keeps not).0

        less : capped.sum + capped.shares < cost
        less = elim (cases_lt (capped.sum + capped.shares) cost) [
          | inl lt ↦ lt
          | inr ge ↦ absurd (not (costs_show node cost leaf capped.sum capped.shares keeps shown capped.sum_is capped.shares_is ge))
        ]
