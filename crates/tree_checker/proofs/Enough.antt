-- Whether walks cost together as much as a verdict says.
use Rattle.std.proofs.Common.{◌≡◌, ℕ, ◌^◌, ◌<◌, List, [], ◌∷◌, refl, sym, ap, ◌∙◌, arith}
use Rattle.std.specs.Prelude.{nat_le, IsTrue, ◌↔◌}
use Rattle.std.proofs.lemmas.Bool.{leb-true, le-leb}
use Rattle.std.proofs.lemmas.Option.{same_Some}
use Rattle.disp_model.specs.declared.train.Component.{Component}
use Rattle.disp_model.specs.declared.train.Op.{Op}
use Rattle.disp_model.specs.declared.tree.ComponentWalk.{ComponentWalk}
use Rattle.disp_model.specs.declared.tree.TrainWalks.{TrainWalks}
use Rattle.disp_model.specs.Cost.{cost_at}
use Rattle.disp_model.specs.Node.{Node}
use Rattle.disp_model.specs.Walks.{EndsIn}
use Rattle.disp_model.specs.Shares.{Arrival, AreWalksOn, shown_base, ShowsShare, SharesCost, HaveDistinctTrains, AreOfOthers}
use Rattle.disp_model.specs.Trees.{WalkCosts, WalksCost, HaveDistinct, CostsEnough, SharesEnough}
use Rattle.disp_laws.proofs.LongestWalks.{is_walk_same}
use Rattle.disp_laws.proofs.Shares.{one_share}
use Rattle.node_facts.proofs.Lengths.{ends_is}
use Rattle.node_facts.specs.Costs.{IsCappedSum}
use Rattle.tree_checker.specs.Bounds.{IsCappedBound}

walk_costs_once : (node : Node) (w : ComponentWalk) (a b : ℕ) → WalkCosts node w a → WalkCosts node w b → a ≡ b
walk_costs_once node w a b one other =
    let same : one.component ≡ other.component = same_Some one.component other.component (sym one.there ∙ other.there) in
    let total = is_walk_same node w.walk one.total other.total one.is_walk other.is_walk in
    one.cost_is ∙ ap (cost_at one.component) total ∙ ap (λ (c : Component). cost_at c other.total) same ∙ sym other.cost_is

-- walks have one cost together
pub walks_cost_once : (node : Node) (walks : List ComponentWalk) (a b : ℕ) → WalksCost node walks a → WalksCost node walks b → a ≡ b
walks_cost_once node [] a b one other = one ∙ sym other
walks_cost_once node (w ∷ walks) a b one other =
    omega (arith, walk_costs_once node w one.0 other.0 one.2 other.2, walks_cost_once node walks one.1 other.1 one.3 other.3, one.4, other.4)

pub enough_is : (node : Node) (walks : List ComponentWalk) (bound cost wide : ℕ) → HaveDistinct walks → IsCappedSum node walks bound → wide ≡ cost → cost < 2 ^ 64 → IsTrue (nat_le wide bound) ↔ CostsEnough node walks cost
enough_is node walks bound cost wide distinct capped same small = (
  λ reached. record { distinct = distinct; sum = capped.sum; sum_is = capped.sum_is; enough = omega (arith, leb-true wide bound reached, same, capped.found_is) },
  λ enough.
      let once = walks_cost_once node walks enough.sum capped.sum enough.sum_is capped.sum_is in
      le-leb wide bound (omega (arith, same, small, once, enough.enough, capped.found_is)),
)

-- ---- shares

one_end : (walk : List Op) (o p : Op) → EndsIn walk o → EndsIn walk p → o ≡ p
one_end walk o p one other = same_Some o p ((ends_is walk one.0 o p one.1).1 other)

pub arrivals_once : (node : Node) (t : ℕ) (walks : List (List Op)) (xs ys : List Arrival) → AreWalksOn node t walks xs → AreWalksOn node t walks ys → xs ≡ ys
arrivals_once node t [] [] [] one other = refl
arrivals_once node t [] [] (y ∷ ys) one other = absurd other
arrivals_once node t [] (x ∷ xs) ys one other = absurd one
arrivals_once node t (w ∷ walks) [] ys one other = absurd one
arrivals_once node t (w ∷ walks) (x ∷ xs) [] one other = absurd other
arrivals_once node t (w ∷ walks) (x ∷ xs) (y ∷ ys) one other =
    let place : x.operation ≡ y.operation = ap (λ (o : Op). o.op) (one_end w (record { train = t; op = x.operation }) (record { train = t; op = y.operation }) one.0 other.0) in
    let total : x.total ≡ y.total = is_walk_same node w x.total y.total one.1 other.1 in
    let first : x ≡ y = ap (λ (n : ℕ). record { operation = n; total = x.total }) place ∙ ap (λ (n : ℕ). record { operation = y.operation; total = n }) total in
    ap (λ (a : Arrival). a ∷ xs) first ∙ ap (λ (l : List Arrival). y ∷ l) (arrivals_once node t walks xs ys one.2 other.2)

share_once : (node : Node) (listed : TrainWalks) (a b : ℕ) → ShowsShare node listed a → ShowsShare node listed b → a ≡ b
share_once node listed a b one other =
    let same = arrivals_once node listed.train listed.walks one.arrivals other.arrivals one.walks other.walks in
    one_share node listed.train (shown_base node listed.train one.arrivals) (shown_base node listed.train other.arrivals) a b
    (λ o. ap (λ (l : List Arrival). shown_base node listed.train l o) same) one.over other.over

-- listed trains have one share together
pub shares_cost_once : (node : Node) (trains : List TrainWalks) (a b : ℕ) → SharesCost node trains a → SharesCost node trains b → a ≡ b
shares_cost_once node [] a b one other = one ∙ sym other
shares_cost_once node (listed ∷ trains) a b one other =
    omega (arith, share_once node listed one.0 other.0 one.2 other.2, shares_cost_once node trains one.1 other.1 one.3 other.3, one.4, other.4)

pub shares_enough_is : (node : Node) (walks : List ComponentWalk) (trains : List TrainWalks) (bound cost wide : ℕ) → HaveDistinct walks → HaveDistinctTrains trains → AreOfOthers node.problem walks trains → IsCappedBound node walks trains bound → wide ≡ cost → cost < 2 ^ 64
    → IsTrue (nat_le wide bound) ↔ SharesEnough node walks trains cost
shares_enough_is node walks trains bound cost wide distinct distinct_trains others capped same small = (
  λ reached. record {
    distinct = distinct;
    distinct_trains = distinct_trains;
    others = others;
    sum = capped.sum;
    sum_is = capped.sum_is;
    shares = capped.shares;
    shares_is = capped.shares_is;
    enough = omega (arith, leb-true wide bound reached, same, capped.found_is);
  },
  λ enough.
      let once = walks_cost_once node walks enough.sum capped.sum enough.sum_is capped.sum_is in
      let shares = shares_cost_once node trains enough.shares capped.shares enough.shares_is capped.shares_is in
      le-leb wide bound (omega (arith, same, small, once, shares, enough.enough, capped.found_is)),
)
