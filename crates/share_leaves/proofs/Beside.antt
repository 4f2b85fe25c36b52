-- Walks to components of trains that are not listed, one after another.
use Rattle.std.proofs.Common.{◌≡◌, ◌≢◌, ◌∙◌, ℕ, ◌+◌, ◌<◌, ◌≤◌, List, [], ◌∷◌, ◌++◌, length, Some, refl, sym, ap, subst, inl, inr, arith}
use Rattle.std.specs.Prelude.{slice_get, All}
use Rattle.std.proofs.lemmas.Option.{slice_get_within, get_or_from_slice_get, same_Some}
use Rattle.std.proofs.lemmas.List.{length-append}
use Rattle.std.proofs.lemmas.List.Elements.{All-push, All-weaker}
use Rattle.disp_model.specs.declared.train.Component.{Component}
use Rattle.disp_model.specs.declared.problem.Problem.{Problem}
use Rattle.disp_model.specs.declared.tree.ComponentWalk.{ComponentWalk}
use Rattle.disp_model.specs.declared.tree.TrainWalks.{TrainWalks}
use Rattle.disp_model.specs.Cost.{cost_at}
use Rattle.disp_model.specs.Node.{Node}
use Rattle.disp_model.specs.Nodes.{component_op}
use Rattle.disp_model.specs.Walks.{IsLongest}
use Rattle.disp_model.specs.Shares.{AreOfOthers}
use Rattle.disp_model.specs.Trees.{WalkCosts, WalksCost, FitsWalk}
use Rattle.disp_laws.proofs.Picked.{one_longest}
use Rattle.train_orders.proofs.Places.{get_push_cases}
use Rattle.cost_bound.specs.Bounds.{IsLongWalk, AreInOrder}
use Rattle.cost_bound.proofs.Walking.{walk_there}
use Rattle.cost_bound.proofs.Bounding.{costs_end, order_end, ops_fit}
use Rattle.share_bound.specs.Prices.{fitted}
use Rattle.share_leaves.specs.declared.walks.Walks.{Walks}
use Rattle.share_leaves.specs.Beside.{AreWalksBeside}

pub beside_none : (node : Node) (trains : List TrainWalks) (walks : Walks) → walks.walks ≡ []
    → walks.cost ≡ 0 → AreWalksBeside node trains 0 walks
beside_none node trains walks none cost = record {
  there = omega arith;
  sum = 0;
  costs = subst (λ (l : List ComponentWalk). WalksCost node l 0) (sym none) refl;
  reached = omega (arith, cost);
  order = subst AreInOrder (sym none) (λ i j v w less one other. absurd cc);
  below = subst (All (λ (w : ComponentWalk). w.component < 0)) (sym none)
      (λ k d less. absurd (omega (arith, less)));
  others = subst (λ (l : List ComponentWalk). AreOfOthers node.problem l trains) (sym none)
      (λ i j w listed c one other at. absurd cc);
  few = let all = ap (λ (l : List ComponentWalk). length l) none in omega (arith, all);
  fits = subst (All FitsWalk) (sym none) (λ k d less. absurd (omega (arith, less)));
}

pub beside_same : (node : Node) (trains : List TrainWalks) (place : ℕ) (c : Component)
    (walks : Walks) → slice_get node.problem.components place ≡ Some c
    → AreWalksBeside node trains place walks → AreWalksBeside node trains (place + 1) walks
beside_same node trains place c walks at before = record {
  there = omega (arith, slice_get_within node.problem.components place c at);
  sum = before.sum;
  costs = before.costs;
  reached = before.reached;
  order = before.order;
  below = All-weaker (λ (w : ComponentWalk). w.component < place)
      (λ (w : ComponentWalk). w.component < place + 1) (λ w small. omega (arith, small)) walks.walks
      before.below;
  others = before.others;
  few = omega (arith, before.few);
  fits = before.fits;
}

-- one walk more, whose component is of no listed train
others_end : (problem : Problem) (trains : List TrainWalks) (walks : List ComponentWalk)
    (w : ComponentWalk) (c : Component) → slice_get problem.components w.component ≡ Some c
    → All (λ listed. listed.train ≢ c.train) trains → AreOfOthers problem walks trains
    → AreOfOthers problem (walks ++ w ∷ []) trains
others_end problem trains walks w c at other before i j v listed d one there own = elim
    (get_push_cases walks w v i one) [
      | inl here ↦ before i j v listed d here there own
      | inr last ↦
          let named : slice_get problem.components v.component ≡ Some c = subst
          (λ (x : ComponentWalk). slice_get problem.components x.component ≡ Some c) last.1 at in
          let same : c ≡ d = same_Some c d (sym named ∙ own) in
          let apart : listed.train ≢ c.train = subst (λ (x : TrainWalks). x.train ≢ c.train)
          (get_or_from_slice_get trains j listed listed there)
          (other j listed (slice_get_within trains j listed there)) in
          λ (equal : d.train ≡ listed.train). apart (sym equal ∙ sym (ap (λ (x : Component). x.train) same))
    ]

pub beside_more : (node : Node) (trains : List TrainWalks) (place : ℕ) (c : Component)
    (walks new : Walks) (w : ComponentWalk) (length_there cost : ℕ)
    → slice_get node.problem.components place ≡ Some c → All (λ listed. listed.train ≢ c.train) trains
    → IsLongest node (component_op c) length_there → cost ≡ fitted (cost_at c length_there)
    → w.component ≡ place → IsLongWalk node (component_op c) w.walk
    → new.walks ≡ walks.walks ++ w ∷ [] → new.cost ≤ walks.cost + cost
    → AreWalksBeside node trains place walks → AreWalksBeside node trains (place + 1) new
beside_more node trains place c walks new w length_there cost at other longest cost_is is long pushed summed
    before = record {
      there = omega (arith, lt);
      sum = before.sum + cost_at c long.total;
      costs = rw pushed
          (costs_end node walks.walks w before.sum (cost_at c long.total) before.costs own);
      reached = omega (arith, summed, before.reached, cost_is, same);
      order = rw pushed (order_end walks.walks w place before.order before.below is);
      below = rw pushed (All-push (λ (v : ComponentWalk). v.component < place + 1) walks.walks w
          (All-weaker (λ (v : ComponentWalk). v.component < place)
          (λ (v : ComponentWalk). v.component < place + 1) (λ v small. omega (arith, small))
          walks.walks before.below) (omega (arith, is)));
      others = rw pushed (others_end node.problem trains walks.walks w c there other before.others);
      few = let all = ap (λ (l : List ComponentWalk). length l) pushed in
          omega (arith, all, length-append walks.walks (w ∷ []), before.few);
      fits = rw pushed (All-push FitsWalk walks.walks w before.fits (
        omega (arith, is, lt, node.problem.well_formed.components_fit),
        ops_fit node.problem w.walk (walk_there node w.walk long.total long.is_walk),
      ));
    }
  where
    lt : place < length node.problem.components
    lt = slice_get_within node.problem.components place c at

    there : slice_get node.problem.components w.component ≡ Some c
    there = subst (λ (n : ℕ). slice_get node.problem.components n ≡ Some c) (sym is) at

    same : cost_at c length_there ≡ cost_at c long.total
    same = ap (cost_at c)
        (one_longest node (component_op c) length_there long.total longest long.longest)

    own : WalkCosts node w (cost_at c long.total)
    own = record {
      component = c;
      there = there;
      ends = long.ends;
      total = long.total;
      is_walk = long.is_walk;
      cost_is = refl;
    }
