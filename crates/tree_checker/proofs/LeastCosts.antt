-- What a train costs at least is what the passes over its ways find.
use Rattle.std.proofs.Common.{◌≡◌, ℕ, ◌+◌, ◌<◌, ◌≤◌, List, [], ◌∷◌, length, cond, Option, Some, None, refl, sym, ap, subst, ◌∙◌, inl, inr, arith}
use Rattle.std.specs.Prelude.{nat_eq, max, unwrap_or}
use Rattle.std.proofs.lemmas.Option.{none-some, same_Some}
use Rattle.disp_model.specs.declared.train.Operation.{Operation}
use Rattle.disp_model.specs.Train.{duration_of}
use Rattle.disp_model.specs.Valid.{train_at}
use Rattle.disp_model.specs.Node.{Node}
use Rattle.disp_model.specs.Routes.{IsAllowed}
use Rattle.disp_model.specs.Shares.{reached_from, IsReach, route_cost, IsShareOver}
use Rattle.disp_laws.proofs.Paths.{IsIn, contains_in}
use Rattle.disp_laws.proofs.RouteSearch.{each_within}
use Rattle.disp_laws.proofs.Shares.{route_grows, reached_in, share_exists, train_there}
use Rattle.node_facts.specs.declared.demands.Demand.{Demand}
use Rattle.node_facts.specs.Ways.{IsWay}
use Rattle.route_marks.specs.Marks.{sum_at}
use Rattle.node_facts.proofs.Allowing.{IsAsked, allowed_is_way, way_is_allowed, way_goes}
use Rattle.node_facts.proofs.Stepping.{Through, through}
use Rattle.problem_facts.specs.Prices.{own_price}
use Rattle.tree_checker.specs.TrainCosts.{Comes, AreEntered, base_by, reach_by, price_along, AreCosts, IsLeastCost}
use Rattle.tree_checker.proofs.Coming.{way_comes, comes_way}
use Rattle.tree_checker.proofs.Priced.{route_price}

-- ---- reaches

-- the least time at which an operation is reached along an allowed route is the one that is kept
same_reach : (node : Node) (t : ℕ) (order places : List ℕ) (demands : List Demand) (e : ℕ) (bases : List ℕ) (entered : List (Option ℕ)) (o total : ℕ) → IsAsked node t order places demands e
    → AreEntered (train_at node.problem t) places demands (base_by bases) e entered → IsReach node t (base_by bases) o total → total ≡ reach_by entered bases o
same_reach node t order places demands e bases entered o total is kept reach = omega (arith, later, found.2, kept_is)
  where
    train : List Operation
    train = train_at node.problem t

    route : List ℕ
    route = reach.there.0

    whole : (rest : List ℕ) × (route ≡ e ∷ rest) × IsWay train places demands e rest
    whole = allowed_is_way node t order places demands e route is reach.there.1

    at : reached_from (base_by bases) train 0 (e ∷ whole.0) o ≡ Some total
    at = subst (λ (l : List ℕ). reached_from (base_by bases) train 0 l o ≡ Some total) whole.1 reach.there.2

    front : (front : List ℕ) × Comes train places demands (base_by bases) e 0 front o total
    front = way_comes train places demands (base_by bases) e 0 whole.0 o total whole.2 at

    found : (x : ℕ) × (sum_at entered o ≡ Some x) × (max x (base_by bases o) ≤ total)
    found = kept.least o total front.0 front.1

    kept_is : reach_by entered bases o ≡ max found.0 (base_by bases o)
    kept_is = ap (λ (x : Option ℕ). max (unwrap_or x 0) (base_by bases o)) found.1

    back : Through train places demands e o whole.0
    back = through train places demands e o whole.0 whole.2 (reached_in (base_by bases) train 0 (e ∷ whole.0) o total at)

    joined : (rest : List ℕ) × IsWay train places demands e rest × (reached_from (base_by bases) train 0 (e ∷ rest) o ≡ Some (max found.0 (base_by bases o)))
    joined = let way = kept.there o found.0 found.1 in comes_way train places demands (base_by bases) e 0 way.0 o (max found.0 (base_by bases o)) back.back is.laid.acyclic way.1 back.way

    later : total ≤ max found.0 (base_by bases o)
    later = reach.least (e ∷ joined.0) (max found.0 (base_by bases o)) (way_is_allowed node t order places demands e joined.0 is joined.1) joined.2

-- ---- what a train costs

pub least_cost_is : (node : Node) (t : ℕ) (order places : List ℕ) (demands : List Demand) (e : ℕ) (bases : List ℕ) (entered costs : List (Option ℕ)) → IsAsked node t order places demands e
    → AreEntered (train_at node.problem t) places demands (base_by bases) e entered
    → AreCosts (train_at node.problem t) places demands (own_price node.problem.components t (reach_by entered bases)) costs → IsLeastCost node t (base_by bases) (sum_at costs e)
least_cost_is node t order places demands e bases entered costs is kept paid = by (sum_at costs e) refl
  where
    train : List Operation
    train = train_at node.problem t

    reach : ℕ → ℕ
    reach = reach_by entered bases

    price : ℕ → ℕ
    price = own_price node.problem.components t reach

    -- a route costs by the kept reaches what it costs by those of a share
    same_cost : (share : ℕ) (over : IsShareOver node t (base_by bases) share) (rest : List ℕ) → IsWay train places demands e rest → price_along price (e ∷ rest) ≡ route_cost node.problem t over.reach (e ∷ rest)
    same_cost share over rest way =
        let allowed = way_is_allowed node t order places demands e rest is way in
        let same = λ (o : ℕ) (there : IsIn o (e ∷ rest)). same_reach node t order places demands e bases entered o (over.reach o) is kept (over.reach_is (e ∷ rest) o allowed (contains_in o (e ∷ rest) there)) in
        let whole = route_price node.problem train t reach e rest is.laid.acyclic (way_goes train places demands e rest way) in
        omega (
          arith,
          whole,
          route_grows node.problem t reach over.reach (e ∷ rest) (λ o there. omega (arith, same o there)),
          route_grows node.problem t over.reach reach (e ∷ rest) (λ o there. omega (arith, same o there)),
        )

    -- what is kept at the entry is no more than a share
    found : (share : ℕ) (over : IsShareOver node t (base_by bases) share) → (cost : ℕ) × (sum_at costs e ≡ Some cost) × (cost ≤ share)
    found share over =
        let way = allowed_is_way node t order places demands e over.there.0 is over.there.1 in
        let least = paid.least e way.0 way.2 in
        let costs_share = sym (ap (route_cost node.problem t over.reach) way.1) ∙ over.there.2 in
        (least.0, least.1, omega (arith, least.2, same_cost share over way.0 way.2, costs_share))

    by : (kept_cost : Option ℕ) → sum_at costs e ≡ kept_cost → IsLeastCost node t (base_by bases) kept_cost
    by None none = λ share over. let least = found share over in none-some least.0 (sym none ∙ least.1)
    by (Some cost) at =
        let way = paid.there e cost at in
        let allowed = way_is_allowed node t order places demands e way.0 is way.1 in
        let share = share_exists node t (base_by bases) (train_there node t (e ∷ way.0) allowed) (e ∷ way.0, allowed) in
        let least = found share.0 share.1 in
        let same : least.0 ≡ cost = same_Some least.0 cost (sym least.1 ∙ at) in
        record { share = share.0; share_is = share.1; found_is = omega (arith, way.2, same, least.2, same_cost share.0 share.1 way.0 way.1, share.1.least (e ∷ way.0) allowed) }

-- ---- other bases that are the same on the train

reached_same : (low high : ℕ → ℕ) (train : List Operation) (time : ℕ) (route : List ℕ) (o : ℕ) → ((p : ℕ) → IsIn p route → low p ≡ high p) → reached_from low train time route o ≡ reached_from high train time route o
reached_same low high train time [] o each = refl
reached_same low high train time (p ∷ route) o each =
    ap (λ (b : ℕ). cond (nat_eq p o) (Some (max time b)) (reached_from low train (max time b + duration_of train p) route o)) (each p (inl refl))
    ∙ ap (λ (x : Option ℕ). cond (nat_eq p o) (Some (max time (high p))) x) (reached_same low high train (max time (high p) + duration_of train p) route o (λ q there. each q (inr there)))

pub share_moves : (node : Node) (t : ℕ) (low high : ℕ → ℕ) (share : ℕ) → ((o : ℕ) → o < length (train_at node.problem t) → low o ≡ high o) → IsShareOver node t low share → IsShareOver node t high share
share_moves node t low high share same over = record {
  reach = over.reach;
  reach_is = λ route o allowed on.
      let reach = over.reach_is route o allowed on in
      record {
        there = (reach.there.0, reach.there.1, sym (moves reach.there.0 o reach.there.1) ∙ reach.there.2);
        least = λ other total is at. reach.least other total is (moves other o is ∙ at);
      };
  there = over.there;
  least = over.least;
}
  where
    within : (route : List ℕ) → IsAllowed node t route → (p : ℕ) → IsIn p route → p < length (train_at node.problem t)
    within [] allowed p there = absurd there
    within (o ∷ rest) allowed p there = each_within (train_at node.problem t) o rest allowed.is_route.1 p there

    moves : (route : List ℕ) (o : ℕ) → IsAllowed node t route → reached_from low (train_at node.problem t) 0 route o ≡ reached_from high (train_at node.problem t) 0 route o
    moves route o allowed = reached_same low high (train_at node.problem t) 0 route o (λ p there. same p (within route allowed p there))
