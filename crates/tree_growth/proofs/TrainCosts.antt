-- What the components of each train cost at its share: walks cost no more, nor do shares that a leaf shows.
use Rattle.std.proofs.Common.{◌≡◌, ℕ, zero, suc, ◌+◌, ◌<◌, ◌≤◌, inl, inr, List, [], ◌∷◌, length, Some, Bool, true, false, cond, refl, ap, subst, arith}
use Rattle.std.specs.Prelude.{nat_eq, sum_by, max}
use Rattle.std.proofs.lemmas.Bool.{cases_lt, eqb-true}
use Rattle.std.proofs.lemmas.Option.{none-some, same_Some}
use Rattle.disp_model.specs.declared.train.Op.{Op}
use Rattle.disp_model.specs.declared.train.Operation.{Operation}
use Rattle.disp_model.specs.declared.train.Component.{Component}
use Rattle.disp_model.specs.declared.tree.TrainWalks.{TrainWalks}
use Rattle.disp_model.specs.Cost.{cost_at}
use Rattle.disp_model.specs.Node.{Node}
use Rattle.disp_model.specs.Nodes.{IsDead}
use Rattle.disp_model.specs.Shares.{reached_from, cost_along, Arrival, AreWalksOn, greatest_to, shown_base, ShowsShare, IsBase, IsShare, AddsShare, SharesAddUp}
use Rattle.disp_model.specs.Train.{duration_of}
use Rattle.disp_model.specs.Valid.{train_at}
use Rattle.disp_model.specs.Walks.{lower_of, IsWalk, EndsIn}
use Rattle.disp_laws.proofs.Bounds.{share_some, share_same}
use Rattle.disp_laws.proofs.Costs.{costs_grow}
use Rattle.disp_laws.proofs.Paths.{is_in}
use Rattle.disp_laws.proofs.RouteSearch.{has_route_or_not}
use Rattle.disp_laws.proofs.Shares.{along_there, share_grows}
use Rattle.tree_growth.proofs.Walked.{end_forced, none_longer, lower_within}
use Rattle.tree_growth.proofs.Totals.{sum_to}

-- an operation is not reached before its base
base_reached : (base : ℕ → ℕ) (train : List Operation) (route : List ℕ) (time o total : ℕ) → reached_from base train time route o ≡ Some total → base o ≤ total
base_reached base train [] time o total at = absurd (none-some total at)
base_reached base train (p ∷ route) time o total at = by (nat_eq p o) refl at (λ later. base_reached base train route (max time (base p) + duration_of train p) o total later)
  where
    by : (b : Bool) → nat_eq p o ≡ b → cond b (Some (max time (base p))) (reached_from base train (max time (base p) + duration_of train p) route o) ≡ Some total
        → (reached_from base train (max time (base p) + duration_of train p) route o ≡ Some total → base o ≤ total) → base o ≤ total
    by true is found later = let same : base p ≡ base o = ap base (eqb-true p o is) in omega (arith, same, same_Some (max time (base p)) total found)
    by false is found later = later found

-- what the components of a train cost: together at most its share, and each at least what a walk to its operation says
pub record CostsOf (node : Node) (t share : ℕ) (costs : Component → ℕ) : Type 0 where
  pub is : IsShare node t share
  pub adds : sum_by costs node.problem.components ≤ share
  pub walked : (c : Component) (walk : List Op) (total : ℕ) → c.train ≡ t → IsWalk node walk total → EndsIn walk (record { train = t; op = c.operation }) → cost_at c total ≤ costs c

-- of each number: the train's share and costs, and nothing where there is no train
pub record OfTrain (node : Node) (t : ℕ) : Type 0 where
  pub share : ℕ
  pub costs : Component → ℕ
  pub known : t < length node.problem.trains → CostsOf node t share costs
  pub nothing : length node.problem.trains ≤ t → (c : Component) → costs c ≡ 0

module _ (node : Node) (alive : IsDead node → ⊥) where
  -- a walk is no longer than the base of its end
  within_base : (t o : ℕ) (walk : List Op) (total base : ℕ) → IsWalk node walk total → EndsIn walk (record { train = t; op = o }) → IsBase node (record { train = t; op = o }) base → total ≤ base
  within_base t o walk total base is ends (inl (forced, longest)) = none_longer node (λ cycle. alive (inr (inl cycle))) walk total (record { train = t; op = o }) base is ends longest
  within_base t o walk total base is ends (inr (free, same)) = absurd (free (end_forced node walk total (record { train = t; op = o }) is ends))

  -- at its share a train's components cost what they cost along the route of that share
  costs_of : (t share : ℕ) (is : IsShare node t share) → CostsOf node t share (cost_along t is.over.reach is.over.there.0)
  costs_of t share is = record {
    is = is;
    adds = omega (arith, is.over.there.2);
    walked = λ c walk total same walks ends.
        let route = is.over.there.0 in
        let allowed = is.over.there.1 in
        let on = (end_forced node walk total (record { train = t; op = c.operation }) walks ends).each_has route allowed in
        let reach = is.over.reach_is route c.operation allowed on in
        let late = base_reached is.base (train_at node.problem t) reach.there.0 0 c.operation (is.over.reach c.operation) reach.there.2 in
        let low = within_base t c.operation walk total (is.base c.operation) walks ends (is.base_is c.operation) in
        omega (arith, along_there t is.over.reach route c same (is_in c.operation route on), costs_grow c total (is.over.reach c.operation) (omega (arith, late, low)));
  }

  -- each train has a share, since the node is not dead
  pub of_train : (t : ℕ) → OfTrain node t
  of_train t = elim (cases_lt t (length node.problem.trains)) [
    | inl lt ↦ elim (has_route_or_not node t lt) [
      | inl has ↦
          let share = share_some node t lt has in
          record {
            share = share.0;
            costs = cost_along t share.1.over.reach share.1.over.there.0;
            known = λ there. costs_of t share.0 share.1;
            nothing = λ past. absurd (omega (arith, lt, past));
          }
      | inr none ↦ absurd (alive (inl (t, lt, none)))
    ]
    | inr le ↦ record { share = 0; costs = λ c. 0; known = λ lt. absurd (omega (arith, lt, le)); nothing = λ past c. refl }
  ]

  -- ---- the shares add up to the bound

  adds_share : (t cost : ℕ) → t < length node.problem.trains → AddsShare node t cost → cost ≡ (of_train t).share
  adds_share t cost lt (inl is) = share_same node t cost (of_train t).share is ((of_train t).known lt).is
  adds_share t cost lt (inr (none, same)) = absurd (alive (inl (t, lt, none)))

  pub shares_add : (n : ℕ) → n ≤ length node.problem.trains → (bound : ℕ) → SharesAddUp node n bound → bound ≡ sum_to n (λ t. (of_train t).share)
  shares_add zero le bound adds = adds
  shares_add (suc t) le bound adds =
      omega (arith, adds.4, adds_share t adds.0 (omega (arith, le)) adds.2, shares_add t (omega (arith, le)) adds.1 adds.3)

  -- ---- what is shown of a train is at most its share

  -- where no walk to an operation is longer than so much, neither is the greatest of those listed
  arrivals_within : (t o most : ℕ) (walks : List (List Op)) (arrivals : List Arrival) → AreWalksOn node t walks arrivals
      → ((walk : List Op) (total : ℕ) → IsWalk node walk total → EndsIn walk (record { train = t; op = o }) → total ≤ most) → greatest_to o arrivals ≤ most
  arrivals_within t o most [] [] are each = omega arith
  arrivals_within t o most [] (a ∷ arrivals) are each = absurd are
  arrivals_within t o most (w ∷ walks) [] are each = absurd are
  arrivals_within t o most (w ∷ walks) (a ∷ arrivals) are each = by (nat_eq a.operation o) refl (arrivals_within t o most walks arrivals are.2 each)
    where
      by : (b : Bool) → nat_eq a.operation o ≡ b → greatest_to o arrivals ≤ most → cond b (max a.total (greatest_to o arrivals)) (greatest_to o arrivals) ≤ most
      by false is rest = rest
      by true is rest =
          let ends : EndsIn w (record { train = t; op = o }) = subst (λ (p : ℕ). EndsIn w (record { train = t; op = p })) (eqb-true a.operation o is) are.0 in
          omega (arith, rest, each w a.total are.1 ends)

  lower_in_base : (o : Op) (base : ℕ) → IsBase node o base → lower_of node.problem node.fixings o ≤ base
  lower_in_base o base (inl (forced, longest)) = lower_within node (λ cycle. alive (inr (inl cycle))) o base forced longest
  lower_in_base o base (inr (free, same)) = omega (arith, same)

  pub shown_within : (listed : TrainWalks) (shown share : ℕ) → ShowsShare node listed shown → IsShare node listed.train share → shown ≤ share
  shown_within listed shown share shows is =
      let t = listed.train in
      share_grows node node t (shown_base node t shows.arrivals) is.base shown share refl (λ route allowed. allowed)
      (λ o. omega (
        arith,
        lower_in_base (record { train = t; op = o }) (is.base o) (is.base_is o),
        arrivals_within t o (is.base o) listed.walks shows.arrivals shows.walks (λ walk total walks ends. within_base t o walk total (is.base o) walks ends (is.base_is o)),
      )) shows.over is.over
