-- Shares that a leaf shows and walks to components of other trains cost together at most the bound.
use Rattle.std.proofs.Common.{◌≡◌, ℕ, suc, ◌+◌, ◌<◌, ◌≤◌, inl, inr, List, [], ◌∷◌, length, map, Some, Bool, true, false, cond, refl, sym, ap, arith}
use Rattle.std.specs.Prelude.{nat_eq, slice_get, sum_by, ◌⊎◌, ◌||◌}
use Rattle.std.specs.List.{list_any}
use Rattle.std.proofs.lemmas.Bool.{cases_Bool, cases_lt, eq-eqb}
use Rattle.std.proofs.lemmas.List.Sums.{sum_by-cons}
use Rattle.disp_model.specs.declared.train.Component.{Component}
use Rattle.disp_model.specs.declared.tree.ComponentWalk.{ComponentWalk}
use Rattle.disp_model.specs.declared.tree.TrainWalks.{TrainWalks}
use Rattle.disp_model.specs.Node.{Node}
use Rattle.disp_model.specs.Nodes.{component_op, IsDead}
use Rattle.disp_model.specs.Shares.{SharesCost, HaveDistinctTrains, SharesAddUp}
use Rattle.disp_model.specs.Trees.{SharesEnough}
use Rattle.disp_laws.proofs.Costs.{total_of_map, cost_at_place, EachWithin, walks_within}
use Rattle.disp_laws.proofs.Paths.{IsIn}
use Rattle.disp_laws.proofs.Shares.{train_there, any_in}
use Rattle.tree_growth.proofs.Totals.{sum_to, sum_to_le, take_out, by_numbers}
use Rattle.tree_growth.proofs.Walked.{end_forced}
use Rattle.tree_growth.proofs.TrainCosts.{of_train, shares_add, shown_within}

-- ---- which trains are listed: their numbers, and whether one is among them

abbrev names_of : List TrainWalks → List ℕ
names_of trains = map (λ listed. listed.train) trains

abbrev is_listed : List TrainWalks → ℕ → Bool
is_listed trains t = list_any (λ u. nat_eq u t) (names_of trains)

listed_there : (trains : List TrainWalks) (t : ℕ) → IsIn t (names_of trains) → (j : ℕ) × (listed : TrainWalks) × (slice_get trains j ≡ Some listed) × (listed.train ≡ t)
listed_there [] t there = absurd there
listed_there (listed ∷ trains) t (inl same) = (0, listed, refl, same)
listed_there (listed ∷ trains) t (inr there) = let found = listed_there trains t there in (suc found.0, found.1, found.2, found.3)

not_listed : (trains : List TrainWalks) (t : ℕ) → ((j : ℕ) (listed : TrainWalks) → slice_get trains j ≡ Some listed → t ≡ listed.train → ⊥) → is_listed trains t ≡ false
not_listed trains t other = elim (cases_Bool (is_listed trains t)) [
  | inl is ↦ let found = listed_there trains t (any_in t (names_of trains) is) in absurd (other found.0 found.1 found.2 (sym found.3))
  | inr not ↦ not
]

-- ---- what is left where a train is listed

one_less : (b l : Bool) (x : ℕ) → cond (b || l) 0 x ≤ cond l 0 x
one_less true l x = omega arith
one_less false l x = omega arith

one_off : (s x : ℕ) (l : Bool) → cond (nat_eq s s || l) 0 x ≡ 0
one_off s x l = rw (eq-eqb s s refl) refl

nothing_off : (b : Bool) (x : ℕ) → x ≡ 0 → cond b 0 x ≡ 0
nothing_off true x none = refl
nothing_off false x none = none

sum_nothing : (f : Component → ℕ) (components : List Component) → ((c : Component) → f c ≡ 0) → sum_by f components ≡ 0
sum_nothing f [] each = refl
sum_nothing f (c ∷ components) each = omega (arith, sum_by-cons f c components, each c, sum_nothing f components each)

sum_off : (b : Bool) (f : Component → ℕ) (components : List Component) (most : ℕ) → sum_by f components ≤ most → sum_by (λ c. cond b 0 (f c)) components ≤ cond b 0 most
sum_off true f components most le = omega (arith, sum_nothing (λ c. 0) components (λ c. refl))
sum_off false f components most le = le

module _ (node : Node) (alive : IsDead node → ⊥) where
  -- how many trains there are, and the share of each
  abbrev count : ℕ
  count = length node.problem.trains

  abbrev share_of : ℕ → ℕ
  share_of t = (of_train node alive t).share

  -- the shares of trains that are not listed
  abbrev others_share : List TrainWalks → ℕ → ℕ
  others_share trains t = cond (is_listed trains t) 0 (share_of t)

  -- the shares of the listed trains and those of the others add up to at most all shares
  shown_add : (trains : List TrainWalks) (shares : ℕ) → HaveDistinctTrains trains → SharesCost node trains shares → shares + sum_to count (others_share trains) ≤ sum_to count share_of
  shown_add [] shares distinct costs = omega (arith, costs, sum_to_le count (others_share []) share_of (λ t lt. omega arith))
  shown_add (listed ∷ trains) shares distinct costs =
      let s = listed.train in
      let shows = costs.2 in
      let there : s < count = train_there node s shows.over.there.0 shows.over.there.1 in
      let rest = shown_add trains costs.1 (λ i j u v lt at more. distinct (suc i) (suc j) u v (omega (arith, lt)) at more) costs.3 in
      let free : is_listed trains s ≡ false = not_listed trains s (λ j other at same. distinct 0 (suc j) listed other (omega arith) refl at same) in
      let whole : others_share trains s ≡ share_of s = ap (λ (b : Bool). cond b 0 (share_of s)) free in
      let within = shown_within node alive listed costs.0 (share_of s) shows ((of_train node alive s).known there).is in
      let here : costs.0 + others_share (listed ∷ trains) s ≤ others_share trains s = omega (arith, whole, within, one_off s (share_of s) (is_listed trains s)) in
      let out = take_out count s costs.0 (others_share trains) (others_share (listed ∷ trains)) there here (λ t. one_less (nat_eq s t) (is_listed trains t) (share_of t)) in
      omega (arith, costs.4, rest, out)

  -- what components of trains that are not listed cost at their trains' shares
  abbrev others_cost : List TrainWalks → ℕ → Component → ℕ
  others_cost trains t c = cond (is_listed trains t) 0 ((of_train node alive t).costs c)

  -- each component is of a train that there is, or costs nothing
  numbered : (trains : List TrainWalks) (c : Component) → (c.train < count) ⊎ (others_cost trains c.train c ≡ 0)
  numbered trains c = elim (cases_lt c.train count) [
    | inl lt ↦ inl lt
    | inr le ↦ inr (nothing_off (is_listed trains c.train) ((of_train node alive c.train).costs c) ((of_train node alive c.train).nothing le c))
  ]

  -- what all components of other trains cost is within the shares of these
  walks_add : (trains : List TrainWalks) → sum_by (λ (c : Component). others_cost trains c.train c) node.problem.components ≤ sum_to count (others_share trains)
  walks_add trains =
      let all = node.problem.components in
      let by = by_numbers (others_cost trains) (λ c. c.train) count (numbered trains) all in
      let each = sum_to_le count (λ t. sum_by (others_cost trains t) all) (others_share trains)
      (λ t lt. sum_off (is_listed trains t) (of_train node alive t).costs all (share_of t) ((of_train node alive t).known lt).adds) in
      omega (arith, by, each)

  -- a leaf of shares reaches no more than the bound
  pub shares_low : (walks : List ComponentWalk) (trains : List TrainWalks) (kept bound : ℕ) → SharesEnough node walks trains kept → SharesAddUp node count bound → kept ≤ bound
  shares_low walks trains kept bound shown is =
      let all = node.problem.components in
      let each : EachWithin node walks (map (λ (c : Component). others_cost trains c.train c) all) =
      λ i w cost at costs.
      let c = costs.component in
      let t = c.train in
      let place = cost_at_place (λ (d : Component). others_cost trains d.train d) all w.component c costs.there in
      let free : is_listed trains t ≡ false = not_listed trains t (λ j listed there. shown.others i j w listed c at there costs.there) in
      let whole : others_cost trains t c ≡ (of_train node alive t).costs c = ap (λ (b : Bool). cond b 0 ((of_train node alive t).costs c)) free in
      let lt : t < count = (end_forced node w.walk costs.total (component_op c) costs.is_walk costs.ends).train in
      let walked = ((of_train node alive t).known lt).walked c w.walk costs.total refl costs.is_walk costs.ends in
      omega (arith, place, whole, costs.cost_is, walked) in
      omega (
        arith,
        shown.enough,
        walks_within node walks shown.sum (map (λ (c : Component). others_cost trains c.train c) all) shown.sum_is shown.distinct each,
        total_of_map (λ (c : Component). others_cost trains c.train c) all,
        walks_add trains,
        shown_add trains shown.shares shown.distinct_trains shown.shares_is,
        shares_add node alive count (omega arith) bound is,
      )
