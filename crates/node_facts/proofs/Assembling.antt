-- A train of a problem, as it is read.
use Rattle.std.proofs.Common.{◌≡◌, ℕ, ◌-◌, ◌^◌, ◌<◌, ◌≤◌, List, [], ◌∷◌, suc, length, get_or, Some, refl, sym, ap, subst, ◌∙◌, arith}
use Rattle.std.specs.Prelude.{nat_eq, slice_get}
use Rattle.std.specs.List.{IsDistinct}
use Rattle.std.proofs.lemmas.Option.{slice_get-get_or}
use Rattle.std.proofs.lemmas.List.{get_or_default}
use Rattle.std.proofs.lemmas.List.Sums.{get_or-le-sum_by}
use Rattle.std.proofs.lemmas.Map.Steps.{length-le_from_distinct_below}
use Rattle.disp_model.specs.declared.train.Operation.{Operation}
use Rattle.disp_model.specs.declared.fixing.Fixing.{Fixing}
use Rattle.disp_model.specs.declared.decision.Decision.{Decision}
use Rattle.disp_model.specs.declared.problem.Problem.{Problem}
use Rattle.disp_model.specs.Train.{IsEntry}
use Rattle.disp_model.specs.WellFormed.{IsAcyclic}
use Rattle.disp_model.specs.Valid.{train_at}
use Rattle.disp_model.specs.Node.{node_at}
use Rattle.disp_laws.proofs.Paths.{contains_in}
use Rattle.disp_laws.proofs.RouteSearch.{not_among, any_is_in}
use Rattle.train_orders.specs.Orders.{IsInside, IsOrder}
use Rattle.train_orders.proofs.Places.{at_contains}
use Rattle.train_orders.proofs.Ordered.{one_place, has_last, last_is_entry}
use Rattle.node_facts.specs.declared.train.TrainKnowledge.{TrainKnowledge}
use Rattle.node_facts.specs.Demands.{AreDemands}
use Rattle.node_facts.specs.Ways.{AreSums}
use Rattle.route_marks.specs.Ways.{last_of}
use Rattle.route_marks.specs.Marks.{ArePlaces}
use Rattle.node_facts.specs.Holders.{AreHolders}
use Rattle.node_facts.specs.Known.{AreOnEach, IsKnown}

pub train_read : (trains items : List (List Operation)) (t : ℕ) (found operations : List Operation) → items ≡ trains → found ≡ get_or items t found → operations ≡ found → t < length trains → get_or trains t [] ≡ operations
train_read trains items t found operations same is read lt =
    get_or_default trains t [] found lt ∙ sym (subst (λ (l : List (List Operation)). found ≡ get_or l t found) same is) ∙ sym read

pub is_inside : (problem : Problem) (t : ℕ) (operations : List Operation) → train_at problem t ≡ operations → t < length problem.trains → IsInside operations
is_inside problem t operations e there = subst IsInside e (λ k d lt. (problem.well_formed.references t [] there k d lt).next)

pub is_acyclic : (problem : Problem) (t : ℕ) → t < length problem.trains → IsAcyclic (train_at problem t)
is_acyclic problem t there = problem.well_formed.acyclic t [] there

pub train_fits : (problem : Problem) (t : ℕ) → t < length problem.trains → length (train_at problem t) < 2 ^ 31
train_fits problem t there = omega (arith, get_or-le-sum_by (λ (train : List Operation). length train) problem.trains t [] there, problem.well_formed.operations_fit)

distinct : (xs : List ℕ) → ((i j o : ℕ) → slice_get xs i ≡ Some o → slice_get xs j ≡ Some o → i ≡ j) → IsDistinct nat_eq xs
unfolding IsDistinct
distinct [] once = tt
distinct (x ∷ xs) once = (
  not_among x xs (λ there. let found = at_contains xs x (contains_in x xs there) in let same : 0 ≡ suc found.0 = once 0 (suc found.0) x refl found.1 in omega (arith, same)),
  distinct xs (λ i j o first second. let same : suc i ≡ suc j = once (suc i) (suc j) o first second in omega (arith, same)),
)

order_within : (train : List Operation) (order : List ℕ) → IsOrder train order → length order ≤ length train
order_within train order is =
    length-le_from_distinct_below order (length train) (distinct order (λ i j o first second. one_place train order i j o is first second)) (λ q there. is.is_behind.within q (contains_in q order (any_is_in q order there)))

pub order_fits : (problem : Problem) (t : ℕ) (operations : List Operation) (order items : List ℕ) → train_at problem t ≡ operations → t < length problem.trains → IsOrder operations order → items ≡ order → length items < 2 ^ 31
order_fits problem t operations order items e there is same =
    let short = order_within operations order is in
    let long : length operations ≡ length (train_at problem t) = ap (λ (l : List Operation). length l) (sym e) in
    let length_is : length items ≡ length order = ap (λ (l : List ℕ). length l) same in
    omega (arith, short, long, length_is, train_fits problem t there)

pub known_of : (problem : Problem) (fixings : List Fixing) (decisions : List Decision) (t : ℕ) (operations : List Operation) (known : TrainKnowledge) → train_at problem t ≡ operations → t < length problem.trains
    → AreDemands t fixings decisions known.demands.items → IsOrder operations known.order.items → ArePlaces operations known.order.items known.places.items → known.entry ≡ last_of known.order.items
    → length known.sums.items ≡ length operations → AreSums operations known.places.items known.demands.items known.sums.items → AreOnEach operations known.places.items known.demands.items known.entry known.needed.items
    → AreHolders operations known.places.items known.demands.items known.sums.items known.needed.items known.holders.items
    → IsKnown (node_at problem fixings decisions) t known
known_of problem fixings decisions t operations known e there demands ordered placed entry long sums needed held = record {
  there = there;
  order_is = subst (λ (l : List Operation). IsOrder l known.order.items) (sym e) ordered;
  places_are = subst (λ (l : List Operation). ArePlaces l known.order.items known.places.items) (sym e) placed;
  demands_are = demands;
  entry_is = subst (λ (l : List Operation). IsEntry l known.entry) (sym e) (subst (λ (x : ℕ). IsEntry operations x) (sym entry) last);
  sums_long = long ∙ sym (ap (λ (l : List Operation). length l) e);
  sums_are = subst (λ (l : List Operation). AreSums l known.places.items known.demands.items known.sums.items) (sym e) sums;
  needed_are = subst (λ (l : List Operation). AreOnEach l known.places.items known.demands.items known.entry known.needed.items) (sym e) needed;
  holders_are = subst (λ (l : List Operation). AreHolders l known.places.items known.demands.items known.sums.items known.needed.items known.holders.items) (sym e) held;
}
  where
    order : List ℕ
    order = known.order.items

    acyclic : IsAcyclic operations
    acyclic = subst IsAcyclic e (is_acyclic problem t there)

    last : IsEntry operations (last_of order)
    last =
        let found = has_last operations order acyclic ordered in
        let place : length order - 1 ≡ found.0 = omega (arith, found.2) in
        last_is_entry operations order found.0 (last_of order) ordered found.2 (subst (λ (n : ℕ). slice_get order n ≡ Some (last_of order)) place (slice_get-get_or order (length order - 1) 0 (omega (arith, found.2))))
