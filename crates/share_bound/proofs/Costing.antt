-- What a train costs at least is what the passes along its rows find.
use Rattle.std.proofs.Common.{◌≡◌, ℕ, ◌+◌, ◌<◌, ◌≤◌, List, [], ◌∷◌, length, cond, Option, Some, refl, sym, ap, subst, ◌∙◌, inl, inr, arith}
use Rattle.std.specs.Prelude.{nat_eq, max}
use Rattle.disp_model.specs.declared.train.Operation.{Operation}
use Rattle.disp_model.specs.declared.train.Component.{Component}
use Rattle.disp_model.specs.Train.{duration_of}
use Rattle.disp_model.specs.Valid.{train_at}
use Rattle.disp_model.specs.Node.{Node}
use Rattle.disp_model.specs.Routes.{IsAllowed}
use Rattle.disp_model.specs.Shares.{reached_from, route_cost, IsShareOver}
use Rattle.disp_laws.proofs.Paths.{IsIn, contains_in}
use Rattle.disp_laws.proofs.RouteSearch.{each_within}
use Rattle.disp_laws.proofs.Shares.{route_grows, share_exists, train_there}
use Rattle.route_marks.specs.Ways.{Goes, last_of}
use Rattle.route_sets.specs.Sets.{AreAllowedRows}
use Rattle.share_bound.specs.Times.{AreTimes, reach_in}
use Rattle.problem_facts.specs.Prices.{own_price}
use Rattle.share_bound.specs.Prices.{priced_along, AreFittedPrices, HasOwn}
use Rattle.share_bound.specs.Leasts.{IsCheapest, IsFittedShare}
use Rattle.share_bound.proofs.Reaching.{begins, same_reach}
use Rattle.share_bound.proofs.Pricing.{route_price}

pub share_found : (node : Node) (t : ℕ) (components : List Component) (order : List ℕ)
    (rows : List (List ℕ)) (base : ℕ → ℕ) (times : List (Option ℕ)) (found : ℕ)
    → AreAllowedRows node t order rows → HasOwn node.problem t components
    → AreTimes (train_at node.problem t) base order rows times
    → IsCheapest order rows (own_price components t (reach_in times base)) (last_of order) found
    → IsFittedShare node t base found
share_found node t components order rows base times found are own kept paid = record {
  share = share.0;
  share_is = share.1;
  found_is = omega (
    arith,
    paid.there.2,
    least,
    same_cost way (paid.there.1),
    share.1.least (e ∷ way) way_allowed,
  );
}
  where
    train : List Operation
    train = train_at node.problem t

    e : ℕ
    e = last_of order

    reach : ℕ → ℕ
    reach = reach_in times base

    price : ℕ → ℕ
    price = own_price components t reach

    way : List ℕ
    way = paid.there.0

    way_allowed : IsAllowed node t (e ∷ way)
    way_allowed = are.route (e ∷ way) (refl, paid.there.1)

    there : t < length node.problem.trains
    there = train_there node t (e ∷ way) way_allowed

    share : (share : ℕ) × IsShareOver node t base share
    share = share_exists node t base there (e ∷ way, way_allowed)

    -- a route costs by the kept reaches what it costs by those of the share
    same_cost : (rest : List ℕ) → Goes order rows e rest
        → priced_along price (e ∷ rest) ≡ route_cost node.problem t share.1.reach (e ∷ rest)
    same_cost rest goes =
        let allowed = are.route (e ∷ rest) (refl, goes) in
        let same = λ (o : ℕ) (on : IsIn o (e ∷ rest)). same_reach node t order rows base times o
        (share.1.reach o) are kept
        (share.1.reach_is (e ∷ rest) o allowed (contains_in o (e ∷ rest) on)) in
        let whole = route_price node.problem components train t reach e rest own
        (node.problem.well_formed.acyclic t [] there) allowed.is_route.1 in
        omega (
          arith,
          whole,
          route_grows node.problem t reach share.1.reach (e ∷ rest)
              (λ o on. omega (arith, same o on)),
          route_grows node.problem t share.1.reach reach (e ∷ rest)
              (λ o on. omega (arith, same o on)),
        )

    -- what is found is no more than the share
    least : found ≤ share.0
    least =
        let best = begins order rows e share.1.there.0 (are.walk share.1.there.0 share.1.there.1) in
        let costs : route_cost node.problem t share.1.reach (e ∷ best.0) ≡ share.0 = sym
        (ap (route_cost node.problem t share.1.reach) best.1) ∙ share.1.there.2 in
        omega (arith, paid.least best.0 best.2, same_cost best.0 best.2, costs)

-- what the passes find, as they read each other
pub over_found : (node : Node) (t : ℕ) (operations : List Operation) (components : List Component)
    (order : List ℕ) (rows : List (List ℕ)) (base : ℕ → ℕ) (times read : List (Option ℕ))
    (prices priced : List ℕ) (found : ℕ) → train_at node.problem t ≡ operations
    → AreAllowedRows node t order rows → HasOwn node.problem t components
    → AreTimes operations base order rows times → read ≡ times
    → AreFittedPrices operations (own_price components t (reach_in read base)) prices
    → priced ≡ prices
    → ((price : ℕ → ℕ) → AreFittedPrices operations price priced
    → IsCheapest order rows price (last_of order) found) → IsFittedShare node t base found
over_found node t operations components order rows base times read prices priced found same are own
    kept read_is prices_are priced_is cheapest =
    share_found node t components order rows base read found are own
    (subst (λ (l : List Operation). AreTimes l base order rows read) (sym same)
    (subst (AreTimes operations base order rows) (sym read_is) kept))
    (cheapest (own_price components t (reach_in read base))
    (subst (AreFittedPrices operations (own_price components t (reach_in read base)))
    (sym priced_is) prices_are))

-- ---- other bases that are the same on the train

reached_same : (low high : ℕ → ℕ) (train : List Operation) (time : ℕ) (route : List ℕ) (o : ℕ)
    → ((p : ℕ) → IsIn p route → low p ≡ high p)
    → reached_from low train time route o ≡ reached_from high train time route o
reached_same low high train time [] o each = refl
reached_same low high train time (p ∷ route) o each =
    ap (λ (b : ℕ). cond (nat_eq p o) (Some (max time b))
    (reached_from low train (max time b + duration_of train p) route o)) (each p (inl refl))
    ∙ ap (λ (x : Option ℕ). cond (nat_eq p o) (Some (max time (high p))) x)
    (reached_same low high train (max time (high p) + duration_of train p) route o
    (λ q there. each q (inr there)))

pub share_carried : (node : Node) (t : ℕ) (low high : ℕ → ℕ) (share : ℕ)
    → ((o : ℕ) → o < length (train_at node.problem t) → low o ≡ high o)
    → IsShareOver node t low share → IsShareOver node t high share
share_carried node t low high share same over = record {
  reach = over.reach;
  reach_is = λ route o allowed on.
      let reach = over.reach_is route o allowed on in
      record {
        there = (
          reach.there.0,
          reach.there.1,
          sym (carried reach.there.0 o reach.there.1)
              ∙ reach.there.2,
        );
        least = λ other total is at. reach.least other total is (carried other o is ∙ at);
      };
  there = over.there;
  least = over.least;
}
  where
    within : (route : List ℕ) → IsAllowed node t route → (p : ℕ) → IsIn p route
        → p < length (train_at node.problem t)
    within [] allowed p there = absurd there
    within (o ∷ rest) allowed p there = each_within (train_at node.problem t) o rest
        allowed.is_route.1 p there

    carried : (route : List ℕ) (o : ℕ) → IsAllowed node t route
        → reached_from low (train_at node.problem t) 0 route o ≡ reached_from high
        (train_at node.problem t) 0 route o
    carried route o allowed = reached_same low high (train_at node.problem t) 0 route o
        (λ p there. same p (within route allowed p there))
