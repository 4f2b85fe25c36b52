-- What allowed routes go on to from a forced operation.
use Rattle.std.proofs.Common.{◌≡◌, ℕ, ◌<◌, ◌⊎◌, List, [], ◌∷◌, ◌++◌, length, Some, true, false, refl, sym, ap, subst, ◌∙◌, inl, inr}
use Rattle.std.specs.Prelude.{nat_eq, Contains, IsSome, ◌↔◌}
use Rattle.std.proofs.lemmas.Bool.{cases_Bool, eqb-true, eq-eqb}
use Rattle.std.proofs.lemmas.Option.{none-some, same_Some}
use Rattle.disp_model.specs.declared.train.Operation.{Operation}
use Rattle.disp_model.specs.Train.{next_of, GoesOn}
use Rattle.disp_model.specs.WellFormed.{IsAcyclic}
use Rattle.disp_model.specs.Fixing.{after}
use Rattle.disp_model.specs.Valid.{train_at}
use Rattle.disp_model.specs.Node.{Node}
use Rattle.disp_model.specs.Routes.{IsAllowed, IsForced}
use Rattle.disp_model.specs.Arcs.{GoesTo}
use Rattle.disp_laws.proofs.Paths.{IsIn, is_in, never_again}
use Rattle.disp_laws.proofs.Composed.{after_behind}
use Rattle.disp_laws.proofs.LeastSums.{not_before_on_route}
use Rattle.train_orders.proofs.Places.{contains_none}
use Rattle.node_facts.specs.declared.demands.Demand.{Demand}
use Rattle.node_facts.specs.declared.train.TrainKnowledge.{TrainKnowledge}
use Rattle.node_facts.specs.Ways.{IsWay, way_sum, HasSum}
use Rattle.route_marks.specs.Marks.{sum_at}
use Rattle.node_facts.specs.Live.{IsLiveStep, IsOnlyStep}
use Rattle.node_facts.specs.Known.{op_numbered, IsKnown, IsHolder}
use Rattle.node_facts.proofs.Allowing.{allowed_is_way, way_is_allowed}
use Rattle.node_facts.proofs.Knowing.{some_has, asked}

-- ---- a way through an operation

-- the way from e parts at a, and may go on from there by any other way
pub record Through (train : List Operation) (places : List ℕ) (demands : List Demand) (e a : ℕ) (rest : List ℕ) : Type 0 where
  pub front : List ℕ
  pub back : List ℕ
  pub split : e ∷ rest ≡ front ++ a ∷ back
  pub way : IsWay train places demands a back
  pub join : (other : List ℕ) → IsWay train places demands a other → (joined : List ℕ) × (e ∷ joined ≡ front ++ a ∷ other) × IsWay train places demands e joined

pub through : (train : List Operation) (places : List ℕ) (demands : List Demand) (e a : ℕ) (rest : List ℕ) → IsWay train places demands e rest → IsIn a (e ∷ rest) → Through train places demands e a rest
through train places demands e a [] way (inl same) = record {
  front = [];
  back = [];
  split = ap (λ (x : ℕ). x ∷ []) same;
  way = subst (λ (x : ℕ). IsWay train places demands x []) same way;
  join = λ other onward. (other, ap (λ (x : ℕ). x ∷ other) same, subst (λ (x : ℕ). IsWay train places demands x other) (sym same) onward);
}
through train places demands e a [] way (inr there) = absurd there
through train places demands e a (s ∷ rest) way (inl same) = record {
  front = [];
  back = s ∷ rest;
  split = ap (λ (x : ℕ). x ∷ s ∷ rest) same;
  way = subst (λ (x : ℕ). IsWay train places demands x (s ∷ rest)) same way;
  join = λ other onward. (other, ap (λ (x : ℕ). x ∷ other) same, subst (λ (x : ℕ). IsWay train places demands x other) (sym same) onward);
}
through train places demands e a (s ∷ rest) way (inr there) =
    let later = through train places demands s a rest way.2 there in
    record {
      front = e ∷ later.front;
      back = later.back;
      split = ap (λ (l : List ℕ). e ∷ l) later.split;
      way = later.way;
      join = λ other onward. let more = later.join other onward in (s ∷ more.0, ap (λ (l : List ℕ). e ∷ l) more.1, (way.0, way.1, more.2));
    }

-- ---- allowed routes through a forced operation

pub record Passing (node : Node) (t a : ℕ) (known : TrainKnowledge) (route : List ℕ) : Type 0 where
  pub front : List ℕ
  pub back : List ℕ
  pub split : route ≡ front ++ a ∷ back
  pub way : IsWay (train_at node.problem t) known.places.items known.demands.items a back
  pub join : (other : List ℕ) → IsWay (train_at node.problem t) known.places.items known.demands.items a other → IsAllowed node t (front ++ a ∷ other)

pub passing : (node : Node) (t a : ℕ) (known : TrainKnowledge) (route : List ℕ) → IsKnown node t known → IsAllowed node t route → Contains route a → Passing node t a known route
passing node t a known route is allowed there = record {
  front = at.front;
  back = at.back;
  split = way.1 ∙ at.split;
  way = at.way;
  join = λ other onward.
      let joined = at.join other onward in
      subst (IsAllowed node t) joined.1 (way_is_allowed node t known.order.items known.places.items known.demands.items known.entry joined.0 (asked node t known is) joined.2);
}
  where
    way : (rest : List ℕ) × (route ≡ known.entry ∷ rest) × IsWay (train_at node.problem t) known.places.items known.demands.items known.entry rest
    way = allowed_is_way node t known.order.items known.places.items known.demands.items known.entry route (asked node t known is) allowed

    at : Through (train_at node.problem t) known.places.items known.demands.items known.entry a way.0
    at = through (train_at node.problem t) known.places.items known.demands.items known.entry a way.0 way.2 (is_in a (known.entry ∷ way.0) (subst (λ (l : List ℕ). Contains l a) way.1 there))

after_first : (a q : ℕ) (back : List ℕ) → after a (a ∷ q ∷ back) ≡ Some q
after_first a q back = rw (eq-eqb a a refl) refl

after_at : (node : Node) (t a : ℕ) (front back : List ℕ) → t < length node.problem.trains → IsAllowed node t (front ++ a ∷ back) → after a (front ++ a ∷ back) ≡ after a (a ∷ back)
after_at node t a front back there allowed = after_behind a a front back (not_before_on_route (train_at node.problem t) a front back (node.problem.well_formed.acyclic t [] there) allowed.is_route)

leads_on : (node : Node) (t s : ℕ) (known : TrainKnowledge) → IsKnown node t known → IsSome (sum_at known.sums.items s) ↔ ((n : ℕ) × HasSum (train_at node.problem t) known.places.items known.demands.items s n)
leads_on node t s known is = some_has (HasSum (train_at node.problem t) known.places.items known.demands.items s) (sum_at known.sums.items s) (is.sums_are s)

-- what each allowed route goes on to is the only step
pub goes_step : (node : Node) (t a n : ℕ) (known : TrainKnowledge) → IsKnown node t known → IsForced node (op_numbered t a) → GoesTo node (op_numbered t a) (op_numbered t n) → IsOnlyStep known.places.items known.demands.items known.sums.items a (next_of (train_at node.problem t) a) n
goes_step node t a n known is forced goes = by at.back at.way (goes.1 route.0 route.1) (ap (λ (l : List ℕ). after a l) at.split ∙ after_at node t a at.front at.back is.there (subst (IsAllowed node t) at.split route.1))
  where
    train : List Operation
    train = train_at node.problem t

    route : (route : List ℕ) × IsAllowed node t route
    route = forced.allowed

    at : Passing node t a known route.0
    at = passing node t a known route.0 is route.1 (forced.each_has route.0 route.1)

    alone : (q : ℕ) → Contains (next_of train a) q → IsLiveStep known.places.items known.demands.items known.sums.items a q → q ≡ n
    alone q next step =
        let onward = (leads_on node t q known is).0 step.leads in
        let joined = at.join (q ∷ onward.1.rest) (next, step.may, onward.1.way) in
        same_Some q n (sym (after_at node t a at.front (q ∷ onward.1.rest) is.there joined ∙ after_first a q onward.1.rest) ∙ goes.1 (at.front ++ a ∷ q ∷ onward.1.rest) joined)

    by : (back : List ℕ) → IsWay train known.places.items known.demands.items a back → after a route.0 ≡ Some n → after a route.0 ≡ after a (a ∷ back) → IsOnlyStep known.places.items known.demands.items known.sums.items a (next_of train a) n
    by [] way goes after_is = absurd (none-some n (sym after_is ∙ goes))
    by (q ∷ back) way goes after_is =
        let same : q ≡ n = same_Some q n (sym (after_is ∙ after_first a q back) ∙ goes) in
        subst (λ (x : ℕ). IsOnlyStep known.places.items known.demands.items known.sums.items a (next_of train a) x) same (record {
          there = way.0;
          step = record { may = way.1; leads = (leads_on node t q known is).1 (way_sum train q back, record { rest = back; way = way.2; sum_is = refl }) };
          alone = λ p next step. alone p next step ∙ sym same;
        })

-- the only step is what each allowed route goes on to
pub step_goes : (node : Node) (t a n : ℕ) (known : TrainKnowledge) → IsKnown node t known → IsForced node (op_numbered t a) → IsOnlyStep known.places.items known.demands.items known.sums.items a (next_of (train_at node.problem t) a) n → GoesTo node (op_numbered t a) (op_numbered t n)
step_goes node t a n known is forced only = (refl, λ route allowed. on route allowed (passing node t a known route is allowed (forced.each_has route allowed)))
  where
    train : List Operation
    train = train_at node.problem t

    on : (route : List ℕ) → IsAllowed node t route → Passing node t a known route → after a route ≡ Some n
    on route allowed at = by at.back at.way (ap (λ (l : List ℕ). after a l) at.split ∙ after_at node t a at.front at.back is.there (subst (IsAllowed node t) at.split allowed))
      where
        by : (back : List ℕ) → IsWay train known.places.items known.demands.items a back → after a route ≡ after a (a ∷ back) → after a route ≡ Some n
        by [] way after_is = absurd (contains_none n (subst (λ (l : List ℕ). Contains l n) way.0.last only.there))
        by (q ∷ back) way after_is =
            let same : q ≡ n = only.alone q way.0 (record { may = way.1; leads = (leads_on node t q known is).1 (way_sum train q back, record { rest = back; way = way.2; sum_is = refl }) }) in
            after_is ∙ after_first a q back ∙ ap (λ (x : ℕ). Some x) same

-- ---- holders

-- what stands before an operation on a route is one
before_one : (a b o p : ℕ) (rest : List ℕ) → (train : List Operation) → IsAcyclic train → GoesOn train p rest → after a (p ∷ rest) ≡ Some o → after b (p ∷ rest) ≡ Some o → a ≡ b
before_one a b o p [] train acyclic goes first second = absurd (none-some o first)
before_one a b o p (q ∷ rest) train acyclic goes first second = by (cases_Bool (nat_eq p a)) (cases_Bool (nat_eq p b)) (λ one two. before_one a b o q rest train acyclic goes.1 one two)
  where
    -- an operation that follows later is not the one that follows first
    later : (x : ℕ) → nat_eq p x ≡ false → after x (p ∷ q ∷ rest) ≡ Some o → after x (q ∷ rest) ≡ Some o
    later x is e = rw is at e

    here : (x : ℕ) → nat_eq p x ≡ true → after x (p ∷ q ∷ rest) ≡ Some o → q ≡ o
    here x is e = same_Some q o (rw is at e)

    never : (x : ℕ) → after x (q ∷ rest) ≡ Some o → q ≡ o → ⊥
    never x e same = never_again train q rest acyclic goes.1 (subst (λ (y : ℕ). IsIn y rest) (sym same) (follows x q rest e))
      where
        follows : (x q : ℕ) (rest : List ℕ) → after x (q ∷ rest) ≡ Some o → IsIn o rest
        follows x q [] e = absurd (none-some o e)
        follows x q (s ∷ rest) e = elim (cases_Bool (nat_eq q x)) [
          | inl is ↦ inl (same_Some s o (rw is at e))
          | inr is ↦ inr (follows x s rest (rw is at e))
        ]

    by : ((nat_eq p a ≡ true) ⊎ (nat_eq p a ≡ false)) → ((nat_eq p b ≡ true) ⊎ (nat_eq p b ≡ false)) → (after a (q ∷ rest) ≡ Some o → after b (q ∷ rest) ≡ Some o → a ≡ b) → a ≡ b
    by (inl one) (inl two) onward = sym (eqb-true p a one) ∙ eqb-true p b two
    by (inl one) (inr two) onward = absurd (never b (later b two second) (here a one first))
    by (inr one) (inl two) onward = absurd (never a (later a one first) (here b two second))
    by (inr one) (inr two) onward = onward (later a one first) (later b two second)

-- an operation has one holder
pub one_holder : (node : Node) (t o h k : ℕ) → t < length node.problem.trains → IsHolder node t o h → IsHolder node t o k → h ≡ k
one_holder node t o h k there first second = by first.forced.allowed.0 first.forced.allowed.1 (first.goes.1 first.forced.allowed.0 first.forced.allowed.1) (second.goes.1 first.forced.allowed.0 first.forced.allowed.1)
  where
    by : (route : List ℕ) → IsAllowed node t route → after h route ≡ Some o → after k route ≡ Some o → h ≡ k
    by [] allowed one two = absurd (none-some o one)
    by (p ∷ rest) allowed one two = before_one h k o p rest (train_at node.problem t) (node.problem.well_formed.acyclic t [] there) allowed.is_route.1 one two
