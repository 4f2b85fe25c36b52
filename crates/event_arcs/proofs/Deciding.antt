-- The arcs of orders that are decided.
use Rattle.std.proofs.Common.{◌≡◌, ℕ, suc, ◌+◌, ◌^◌, ◌<◌, ◌≤◌, List, [], ◌∷◌, ◌++◌, length, take, get_or, Option, Some, None, refl, sym, ap, subst, ◌∙◌, inl, inr, arith}
use Rattle.std.specs.Prelude.{All, Contains, slice_get, ◌↔◌}
use Rattle.std.specs.Option.{option_map_or}
use Rattle.std.proofs.lemmas.Option.{none-some, same_Some}
use Rattle.std.proofs.lemmas.List.{take_more}
use Rattle.std.proofs.lemmas.List.Elements.{All-cons, All-nil, All-append, Contains-append_left, Contains-append_right, Contains-append_cases}
use Rattle.plain_values.proofs.Lists.{contains_one}
use Rattle.disp_model.specs.declared.train.Op.{Op}
use Rattle.disp_model.specs.declared.train.Operation.{Operation}
use Rattle.disp_model.specs.declared.decision.Decision.{Decision}
use Rattle.disp_model.specs.declared.decision.Decision.TheVariants.{First}
use Rattle.disp_model.specs.declared.problem.Problem.{Problem}
use Rattle.disp_model.specs.Numbers.{number_of}
use Rattle.disp_model.specs.Valid.{train_at}
use Rattle.disp_model.specs.Node.{Node}
use Rattle.disp_model.specs.Routes.{IsForced}
use Rattle.disp_model.specs.Arcs.{Conflicts, release_of, min_of, IsTrainArc, GoesTo}
use Rattle.disp_laws.proofs.OpenChoices.{goes_to_forced}
use Rattle.disp_laws.proofs.Numbered.{below_count}
use Rattle.route_sets.specs.Sets.{op_of_train}
use Rattle.incremental_paths.specs.declared.arc.Arc.{Arc}
use Rattle.event_arcs.specs.declared.orders.KnownOrder.{KnownOrder}
use Rattle.event_arcs.specs.declared.placed.Placed.{Placed}
use Rattle.event_arcs.specs.Listed.{IsArcOf, LeadsOver, AreArcsOf}
use Rattle.event_arcs.specs.Placed.{IsPlaced}
use Rattle.event_arcs.specs.Chained.{LeadsAlong, AddsChains}
use Rattle.event_arcs.specs.Ordering.{IsNextNumber, IsNoOrder, IsOrdered, release_arcs, arcs_of_order, LeadsAsOrdered, AddsOrder, AddsOrders}
use Rattle.event_arcs.proofs.Numbering.{forced_is_op}
use Rattle.event_arcs.proofs.Joining.{leads_kept, leads_by}

-- ---- what is read of an operation

pub min_read : (problem : Problem) (o : Op) (p : Operation) → slice_get (train_at problem o.train) o.op ≡ Some p → p.min ≡ min_of problem o
min_read problem o p at = sym (ap (λ (found : Option Operation). option_map_or (λ q. q.min) found 0) at)

-- ---- numbers

pub number_small : (node : Node) (o : Op) → IsForced node o → number_of node.problem o < 2 ^ 31
number_small node o forced =
    let op = forced_is_op node o forced in omega (arith, below_count node.problem o op.train op.op, node.problem.well_formed.operations_fit)

pub number_from : (node : Node) (t o : ℕ) (placed : Placed) → IsPlaced node t placed → placed.first + o ≡ number_of node.problem (op_of_train t o)
number_from node t o placed is = omega (arith, is.first_is)

pub next_none : (node : Node) (a : Op) (found : Option ℕ) → IsForced node a → ((s : ℕ) → (found ≡ Some s) ↔ (IsForced node (op_of_train a.train a.op) × GoesTo node (op_of_train a.train a.op) (op_of_train a.train s))) → found ≡ None → IsNextNumber node a None
next_none node a found forced says none = record {
  found = λ n goes. absurd (none-some n.op (sym none ∙ (says n.op).1 (forced, (refl, goes.1))));
  only = λ number e. absurd (none-some number e);
}

pub next_some : (node : Node) (a : Op) (placed : Placed) (found : Option ℕ) (s : ℕ) → IsPlaced node a.train placed → IsForced node a
    → ((m : ℕ) → (found ≡ Some m) ↔ (IsForced node (op_of_train a.train a.op) × GoesTo node (op_of_train a.train a.op) (op_of_train a.train m))) → found ≡ Some s → IsNextNumber node a (Some (placed.first + s))
next_some node a placed found s is forced says at = record {
  found = λ n goes.
      let same = same_Some s n.op (sym at ∙ (says n.op).1 (forced, (refl, goes.1))) in
      let n_is : op_of_train a.train n.op ≡ n = ap (λ (t : ℕ). op_of_train t n.op) (sym goes.0) in
      ap Some (number_from node a.train s placed is ∙ ap (λ (m : ℕ). number_of node.problem (op_of_train a.train m)) same ∙ ap (number_of node.problem) n_is);
  only = λ number e. (op_of_train a.train s, ((says s).0 at).1, sym (same_Some (placed.first + s) number e) ∙ number_from node a.train s placed is);
}

pub next_fits : (node : Node) (a : Op) (placed : Placed) (found : Option ℕ) (s : ℕ) → IsPlaced node a.train placed
    → ((m : ℕ) → (found ≡ Some m) ↔ (IsForced node (op_of_train a.train a.op) × GoesTo node (op_of_train a.train a.op) (op_of_train a.train m))) → found ≡ Some s → placed.first + s < 2 ^ 32
next_fits node a placed found s is says at =
    let both = (says s).0 at in
    let forced = goes_to_forced node (op_of_train a.train a.op) (op_of_train a.train s) both.0 both.1 in
    omega (arith, number_small node (op_of_train a.train s) forced, number_from node a.train s placed is)

-- ---- the arcs of an order

all_two : (node : Node) (x : Arc) (more : List Arc) → IsArcOf node x → All (IsArcOf node) more → All (IsArcOf node) (x ∷ more)
all_two node x more is all = All-cons (IsArcOf node) x more is all

order_arcs_are : (node : Node) (a b : Op) (order : KnownOrder) → IsOrdered node a b order → Contains node.decisions (First a b) → All (IsArcOf node) (arcs_of_order order)
order_arcs_are node a b order is decided = all_two node _ (release_arcs order.next order.to order.release) first (behind order.next refl)
  where
    first : IsArcOf node (record { from = order.from; to = order.to; length = order.min + order.release })
    first = record {
      u = a;
      v = b;
      arc_length = order.min + order.release;
      joins = record {
        from_forced = is.first_forced;
        to_forced = is.second_forced;
        kind = inr (inl (record { decided = decided; conflicts = is.conflicts; length_is = omega (arith, is.min_is, is.release_is) }));
      };
      from_is = is.from_is;
      to_is = is.to_is;
      no_longer = omega arith;
    }

    behind : (next : Option ℕ) → order.next ≡ next → All (IsArcOf node) (release_arcs next order.to order.release)
    behind None e = All-nil (IsArcOf node)
    behind (Some number) e =
        let n = is.next_is.only number e in
        All-cons (IsArcOf node) (record { from = number; to = order.to; length = order.release }) [] (record {
          u = n.0;
          v = b;
          arc_length = order.release;
          joins = record {
            from_forced = goes_to_forced node a n.0 is.first_forced n.1;
            to_forced = is.second_forced;
            kind = inr (inr (record { holder = a; decided = decided; forced = is.first_forced; conflicts = is.conflicts; goes_to = n.1; length_is = is.release_is }));
          };
          from_is = n.2;
          to_is = is.to_is;
          no_longer = omega arith;
        }) (All-nil (IsArcOf node))

-- an arc of the list leads between the operations of its numbers
pub leads_numbers : (node : Node) (arcs : List Arc) (arc : Arc) (u v : Op) (least : ℕ) → Contains arcs arc → arc.from ≡ number_of node.problem u → arc.to ≡ number_of node.problem v → least ≤ arc.length → LeadsAlong node arcs u v least
leads_numbers node arcs arc u v least there from to le =
    subst (λ (n : ℕ). LeadsOver arcs n (number_of node.problem v) least) from (subst (λ (n : ℕ). LeadsOver arcs arc.from n least) to (leads_by arcs arc least there le))

order_leads : (node : Node) (a b : Op) (order : KnownOrder) (old : List Arc) → IsOrdered node a b order → LeadsAsOrdered node (old ++ arcs_of_order order) a b
order_leads node a b order old is = record {
  from_first = leads_numbers node (old ++ arcs_of_order order) (record { from = order.from; to = order.to; length = order.min + order.release }) a b (min_of node.problem a + release_of node.problem a b)
      (Contains-append_right old (arcs_of_order order) _ (0, omega arith, refl)) is.from_is is.to_is (omega (arith, is.min_is, is.release_is));
  from_next = λ n goes. by_next n (is.next_is.found n goes);
}
  where
    has_release : (next : Option ℕ) (number : ℕ) → next ≡ Some number → Contains (release_arcs next order.to order.release) (record { from = number; to = order.to; length = order.release })
    has_release None number e = absurd (none-some number e)
    has_release (Some other) number e = (0, omega arith, ap (λ (n : ℕ). record { from = n; to = order.to; length = order.release }) (same_Some other number e))

    by_next : (n : Op) → order.next ≡ Some (number_of node.problem n) → LeadsAlong node (old ++ arcs_of_order order) n b (release_of node.problem a b)
    by_next n e =
        let number = number_of node.problem n in
        let there = has_release order.next number e in
        leads_numbers node (old ++ arcs_of_order order) (record { from = number; to = order.to; length = order.release }) n b (release_of node.problem a b)
        (Contains-append_right old (arcs_of_order order) _ (suc there.0, omega (arith, there.1), there.2)) refl is.to_is (omega (arith, is.release_is))

pub first_same : (a b c d : Op) → First a b ≡ First c d → (a ≡ c) × (b ≡ d)
first_same a b c d e = (cc e, cc e)

pub order_added : (node : Node) (a b : Op) (order : KnownOrder) (decision : Decision) (old new : List Arc) → decision ≡ First a b → IsOrdered node a b order → new ≡ old ++ arcs_of_order order → AddsOrder node decision old new
order_added node a b order decision old new decision_is is new_is = record {
  kept = λ arc there. subst (λ (l : List Arc). Contains l arc) (sym new_is) (Contains-append_left old (arcs_of_order order) arc there);
  sound = λ decided all. subst (All (IsArcOf node)) (sym new_is) (All-append (IsArcOf node) old (arcs_of_order order) all (order_arcs_are node a b order is (subst (Contains node.decisions) decision_is decided)));
  leads = λ c d e one other conflicts.
      let same = first_same a b c d (sym decision_is ∙ e) in
      subst (λ (l : List Arc). LeadsAsOrdered node l c d) (sym new_is)
      (subst (λ (x : Op). LeadsAsOrdered node (old ++ arcs_of_order order) x d) same.0 (subst (λ (x : Op). LeadsAsOrdered node (old ++ arcs_of_order order) a x) same.1 (order_leads node a b order old is)));
}

pub no_order_added : (node : Node) (a b : Op) (decision : Decision) (arcs : List Arc) → decision ≡ First a b → IsNoOrder node a b → AddsOrder node decision arcs arcs
no_order_added node a b decision arcs decision_is none = record {
  kept = λ arc there. there;
  sound = λ decided all. all;
  leads = λ c d e one other conflicts.
      let same = first_same a b c d (sym decision_is ∙ e) in
      let conflict : Conflicts node.problem a b = subst (λ (x : Op). Conflicts node.problem x b) (sym same.0) (subst (λ (x : Op). Conflicts node.problem c x) (sym same.1) conflicts) in
      absurd (none (subst (IsForced node) (sym same.0) one) (subst (IsForced node) (sym same.1) other) conflict);
}

-- ---- the arcs of all orders

ordered_kept : (node : Node) (old new : List Arc) (a b : Op) → ((arc : Arc) → Contains old arc → Contains new arc) → LeadsAsOrdered node old a b → LeadsAsOrdered node new a b
ordered_kept node old new a b kept leads = record {
  from_first = leads_kept old new (number_of node.problem a) (number_of node.problem b) _ kept leads.from_first;
  from_next = λ n goes. leads_kept old new (number_of node.problem n) (number_of node.problem b) _ kept (leads.from_next n goes);
}

pub orders_more : (node : Node) (decisions : List Decision) (i : ℕ) (d decision : Decision) (old mid new : List Arc) → i < length decisions → decision ≡ get_or decisions i d → AddsOrders node (take i decisions) old mid → AddsOrder node decision mid new
    → AddsOrders node (take (i + 1) decisions) old new
orders_more node decisions i d decision old mid new lt is before own = rw (take_more decisions i d lt) (record {
  kept = λ arc there. own.kept arc (before.kept arc there);
  sound = λ decided all.
      own.sound (decided decision (Contains-append_right (take i decisions) (get_or decisions i d ∷ []) decision (0, omega arith, sym is)))
      (before.sound (λ e there. decided e (Contains-append_left (take i decisions) (get_or decisions i d ∷ []) e there)) all);
  leads = λ a b there one other conflicts. elim (Contains-append_cases (take i decisions) (get_or decisions i d ∷ []) (First a b) there) [
    | inl earlier ↦ ordered_kept node mid new a b own.kept (before.leads a b earlier one other conflicts)
    | inr now ↦ own.leads a b (is ∙ sym (contains_one (get_or decisions i d) (First a b) now)) one other conflicts
  ];
})

-- ---- the whole list

pub stands_by_parts : (node : Node) (arcs : List Arc) → All (IsArcOf node) arcs → ((u v : Op) (sum : ℕ) → IsForced node u → IsForced node v → IsTrainArc node u v sum → LeadsAlong node arcs u v sum)
    → ((a b : Op) → Contains node.decisions (First a b) → IsForced node a → IsForced node b → Conflicts node.problem a b → LeadsAsOrdered node arcs a b) → AreArcsOf node arcs
stands_by_parts node arcs sound trains orders = record {
  sound = sound;
  complete = λ u v arc_length arc. elim arc.kind [
    | inl train ↦ trains u v arc_length arc.from_forced arc.to_forced train
    | inr r ↦ elim r [
      | inl order ↦
          let leads = orders u v order.decided arc.from_forced arc.to_forced order.conflicts in
          subst (LeadsAlong node arcs u v) (sym order.length_is) leads.from_first
      | inr release ↦
          let leads = orders release.holder v release.decided release.forced arc.to_forced release.conflicts in
          subst (LeadsAlong node arcs u v) (sym release.length_is) (leads.from_next u release.goes_to)
    ]
  ];
}

pub whole_list : (node : Node) (count : ℕ) (mid new : List Arc) → count ≡ length node.problem.trains → AddsChains node count [] mid → AddsOrders node node.decisions mid new → AreArcsOf node new
whole_list node count mid new long chains orders =
    stands_by_parts node new (orders.sound (λ decision there. there) (chains.extends.sound (All-nil (IsArcOf node))))
    (λ u v sum one other arc. leads_kept mid new (number_of node.problem u) (number_of node.problem v) sum orders.kept (chains.leads u v sum (omega (arith, one.train, long)) one other arc)) orders.leads
