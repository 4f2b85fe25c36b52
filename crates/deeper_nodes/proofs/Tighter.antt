-- A node that is no wider than another of its problem: what is forced and which arcs there are carries over to it.
use Rattle.std.proofs.Common.{◌≡◌, ℕ, ◌≤◌, List, ◌++◌, Some, subst, inl, inr, arith}
use Rattle.std.specs.Prelude.{All, Contains}
use Rattle.std.proofs.lemmas.List.{get_or_append_left, length-append}
use Rattle.std.proofs.lemmas.List.Elements.{Contains-append_left}
use Rattle.disp_model.specs.declared.train.Op.{Op}
use Rattle.disp_model.specs.declared.fixing.Fixing.{Fixing}
use Rattle.disp_model.specs.declared.decision.Decision.{Decision}
use Rattle.disp_model.specs.declared.decision.Decision.TheVariants.{First}
use Rattle.disp_model.specs.Node.{Node, node_at}
use Rattle.disp_model.specs.Routes.{AgreesWithDecision, IsAllowed, HasRoute, HasNoRoute, IsForced}
use Rattle.disp_model.specs.Arcs.{IsTrainArc, IsOrderArc, IsReleaseArc, IsArc, IsLongestArc}
use Rattle.disp_model.specs.Valid.{train_at}
use Rattle.disp_model.specs.Walks.{lower_of, upper_of}
use Rattle.disp_laws.proofs.Arcs.{passes_leads}
use Rattle.disp_laws.proofs.LeastSums.{train_arc_exists}
use Rattle.disp_laws.proofs.LeavesStay.{HaveRoutes}
use Rattle.disp_laws.proofs.LongestArcs.{longest_arc}

-- with these fixings and decisions in place of the node's: no route more is allowed, what is decided stays decided, no lower falls, and no upper rises
pub record IsTighter (node : Node) (fixings : List Fixing) (decisions : List Decision) : Type 0 where
  pub fewer : (t : ℕ) (route : List ℕ) → IsAllowed (node_at node.problem fixings decisions) t route → IsAllowed node t route
  pub decided : (decision : Decision) → Contains node.decisions decision → Contains decisions decision
  pub lowers : (o : Op) → lower_of node.problem node.fixings o ≤ lower_of node.problem fixings o
  pub uppers : (o : Op) (upper : ℕ) → upper_of node.problem node.fixings o ≡ Some upper → (u : ℕ) × (upper_of node.problem fixings o ≡ Some u) × (u ≤ upper)

-- ---- more decisions at the end

all_front : {X : Type 0} (P : X → Type 0) (xs ys : List X) → All P (xs ++ ys) → All P xs
all_front P xs ys all = λ k d lt. subst P (get_or_append_left xs ys d k lt) (all k d (omega (arith, lt, length-append xs ys)))

pub routes_before : (node : Node) (more : List Decision) (t : ℕ) (route : List ℕ) → IsAllowed (node_at node.problem node.fixings (node.decisions ++ more)) t route → IsAllowed node t route
routes_before node more t route allowed = record {
  is_route = allowed.is_route;
  fixings_agree = allowed.fixings_agree;
  decisions_agree = all_front (AgreesWithDecision t route) node.decisions more allowed.decisions_agree;
}

pub more_decided : (node : Node) (more : List Decision) → IsTighter node node.fixings (node.decisions ++ more)
more_decided node more = record {
  fewer = routes_before node more;
  decided = λ decision has. Contains-append_left node.decisions more decision has;
  lowers = λ o. omega arith;
  uppers = λ o upper at. (upper, at, omega arith);
}

module _ (node : Node) (fixings : List Fixing) (decisions : List Decision) (tighter : IsTighter node fixings decisions) where
  abbrev later : Node
  later = node_at node.problem fixings decisions

  -- ---- routes and forced operations

  pub still_without : (t : ℕ) → (HasRoute node t → ⊥) → HasRoute later t → ⊥
  still_without t none left = none (left.0, tighter.fewer t left.0 left.1)

  pub still_none : HasNoRoute node → HasNoRoute later
  still_none none = (none.0, none.1, still_without none.0 none.2)

  pub still_forced : (o : Op) → IsForced node o → HasRoute later o.train → IsForced later o
  still_forced o forced left = record {
    train = forced.train;
    allowed = left;
    each_has = λ route allowed. forced.each_has route (tighter.fewer o.train route allowed);
  }

  -- ---- arcs

  order_arc_stays : (a b : Op) (arc_length : ℕ) → IsOrderArc node.problem node.decisions a b arc_length → IsOrderArc node.problem decisions a b arc_length
  order_arc_stays a b arc_length arc = record { decided = tighter.decided (First a b) arc.decided; conflicts = arc.conflicts; length_is = arc.length_is }

  release_arc_stays : (n b : Op) (arc_length : ℕ) → IsReleaseArc node n b arc_length → HasRoute later n.train → IsReleaseArc later n b arc_length
  release_arc_stays n b arc_length arc left = record {
    holder = arc.holder;
    decided = tighter.decided (First arc.holder b) arc.decided;
    forced = still_forced arc.holder arc.forced (subst (HasRoute later) arc.goes_to.0 left);
    conflicts = arc.conflicts;
    goes_to = (arc.goes_to.0, λ route allowed. arc.goes_to.1 route (tighter.fewer arc.holder.train route allowed));
    length_is = arc.length_is;
  }

  train_arc_stays : (u v : Op) (before : ℕ) → IsTrainArc node u v before → IsForced later u → IsForced later v → (behind : ℕ) × IsTrainArc later u v behind × (before ≤ behind)
  train_arc_stays u v before arc one other =
      let way = passes_leads (train_at node.problem u.train) arc.reached.0 u.op v.op before arc.reached.1.is_route arc.reached.2 in
      let new = train_arc_exists later u v way.0 arc.same_train way.1 one other in
      let reached = new.1.reached in
      (new.0, new.1, arc.least reached.0 new.0 (tighter.fewer u.train reached.0 reached.1) reached.2)

  -- where the trains still have routes an arc stays, and is no shorter
  pub arc_stays : (u v : Op) (before : ℕ) → IsArc node u v before → HasRoute later u.train → HasRoute later v.train → (behind : ℕ) × IsArc later u v behind × (before ≤ behind)
  arc_stays u v before arc one other =
      let from = still_forced u arc.from_forced one in
      let to = still_forced v arc.to_forced other in
      elim arc.kind [
        | inl train ↦ let new = train_arc_stays u v before train from to in (new.0, record { from_forced = from; to_forced = to; kind = inl new.1 }, new.2)
        | inr rest ↦ elim rest [
          | inl order ↦ (before, record { from_forced = from; to_forced = to; kind = inr (inl (order_arc_stays u v before order)) }, omega arith)
          | inr release ↦ (before, record { from_forced = from; to_forced = to; kind = inr (inr (release_arc_stays u v before release one)) }, omega arith)
        ]
      ]

  pub longest_arc_stays : (u v : Op) (before : ℕ) → HaveRoutes later → IsLongestArc node u v before → (behind : ℕ) × IsLongestArc later u v behind × (before ≤ behind)
  longest_arc_stays u v before all arc =
      let new = arc_stays u v before arc.there (all u.train arc.there.from_forced.train) (all v.train arc.there.to_forced.train) in
      let longest = longest_arc later u v new.0 new.1 in
      (longest.0, longest.1, omega (arith, new.2, longest.1.longest new.0 new.1))
