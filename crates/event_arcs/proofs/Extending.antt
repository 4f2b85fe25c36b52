-- What a list of arcs is worth once one more is decided.
use Rattle.std.proofs.Common.{◌≢◌, ℕ, ◌<◌, ◌≤◌, List, [], ◌∷◌, ◌++◌, length, Some, refl, sym, subst, ◌∙◌, arith, inl, inr}
use Rattle.std.specs.Prelude.{All, Contains}
use Rattle.std.proofs.lemmas.List.Elements.{All-push, All-pop, All-append, All-contains, All-weaker, Contains-append_left, Contains-append_cases}
use Rattle.plain_values.proofs.Lists.{contains_one}
use Rattle.disp_model.specs.declared.train.Op.{Op}
use Rattle.disp_model.specs.declared.decision.Decision.{Decision}
use Rattle.disp_model.specs.declared.decision.Decision.TheVariants.{First}
use Rattle.disp_model.specs.Numbers.{number_of}
use Rattle.disp_model.specs.Valid.{train_at}
use Rattle.disp_model.specs.Node.{Node, with_decision}
use Rattle.disp_model.specs.Routes.{AgreesWithDecision, IsAllowed, HasRoute, IsForced}
use Rattle.disp_model.specs.Arcs.{Conflicts, IsTrainArc, IsArc}
use Rattle.disp_laws.proofs.Arcs.{passes_leads}
use Rattle.disp_laws.proofs.LeastSums.{train_arc_exists}
use Rattle.incremental_paths.specs.declared.arc.Arc.{Arc}
use Rattle.event_arcs.specs.Listed.{IsArcOf, LeadsOver, AreArcsOf, IsArcLeft, SpansTrains}
use Rattle.event_windows.specs.Operations.{HasOperation}
use Rattle.event_arcs.proofs.Numbering.{forced_is_op, same_by_number}
use Rattle.event_arcs.specs.Owned.{train_of_decision}
use Rattle.event_arcs.specs.Chained.{LeadsAlong}
use Rattle.event_arcs.proofs.Owning.{other_decision}
use Rattle.event_arcs.specs.Ordering.{LeadsAsOrdered}
use Rattle.event_arcs.proofs.Joining.{leads_kept}
use Rattle.event_arcs.proofs.Deciding.{first_same}

-- ---- any decision

any_long : (arcs : List Arc) (u v n : ℕ) → LeadsOver arcs u v n → LeadsOver arcs u v 0
any_long arcs u v n way = record { next = way.next; rest = way.rest; follows = way.follows; ends = way.ends; long = omega arith }

-- where a listed arc begins there is a forced operation
left_forced : (node : Node) (arcs : List Arc) (o : Op) → All (IsArcOf node) arcs → HasOperation node.problem o → IsArcLeft arcs (number_of node.problem o) → IsForced node o
left_forced node arcs o sound op left =
    let arc = All-contains (IsArcOf node) arcs left.1 sound (left.0, left.2, left.3) in
    let from = arc.joins.from_forced in
    subst (IsForced node) (same_by_number node.problem arc.u o (forced_is_op node arc.u from) op (sym arc.from_is ∙ left.4)) from

module _ (node : Node) (decision : Decision) where
  pub allowed_before : (t : ℕ) (route : List ℕ) → IsAllowed (with_decision node decision) t route → IsAllowed node t route
  allowed_before t route allowed = record {
    is_route = allowed.is_route;
    fixings_agree = allowed.fixings_agree;
    decisions_agree = (All-pop (AgreesWithDecision t route) (node.decisions ++ decision ∷ []) node.decisions (Some decision) refl allowed.decisions_agree).0;
  }

  pub allowed_still : (t : ℕ) (route : List ℕ) → train_of_decision decision ≢ Some t → IsAllowed node t route → IsAllowed (with_decision node decision) t route
  allowed_still t route other allowed = record {
    is_route = allowed.is_route;
    fixings_agree = allowed.fixings_agree;
    decisions_agree = All-push (AgreesWithDecision t route) node.decisions decision allowed.decisions_agree (other_decision t route decision other);
  }

  pub forced_still : (o : Op) → HasRoute (with_decision node decision) o.train → IsForced node o → IsForced (with_decision node decision) o
  forced_still o has forced = record { train = forced.train; allowed = has; each_has = λ route allowed. forced.each_has route (allowed_before o.train route allowed) }

  train_arc_still : (u v : Op) (n : ℕ) → IsForced (with_decision node decision) u → IsForced (with_decision node decision) v → IsTrainArc node u v n → (m : ℕ) × IsTrainArc (with_decision node decision) u v m × (n ≤ m)
  train_arc_still u v n one other arc =
      let way = passes_leads (train_at node.problem u.train) arc.reached.0 u.op v.op n arc.reached.1.is_route arc.reached.2 in
      let now = train_arc_exists (with_decision node decision) u v way.0 arc.same_train way.1 one other in
      (now.0, now.1, arc.least now.1.reached.0 now.0 (allowed_before u.train now.1.reached.0 now.1.reached.1) now.1.reached.2)

  arc_still : (u v : Op) (n : ℕ) → HasRoute (with_decision node decision) u.train → HasRoute (with_decision node decision) v.train → IsArc node u v n → (m : ℕ) × IsArc (with_decision node decision) u v m × (n ≤ m)
  arc_still u v n from to arc = elim arc.kind [
    | inl train ↦ let now = train_arc_still u v n one other train in (now.0, record { from_forced = one; to_forced = other; kind = inl now.1 }, now.2)
    | inr r ↦ elim r [
      | inl order ↦ (
        n,
        record {
          from_forced = one;
          to_forced = other;
          kind = inr (inl (record { decided = Contains-append_left node.decisions (decision ∷ []) _ order.decided; conflicts = order.conflicts; length_is = order.length_is }));
        },
        omega arith,
      )
      | inr release ↦ (
        n,
        record {
          from_forced = one;
          to_forced = other;
          kind = inr (inr (record {
            holder = release.holder;
            decided = Contains-append_left node.decisions (decision ∷ []) _ release.decided;
            forced = forced_still release.holder (subst (HasRoute (with_decision node decision)) release.goes_to.0 from) release.forced;
            conflicts = release.conflicts;
            goes_to = (release.goes_to.0, λ route allowed. release.goes_to.1 route (allowed_before release.holder.train route allowed));
            length_is = release.length_is;
          }));
        },
        omega arith,
      )
    ]
  ]
    where
      one : IsForced (with_decision node decision) u
      one = forced_still u from arc.from_forced

      other : IsForced (with_decision node decision) v
      other = forced_still v to arc.to_forced

  listed_still : ((t : ℕ) → t < length node.problem.trains → HasRoute (with_decision node decision) t) → (arc : Arc) → IsArcOf node arc → IsArcOf (with_decision node decision) arc
  listed_still has arc is =
      let now = arc_still is.u is.v is.arc_length (has is.u.train is.joins.from_forced.train) (has is.v.train is.joins.to_forced.train) is.joins in
      record { u = is.u; v = is.v; arc_length = now.0; joins = now.1; from_is = is.from_is; to_is = is.to_is; no_longer = omega (arith, is.no_longer, now.2) }

  pub still_sound : (arcs : List Arc) → ((t : ℕ) → t < length node.problem.trains → HasRoute (with_decision node decision) t) → All (IsArcOf node) arcs → All (IsArcOf (with_decision node decision)) arcs
  still_sound arcs has sound = All-weaker (IsArcOf node) (IsArcOf (with_decision node decision)) (listed_still has) arcs sound

  -- the list spans the trains by what it had
  pub spans_still : (arcs : List Arc) → AreArcsOf node arcs → SpansTrains (with_decision node decision) arcs
  spans_still arcs are = record {
    way = λ u v sum one other arc left right.
        let first = left_forced node arcs u are.sound (forced_is_op (with_decision node decision) u one) left in
        let second = left_forced node arcs v are.sound (forced_is_op (with_decision node decision) v other) right in
        let way = passes_leads (train_at node.problem u.train) arc.reached.0 u.op v.op sum arc.reached.1.is_route arc.reached.2 in
        let before = train_arc_exists node u v way.0 arc.same_train way.1 first second in
        any_long arcs (number_of node.problem u) (number_of node.problem v) before.0 (are.complete u v before.0 (record { from_forced = first; to_forced = second; kind = inl before.1 }));
  }

-- ---- an order

module _ (node : Node) (a b : Op) where
  allowed_then : (t : ℕ) (route : List ℕ) → IsAllowed node t route → IsAllowed (with_decision node (First a b)) t route
  allowed_then t route allowed = record {
    is_route = allowed.is_route;
    fixings_agree = allowed.fixings_agree;
    decisions_agree = All-push (AgreesWithDecision t route) node.decisions (First a b) allowed.decisions_agree tt;
  }

  forced_before : (o : Op) → IsForced (with_decision node (First a b)) o → IsForced node o
  forced_before o forced = record {
    train = forced.train;
    allowed = (forced.allowed.0, allowed_before node (First a b) o.train forced.allowed.0 forced.allowed.1);
    each_has = λ route allowed. forced.each_has route (allowed_then o.train route allowed);
  }

  train_arc_before : (u v : Op) (n : ℕ) → IsTrainArc (with_decision node (First a b)) u v n → IsTrainArc node u v n
  train_arc_before u v n arc = record {
    same_train = arc.same_train;
    reached = (arc.reached.0, allowed_before node (First a b) u.train arc.reached.0 arc.reached.1, arc.reached.2);
    least = λ route total allowed passes. arc.least route total (allowed_then u.train route allowed) passes;
  }

  listed_then : (arc : Arc) → IsArcOf node arc → IsArcOf (with_decision node (First a b)) arc
  listed_then arc is =
      let has : (o : Op) → IsForced node o → HasRoute (with_decision node (First a b)) o.train = λ o forced. (forced.allowed.0, allowed_then o.train forced.allowed.0 forced.allowed.1) in
      let now = arc_still node (First a b) is.u is.v is.arc_length (has is.u is.joins.from_forced) (has is.v is.joins.to_forced) is.joins in
      record { u = is.u; v = is.v; arc_length = now.0; joins = now.1; from_is = is.from_is; to_is = is.to_is; no_longer = omega (arith, is.no_longer, now.2) }

  pub spans_then : (arcs more : List Arc) → AreArcsOf node arcs → SpansTrains (with_decision node (First a b)) (arcs ++ more)
  spans_then arcs more are = record {
    way = λ u v sum one other arc left right.
        let before : IsArc node u v sum = record { from_forced = forced_before u one; to_forced = forced_before v other; kind = inl (train_arc_before u v sum arc) } in
        let way = any_long arcs (number_of node.problem u) (number_of node.problem v) sum (are.complete u v sum before) in
        leads_kept arcs (arcs ++ more) (number_of node.problem u) (number_of node.problem v) 0 (λ x there. Contains-append_left arcs more x there) way;
  }

  pub order_extends : (arcs more : List Arc) → AreArcsOf node arcs → All (IsArcOf (with_decision node (First a b))) more
      → (IsForced node a → IsForced node b → Conflicts node.problem a b → LeadsAsOrdered (with_decision node (First a b)) (arcs ++ more) a b) → AreArcsOf (with_decision node (First a b)) (arcs ++ more)
  order_extends arcs more are sound leads = record {
    sound = All-append (IsArcOf (with_decision node (First a b))) arcs more (All-weaker (IsArcOf node) (IsArcOf (with_decision node (First a b))) listed_then arcs are.sound) sound;
    complete = λ u v n arc. elim arc.kind [
      | inl train ↦ old u v n (record { from_forced = forced_before u arc.from_forced; to_forced = forced_before v arc.to_forced; kind = inl (train_arc_before u v n train) })
      | inr r ↦ elim r [
        | inl order ↦ elim (Contains-append_cases node.decisions (First a b ∷ []) (First u v) order.decided) [
          | inl earlier ↦ old u v n (record {
            from_forced = forced_before u arc.from_forced;
            to_forced = forced_before v arc.to_forced;
            kind = inr (inl (record { decided = earlier; conflicts = order.conflicts; length_is = order.length_is }));
          })
          | inr now ↦
              let ordered = new u v arc.from_forced arc.to_forced order.conflicts now in
              subst (LeadsAlong node (arcs ++ more) u v) (sym order.length_is) ordered.from_first
        ]
        | inr release ↦ elim (Contains-append_cases node.decisions (First a b ∷ []) (First release.holder v) release.decided) [
          | inl earlier ↦ old u v n (record {
            from_forced = forced_before u arc.from_forced;
            to_forced = forced_before v arc.to_forced;
            kind = inr (inr (record {
              holder = release.holder;
              decided = earlier;
              forced = forced_before release.holder release.forced;
              conflicts = release.conflicts;
              goes_to = (release.goes_to.0, λ route allowed. release.goes_to.1 route (allowed_then release.holder.train route allowed));
              length_is = release.length_is;
            }));
          })
          | inr now ↦
              let ordered = new release.holder v release.forced arc.to_forced release.conflicts now in
              subst (LeadsAlong node (arcs ++ more) u v) (sym release.length_is) (ordered.from_next u release.goes_to)
        ]
      ]
    ];
  }
    where
      old : (u v : Op) (n : ℕ) → IsArc node u v n → LeadsAlong node (arcs ++ more) u v n
      old u v n arc = leads_kept arcs (arcs ++ more) (number_of node.problem u) (number_of node.problem v) n (λ x there. Contains-append_left arcs more x there) (are.complete u v n arc)

      new : (u v : Op) → IsForced (with_decision node (First a b)) u → IsForced (with_decision node (First a b)) v → Conflicts node.problem u v → Contains (First a b ∷ []) (First u v) → LeadsAsOrdered (with_decision node (First a b)) (arcs ++ more) u v
      new u v one other conflicts now =
          let same = first_same a b u v (sym (contains_one (First a b) (First u v) now)) in
          let conflict : Conflicts node.problem a b = subst (λ (x : Op). Conflicts node.problem x b) (sym same.0) (subst (λ (x : Op). Conflicts node.problem u x) (sym same.1) conflicts) in
          let ordered = leads (subst (IsForced node) (sym same.0) (forced_before u one)) (subst (IsForced node) (sym same.1) (forced_before v other)) conflict in
          subst (λ (x : Op). LeadsAsOrdered (with_decision node (First a b)) (arcs ++ more) x v) same.0 (subst (λ (x : Op). LeadsAsOrdered (with_decision node (First a b)) (arcs ++ more) a x) same.1 ordered)
