-- The arcs that stand for a node with one more decision: those from before, and those that it adds.
use Rattle.std.proofs.Common.{◌≡◌, ◌∙◌, ℕ, ◌+◌, List, [], ◌++◌, Some, refl, sym, subst, inl, inr}
use Rattle.std.specs.Prelude.{nat_eq, Contains, ◌⊎◌}
use Rattle.std.proofs.lemmas.Bool.{cases_Bool, eqb-true, eqb-false}
use Rattle.std.proofs.lemmas.Option.{none-some, same_Some}
use Rattle.std.proofs.lemmas.List.Elements.{All-nil, All-append, Contains-push, Contains-push_cases, Contains-append_left, Contains-append_right}
use Rattle.disp_model.specs.declared.train.Op.{Op}
use Rattle.disp_model.specs.declared.decision.Decision.{Decision}
use Rattle.disp_model.specs.declared.decision.Decision.TheVariants.{First}
use Rattle.disp_model.specs.Numbers.{number_of}
use Rattle.disp_model.specs.Node.{Node, with_decision}
use Rattle.disp_model.specs.Routes.{IsForced}
use Rattle.disp_model.specs.Arcs.{release_of, min_of, IsTrainArc, IsOrderArc, IsReleaseArc, GoesTo, IsArc}
use Rattle.disp_laws.proofs.LeavesStay.{HaveRoutes}
use Rattle.disp_laws.proofs.OpenChoices.{goes_to_forced}
use Rattle.incremental_paths.specs.declared.arc.Arc.{Arc}
use Rattle.event_arcs.specs.Listed.{IsArcOf, AreArcsOf}
use Rattle.event_arcs.specs.Chained.{LeadsAlong}
use Rattle.event_arcs.specs.Ordering.{AddsOrder}
use Rattle.event_arcs.specs.Owned.{train_of_decision}
use Rattle.event_arcs.proofs.Joining.{leads_kept}
use Rattle.event_graph.specs.States.{AddsTrain}
use Rattle.event_arcs.proofs.Extending.{forced_still, still_sound, order_extends}
use Rattle.event_graph.proofs.Narrowing.{IsApart, forced_before, train_arc_before}

-- ---- ways along more arcs

leads_left : (node : Node) (old new : List Arc) (u v : Op) (least : ℕ) → LeadsAlong node old u v least → LeadsAlong node (old ++ new) u v least
leads_left node old new u v least way = leads_kept old (old ++ new) (number_of node.problem u) (number_of node.problem v) least (λ arc there. Contains-append_left old new arc there) way

leads_right : (node : Node) (old new : List Arc) (u v : Op) (least : ℕ) → LeadsAlong node new u v least → LeadsAlong node (old ++ new) u v least
leads_right node old new u v least way = leads_kept new (old ++ new) (number_of node.problem u) (number_of node.problem v) least (λ arc there. Contains-append_right old new arc there) way

-- ---- a decided order

pub first_apart : (a b : Op) (t : ℕ) → IsApart (First a b) t
first_apart a b t e = none-some t e

pub with_order : (node : Node) (a b : Op) (old new : List Arc) → HaveRoutes (with_decision node (First a b)) → AreArcsOf node old → AddsOrder (with_decision node (First a b)) (First a b) [] new → AreArcsOf (with_decision node (First a b)) (old ++ new)
with_order node a b old new have are adds =
    order_extends node a b old new are (adds.sound (Contains-push node.decisions (First a b)) (All-nil (IsArcOf next))) (λ one other conflicts.
    let leads = adds.leads a b refl (forced_still node (First a b) a (have a.train one.train) one) (forced_still node (First a b) b (have b.train other.train) other) conflicts in
    record {
      from_first = leads_right node old new a b (min_of node.problem a + release_of node.problem a b) leads.from_first;
      from_next = λ n goes. leads_right node old new n b (release_of node.problem a b) (leads.from_next n goes);
    })
  where
    next : Node
    next = with_decision node (First a b)

-- ---- a decision about the routes of a train

pub with_train : (node : Node) (d : Decision) (t : ℕ) (old new : List Arc) → HaveRoutes (with_decision node d) → AreArcsOf node old → AddsTrain node d t old new → AreArcsOf (with_decision node d) (old ++ new)
with_train node d t old new have are adds = record {
  sound = All-append (IsArcOf next) old new (still_sound node d old have are.sound) adds.sound;
  complete = λ u v n arc. by u v n arc.from_forced arc.to_forced arc.kind;
}
  where
    next : Node
    next = with_decision node d

    was : (u v : Op) (n : ℕ) → IsArc node u v n → LeadsAlong node (old ++ new) u v n
    was u v n arc = leads_left node old new u v n (are.complete u v n arc)

    first_not_about : (a b : Op) → d ≡ First a b → ⊥
    first_not_about a b is = none-some t (subst (λ (e : Decision). train_of_decision e ≡ Some t) is adds.about)

    front : (a b : Op) → Contains next.decisions (First a b) → Contains node.decisions (First a b)
    front a b there = elim (Contains-push_cases node.decisions d (First a b) there) [ inl early ↦ early | inr is ↦ absurd (first_not_about a b is) ]

    chained : (u v : Op) (n : ℕ) → IsForced next u → IsForced next v → IsTrainArc next u v n → LeadsAlong node (old ++ new) u v n
    chained u v n from to train = elim (cases_Bool (nat_eq u.train t)) [
      | inl e ↦ adds.chained u v n (eqb-true u.train t e) from to train
      | inr e ↦
          let apart : IsApart d u.train = λ about. eqb-false u.train t e (same_Some u.train t (sym about ∙ adds.about)) in
          let other : IsApart d v.train = subst (IsApart d) train.same_train apart in
          was u v n (record { from_forced = forced_before node d u apart from; to_forced = forced_before node d v other to; kind = inl (train_arc_before node d u v n apart train) })
    ]

    ordered : (u v : Op) (n : ℕ) → IsForced next u → IsForced next v → IsOrderArc node.problem next.decisions u v n → LeadsAlong node (old ++ new) u v n
    ordered u v n from to arc = elim (adds.ordered u v (front u v arc.decided) from to arc.conflicts) [
      | inl same ↦ was u v n (record { from_forced = same.0; to_forced = same.1; kind = inr (inl (record { decided = front u v arc.decided; conflicts = arc.conflicts; length_is = arc.length_is })) })
      | inr leads ↦ leads_right node old new u v n (subst (λ (m : ℕ). LeadsAlong node new u v m) (sym arc.length_is) leads.from_first)
    ]

    released : (u v : Op) (n : ℕ) → IsForced next v → IsReleaseArc next u v n → LeadsAlong node (old ++ new) u v n
    released u v n to arc = elim (adds.ordered arc.holder v (front arc.holder v arc.decided) arc.forced to arc.conflicts) [
      | inl same ↦
          let goes : GoesTo node arc.holder u = same.2 u arc.goes_to in
          was u v n (record {
            from_forced = goes_to_forced node arc.holder u same.0 goes;
            to_forced = same.1;
            kind = inr (inr (record { holder = arc.holder; decided = front arc.holder v arc.decided; forced = same.0; conflicts = arc.conflicts; goes_to = goes; length_is = arc.length_is }));
          })
      | inr leads ↦ leads_right node old new u v n (subst (λ (m : ℕ). LeadsAlong node new u v m) (sym arc.length_is) (leads.from_next u arc.goes_to))
    ]

    by : (u v : Op) (n : ℕ) → IsForced next u → IsForced next v → IsTrainArc next u v n ⊎ (IsOrderArc node.problem next.decisions u v n ⊎ IsReleaseArc next u v n) → LeadsAlong node (old ++ new) u v n
    by u v n from to (inl train) = chained u v n from to train
    by u v n from to (inr (inl order)) = ordered u v n from to order
    by u v n from to (inr (inr release)) = released u v n to release
