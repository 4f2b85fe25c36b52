-- The first two that hold a resource at a time are those whose order the fixed rule picks.
use Rattle.std.proofs.Common.{◌≡◌, ◌∙◌, ℕ, ◌+◌, ◌≤◌, List, length, sym, ap, subst, inl, inr, arith}
use Rattle.std.specs.List.{Any}
use Rattle.std.specs.Prelude.{slice_get}
use Rattle.std.proofs.lemmas.Bool.{cases_lt}
use Rattle.std.proofs.lemmas.Option.{same_Some}
use Rattle.std.proofs.lemmas.List.Elements.{All-contains}
use Rattle.disp_model.specs.declared.train.Op.{Op}
use Rattle.disp_model.specs.declared.train.Listing.{Listing}
use Rattle.disp_model.specs.declared.plan.Event.{Event}
use Rattle.disp_model.specs.Plan.{Ending, end_of}
use Rattle.disp_model.specs.Valid.{IsReleased, KeepApart}
use Rattle.disp_model.specs.Node.{Node}
use Rattle.disp_model.specs.Nodes.{IsDead}
use Rattle.disp_model.specs.Routes.{IsForced}
use Rattle.disp_model.specs.Arcs.{listings_of}
use Rattle.disp_model.specs.Walks.{IsLongest}
use Rattle.disp_model.specs.Choices.{IsEnd}
use Rattle.disp_model.specs.Earliest.{op_of, IsEarliest, HaveOneRoute, Clash, PicksOrder}
use Rattle.disp_laws.proofs.Branching.{IsStartedAt}
use Rattle.disp_laws.proofs.Picked.{same_op, one_longest}
use Rattle.disp_laws.proofs.OpenChoices.{clash_is_open}
use Rattle.disp_laws.proofs.EarliestPlans.{longest_at, event_of}
use Rattle.disp_laws.proofs.EarliestEnds.{event_ends, one_end_time}
use Rattle.disp_laws.proofs.EarliestExists.{earliest_exists}
use Rattle.first_overlaps.specs.Spans.{IsListed, IsOverlap, IsFirstOverlap}
use Rattle.branch_rules.specs.Picks.{AreAlone}
use Rattle.branch_rules.proofs.Ending.{AreReleased, released_from}
use Rattle.branch_rules.proofs.Picking.{all_have, clash_undecided, not_valid}

-- two events that keep apart: the second starts no earlier than the end of the first and its release time
in_time : (node : Node) (plan : List Event) (a b : Op) (i j : ℕ) (e f : Event) (end start resource release other : ℕ) → IsEarliest node plan → IsStartedAt plan a i e → IsStartedAt plan b j f → IsForced node a → IsEnd node a end → IsLongest node b start
    → IsListed node.problem a resource release → IsListed node.problem b resource other → KeepApart node.problem plan i e j f → end + release ≤ start
in_time node plan a b i j e f end start resource release other earliest first second forced ends starts (l, own, of, is) (k, (n, lt, there), too, ge) keep =
    let one = same_op a e first.1 in
    let two = same_op b f second.1 in
    let place = end_of node.problem.trains plan i e in
    let all = subst (λ (o : Op). AreReleased (listings_of node.problem o) (listings_of node.problem b) place j f) one
    (subst (λ (o : Op). AreReleased (listings_of node.problem (op_of e)) (listings_of node.problem o) place j f) two (released_from node.problem plan i j e f keep)) in
    let free = All-contains (λ (m : Listing). Any (λ (q : Listing). q.resource ≡ m.resource) (listings_of node.problem b) → IsReleased place m j f) (listings_of node.problem a) l all own (n, k, lt, there, too ∙ sym of) in
    let at = event_ends node plan i e earliest first.0 in
    let ended = one_end_time node a end at.at.time forced ends (subst (λ (o : Op). IsEnd node o at.at.time) one at.time_is) in
    let started = one_longest node b start f.time starts (subst (λ (o : Op). IsLongest node o f.time) two (longest_at node plan j f earliest second.0)) in
    let time : place.time ≡ at.at.time = ap (λ (x : Ending). x.time) at.is in
    omega (arith, free.time, ended, started, time, is)

clash_of : (node : Node) (plan : List Event) (a b : Op) → IsEarliest node plan → IsOverlap node a b → Clash node.problem plan a b
clash_of node plan a b earliest is =
    let o = is.both in
    let e = event_of node plan a earliest o.first.forced in
    let f = event_of node plan b earliest o.second.forced in
    elim (cases_lt e.0 f.0) [
      | inl lt ↦ record {
        i = e.0;
        j = f.0;
        earlier = e.1;
        later = f.1;
        order = lt;
        earlier_there = e.2.0;
        later_there = f.2.0;
        names = inl (e.2.1, f.2.1);
        not_apart = λ keep. absurd (omega (arith, is.early, in_time node plan a b e.0 f.0 e.1 f.1 o.end o.begin o.resource o.release o.other earliest e.2 f.2 o.first.forced o.first.end_is o.second.start_is o.lists o.also keep));
      }
      | inr le ↦ elim (cases_lt f.0 e.0) [
        | inl lt ↦ record {
          i = f.0;
          j = e.0;
          earlier = f.1;
          later = e.1;
          order = lt;
          earlier_there = f.2.0;
          later_there = e.2.0;
          names = inr (f.2.1, e.2.1);
          not_apart = λ keep. absurd (omega (arith, is.late, in_time node plan b a f.0 e.0 f.1 e.1 o.over o.start o.resource o.other o.release earliest f.2 e.2 o.second.forced o.second.end_is o.first.start_is o.also o.lists keep));
        }
        | inr ge ↦ absurd (one_event e.0 f.0 e.1 f.1 (omega (arith, le, ge)) e.2 f.2)
      ]
    ]
  where
    one_event : (i j : ℕ) (e f : Event) → i ≡ j → IsStartedAt plan a i e → IsStartedAt plan b j f → ⊥
    one_event i j e f same first second =
        let event : e ≡ f = same_Some e f (sym first.0 ∙ ap (slice_get plan) same ∙ second.0) in
        omega (arith, is.both.trains, first.1.train, second.1.train, ap (λ (x : Event). x.train) event)

pub overlap_is_picked : (node : Node) (a b : Op) → (IsDead node → ⊥) → AreAlone node (length node.problem.trains) → IsFirstOverlap node a b → PicksOrder node a b
overlap_is_picked node a b alive alone is = by (earliest_exists node one_route (λ cycle. alive (inr (inl cycle))))
  where
    one_route : HaveOneRoute node
    one_route t lt = alone t lt (all_have node alive t lt)

    by : (plan : List Event) × IsEarliest node plan → PicksOrder node a b
    by (plan, earliest) =
        let clash = clash_of node plan a b earliest is.overlap in
        let free = clash_undecided node plan a b earliest is.overlap.both.trains clash in
        record {
          plan = plan;
          earliest = earliest;
          not_valid = not_valid node plan a b is.overlap.both.trains clash;
          first_clash = record {
            open_clash = record { trains = is.overlap.both.trains; clash = clash; undecided = free.0; undecided_back = free.1 };
            first = λ c d other. is.first c d (clash_is_open node plan c d earliest other);
          };
        }
