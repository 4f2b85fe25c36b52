-- What is kept of a train's routes, and what is answered by it.
use Rattle.std.proofs.Common.{◌≡◌, ℕ, ◌+◌, ◌-◌, ◌^◌, ◌<◌, ◌≤◌, List, [], length, get_or, Option, Some, None, true, false, sym, subst, ◌∙◌, arith}
use Rattle.std.specs.Prelude.{slice_get, IsSome, IsTrue, MatchOption, ◌↔◌}
use Rattle.std.proofs.lemmas.Bool.{false≢true}
use Rattle.std.proofs.lemmas.Option.{none-some, slice_get-get_or}
use Rattle.std.proofs.lemmas.List.{get_or_past, get_or_default}
use Rattle.std.proofs.lemmas.List.Sums.{get_or-le-sum_by}
use Rattle.disp_model.specs.declared.train.Operation.{Operation}
use Rattle.disp_model.specs.declared.fixing.Fixing.{Fixing}
use Rattle.disp_model.specs.declared.decision.Decision.{Decision}
use Rattle.disp_model.specs.declared.problem.Problem.{Problem}
use Rattle.disp_model.specs.WellFormed.{IsAcyclic}
use Rattle.disp_model.specs.Valid.{train_at}
use Rattle.disp_model.specs.Node.{Node, node_at}
use Rattle.disp_model.specs.Routes.{HasRoute, IsForced}
use Rattle.disp_model.specs.Arcs.{IsTrainArc, GoesTo}
use Rattle.train_orders.specs.Orders.{IsInside, IsOrder}
use Rattle.train_orders.proofs.Ordered.{has_last}
use Rattle.route_sets.specs.declared.asks.Ask.{Ask}
use Rattle.route_marks.specs.declared.marks.Mark.{Mark}
use Rattle.route_sets.specs.declared.routes.Routes.{Routes}
use Rattle.route_sets.specs.declared.sweep.Swept.{Swept}
use Rattle.route_sets.specs.Asks.{AreAsks}
use Rattle.route_sets.specs.Sweeps.{HasWay, IsSwept}
use Rattle.route_marks.specs.Ways.{last_of}
use Rattle.route_marks.specs.Marks.{IsLaid, mark_at, HasMarks, HasSums, sum_at}
use Rattle.route_sets.specs.Sets.{op_of_train, IsMarkOf, AreAllowedRows, AreRoutesOf}
use Rattle.route_sets.proofs.Walking.{IsTrimmedFor, route_is_way}
use Rattle.route_sets.proofs.Knowing.{AreWalks, are_walks, sums_are, marks_are, ordered_are, route_there, marked_forced}
use Rattle.route_sets.proofs.Following.{begins_are, ends_are, short_are}

-- ---- the train as it is read

pub train_read : (trains items : List (List Operation)) (t : ℕ) (found operations : List Operation) → items ≡ trains → found ≡ get_or items t found → operations ≡ found → t < length trains → get_or trains t [] ≡ operations
train_read trains items t found operations same is read lt =
    get_or_default trains t [] found lt ∙ sym (subst (λ (l : List (List Operation)). found ≡ get_or l t found) same is) ∙ sym read

pub is_inside : (problem : Problem) (t : ℕ) (operations : List Operation) → train_at problem t ≡ operations → t < length problem.trains → IsInside operations
is_inside problem t operations e there = subst IsInside e (λ k d lt. (problem.well_formed.references t [] there k d lt).next)

pub is_acyclic : (problem : Problem) (t : ℕ) → t < length problem.trains → IsAcyclic (train_at problem t)
is_acyclic problem t there = problem.well_formed.acyclic t [] there

pub train_fits : (problem : Problem) (t : ℕ) → t < length problem.trains → length (train_at problem t) < 2 ^ 31
train_fits problem t there = omega (arith, get_or-le-sum_by (λ (train : List Operation). length train) problem.trains t [] there, problem.well_formed.operations_fit)

-- ---- what is found on the way

pub record IsFound (problem : Problem) (fixings : List Fixing) (decisions : List Decision) (t : ℕ) (asks : List Ask) (order : List ℕ) (swept : Swept) : Type 0 where
  pub there : t < length problem.trains
  pub asked : AreAsks (length (train_at problem t)) t fixings decisions asks
  pub order_is : IsOrder (train_at problem t) order
  pub swept_is : IsSwept (train_at problem t) asks order swept

pub found : (problem : Problem) (fixings : List Fixing) (decisions : List Decision) (t : ℕ) (operations : List Operation) (asks read : List Ask) (order items : List ℕ) (swept : Swept) → train_at problem t ≡ operations → t < length problem.trains
    → AreAsks (length operations) t fixings decisions asks → IsOrder operations order → read ≡ asks → items ≡ order → IsSwept operations read items swept → IsFound problem fixings decisions t asks order swept
found problem fixings decisions t operations asks read order items swept e there asked ordered same_asks same_order done = record {
  there = there;
  asked = subst (λ (l : List Operation). AreAsks (length l) t fixings decisions asks) (sym e) asked;
  order_is = subst (λ (l : List Operation). IsOrder l order) (sym e) ordered;
  swept_is = subst (λ (l : List Operation). IsSwept l asks order swept) (sym e) (subst (λ (l : List Ask). IsSwept operations l order swept) same_asks (subst (λ (l : List ℕ). IsSwept operations read l swept) same_order done));
}

last_place : (train : List Operation) (order : List ℕ) → IsAcyclic train → IsOrder train order → (k : ℕ) × (length order ≡ k + 1) × (slice_get order k ≡ Some (last_of order))
last_place train order acyclic is =
    let last = has_last train order acyclic is in
    let place : length order - 1 ≡ last.0 = omega (arith, last.2) in
    (last.0, last.2, subst (λ (n : ℕ). slice_get order n ≡ Some (last_of order)) place (slice_get-get_or order (length order - 1) 0 (omega (arith, last.2))))

trimmed : (problem : Problem) (fixings : List Fixing) (decisions : List Decision) (t : ℕ) (asks : List Ask) (order : List ℕ) (swept : Swept) → IsFound problem fixings decisions t asks order swept
    → (k : ℕ) × IsTrimmedFor (node_at problem fixings decisions) t asks order swept.rows k (last_of order)
trimmed problem fixings decisions t asks order swept is =
    let acyclic = is_acyclic problem t is.there in
    let last = last_place (train_at problem t) order acyclic is.order_is in (
      last.0,
      record {
        trimmed = record { acyclic = acyclic; order_is = is.order_is; asks_long = is.asked.long; rows_are = is.swept_is.rows };
        asked = is.asked;
        count = last.1;
        last = last.2;
      },
    )

has_way : (problem : Problem) (fixings : List Fixing) (decisions : List Decision) (t : ℕ) (asks : List Ask) (order : List ℕ) (swept : Swept) → IsFound problem fixings decisions t asks order swept
    → IsTrue swept.holds ↔ HasWay (train_at problem t) asks order (last_of order)
has_way problem fixings decisions t asks order swept is =
    let last = last_place (train_at problem t) order (is_acyclic problem t is.there) is.order_is in
    is.swept_is.last last.0 (last_of order) last.1 last.2

-- ---- where none is left

pub none_are : (problem : Problem) (fixings : List Fixing) (decisions : List Decision) (t : ℕ) (asks : List Ask) (order : List ℕ) (swept : Swept) (routes : Routes) → IsFound problem fixings decisions t asks order swept → swept.holds ≡ false
    → routes.left ≡ false → routes.sums.items ≡ [] → routes.marks.items ≡ [] → AreRoutesOf (node_at problem fixings decisions) t routes
none_are problem fixings decisions t asks order swept routes is not_held not_left no_sums empty = record {
  left = (λ left. absurd (false≢true (sym not_left ∙ left)), λ has. absurd (none has));
  sums = λ o. (
    λ some. absurd (false≢true (subst (λ (s : Option ℕ). IsSome s) (get_or_past [] o None (omega arith)) (subst (λ (l : List (Option ℕ)). IsSome (sum_at l o)) no_sums some))),
    λ has. absurd (none (has.0, has.1)),
  );
  marks = λ o. subst (λ (l : List (Option Mark)). MatchOption (mark_at l o) (IsForced node (op_of_train t o) → ⊥) (IsMarkOf node t o)) (sym empty)
      (subst (λ (m : Option Mark). MatchOption m (IsForced node (op_of_train t o) → ⊥) (IsMarkOf node t o)) (sym (get_or_past [] o None (omega arith))) (λ forced. none forced.allowed));
  ordered = λ a b from to first second. unmarked a from first;
  begins = λ route allowed. absurd (none (route, allowed));
  ends = λ o mark at. unmarked o mark at;
  short = λ o mark at. unmarked o mark at;
  allowed = λ left. absurd (false≢true (sym not_left ∙ left));
  is_order = λ left. absurd (false≢true (sym not_left ∙ left));
}
  where
    node : Node
    node = node_at problem fixings decisions

    unmarked : {P : Type 0} → (o : ℕ) (mark : Mark) → mark_at routes.marks.items o ≡ Some mark → P
    unmarked o mark at = absurd (none-some mark (sym (get_or_past [] o None (omega arith)) ∙ subst (λ (l : List (Option Mark)). mark_at l o ≡ Some mark) empty at))

    none : HasRoute node t → ⊥
    none (route, allowed) =
        let trim = trimmed problem fixings decisions t asks order swept is in
        let way = route_is_way node t asks order swept.rows trim.0 (last_of order) route trim.1 allowed in
        false≢true (sym not_held ∙ (has_way problem fixings decisions t asks order swept is).1 (way.0, way.2))

-- ---- where some are

walks : (problem : Problem) (fixings : List Fixing) (decisions : List Decision) (t : ℕ) (asks : List Ask) (order : List ℕ) (swept : Swept) → IsFound problem fixings decisions t asks order swept → swept.holds ≡ true
    → AreWalks (node_at problem fixings decisions) t order swept.rows
walks problem fixings decisions t asks order swept is held =
    let trim = trimmed problem fixings decisions t asks order swept is in
    are_walks (node_at problem fixings decisions) t asks order swept.rows trim.0 is.there trim.1 ((has_way problem fixings decisions t asks order swept is).0 held) (train_fits problem t is.there)

pub is_laid : (problem : Problem) (fixings : List Fixing) (decisions : List Decision) (t : ℕ) (asks : List Ask) (order : List ℕ) (swept : Swept) → IsFound problem fixings decisions t asks order swept → swept.holds ≡ true
    → IsLaid (train_at problem t) order swept.rows
is_laid problem fixings decisions t asks order swept is held = (walks problem fixings decisions t asks order swept is held).is_laid

pub some_are : (problem : Problem) (fixings : List Fixing) (decisions : List Decision) (t : ℕ) (asks : List Ask) (order : List ℕ) (swept : Swept) (routes : Routes) → IsFound problem fixings decisions t asks order swept → swept.holds ≡ true
    → routes.left ≡ true → routes.entry ≡ last_of order → HasSums (train_at problem t) order swept.rows routes.sums.items → HasMarks (train_at problem t) order swept.rows routes.marks.items → routes.order.items ≡ order → routes.rows ≡ swept.rows
    → AreRoutesOf (node_at problem fixings decisions) t routes
some_are problem fixings decisions t asks order swept routes is held left entry sums marks same_order same_rows =
    let are = walks problem fixings decisions t asks order swept is held in
    let node = node_at problem fixings decisions in
    record {
      left = (λ h. route_there node t order swept.rows are, λ h. left);
      sums = sums_are node t order swept.rows routes.sums.items are sums;
      marks = marks_are node t order swept.rows routes.marks.items are marks;
      ordered = ordered_are node t order swept.rows routes.marks.items are marks;
      begins = begins_are node t order swept.rows routes.entry are entry;
      ends = ends_are node t order swept.rows routes.marks.items are marks;
      short = short_are node t order swept.rows routes.marks.items are marks;
      allowed = λ h. subst (λ (l : List ℕ). AreAllowedRows node t l routes.rows) (sym same_order)
          (subst (λ (l : List (List ℕ)). AreAllowedRows node t order l) (sym same_rows) (record { laid = are.is_laid; walk = are.walk; route = are.route }));
      is_order = λ h. subst (IsOrder (train_at problem t)) (sym same_order) is.order_is;
    }

-- ---- answers

one_arc : (node : Node) (t a b n m : ℕ) → IsTrainArc node (op_of_train t a) (op_of_train t b) n → IsTrainArc node (op_of_train t a) (op_of_train t b) m → n ≡ m
one_arc node t a b n m first second =
    let up = first.least second.reached.0 m second.reached.1 second.reached.2 in
    let down = second.least first.reached.0 n first.reached.1 first.reached.2 in
    omega (arith, up, down)

-- the least sum between two marked operations
pub between_some : (node : Node) (t a b : ℕ) (routes : Routes) (from to : Mark) (sum : ℕ) → AreRoutesOf node t routes → mark_at routes.marks.items a ≡ Some from → mark_at routes.marks.items b ≡ Some to → to.place < from.place
    → (to.sum - from.sum ≡ sum) ↔ (IsForced node (op_of_train t a) × IsForced node (op_of_train t b) × IsTrainArc node (op_of_train t a) (op_of_train t b) sum)
between_some node t a b routes from to sum are first second lower = (
  λ e. (
    (marked_forced node t a (mark_at routes.marks.items a) from (are.marks a) first).forced,
    (marked_forced node t b (mark_at routes.marks.items b) to (are.marks b) second).forced,
    subst (IsTrainArc node (op_of_train t a) (op_of_train t b)) e arc,
  ),
  λ h. one_arc node t a b (to.sum - from.sum) sum arc h.2,
)
  where
    arc : IsTrainArc node (op_of_train t a) (op_of_train t b) (to.sum - from.sum)
    arc = (are.ordered a b from to first second).arc lower

pub between_none : (node : Node) (t a b : ℕ) (routes : Routes) (from to : Mark) (sum : ℕ) → AreRoutesOf node t routes → mark_at routes.marks.items a ≡ Some from → mark_at routes.marks.items b ≡ Some to → from.place ≤ to.place
    → IsTrainArc node (op_of_train t a) (op_of_train t b) sum → ⊥
between_none node t a b routes from to sum are first second above arc = (are.ordered a b from to first second).none above sum arc

pub next_is : (node : Node) (t o : ℕ) (routes : Routes) (mark : Mark) (s : ℕ) → AreRoutesOf node t routes → mark_at routes.marks.items o ≡ Some mark → (mark.next ≡ Some s) ↔ (IsForced node (op_of_train t o) × GoesTo node (op_of_train t o) (op_of_train t s))
next_is node t o routes mark s are is =
    let found = marked_forced node t o (mark_at routes.marks.items o) mark (are.marks o) is in
    (λ e. (found.forced, (found.next s).0 e), λ h. (found.next s).1 h.1)
