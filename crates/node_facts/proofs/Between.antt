-- Least sums between forced operations, by the least sums from each to the exit.
use Rattle.std.proofs.Common.{◌≡◌, ℕ, ◌+◌, ◌-◌, ◌<◌, ◌≤◌, ◌⊎◌, List, [], ◌∷◌, ◌++◌, get_or, Option, Some, None, refl, sym, ap, subst, ◌∙◌, inl, inr, arith}
use Rattle.std.specs.Prelude.{nat_lt, slice_index, Contains, IsTrue, sum_by, unwrap_or, ◌↔◌}
use Rattle.std.proofs.lemmas.Bool.{lt-ltb, ltb-true}
use Rattle.std.proofs.lemmas.Option.{none-some, same_Some}
use Rattle.std.proofs.lemmas.List.Sums.{sum_by-cons}
use Rattle.disp_model.specs.declared.train.Operation.{Operation}
use Rattle.disp_model.specs.Train.{duration_of, IsExit, GoesOn, IsRoute}
use Rattle.disp_model.specs.WellFormed.{LeadsTo}
use Rattle.disp_model.specs.Valid.{train_at}
use Rattle.disp_model.specs.Node.{Node}
use Rattle.disp_model.specs.Routes.{IsAllowed, IsForced}
use Rattle.disp_model.specs.Arcs.{Passes, IsTrainArc}
use Rattle.disp_laws.proofs.Paths.{IsIn, is_in, in_middle, leads_along}
use Rattle.disp_laws.proofs.RouteSearch.{each_within}
use Rattle.disp_laws.proofs.LeastSums.{train_arc_exists}
use Rattle.disp_laws.proofs.Composed.{arcs_compose, in_front_or_back}
use Rattle.disp_laws.proofs.LongestArcs.{one_train_arc}
use Rattle.train_orders.proofs.Places.{contains_none, same_number}
use Rattle.node_facts.specs.declared.demands.Demand.{Demand}
use Rattle.node_facts.specs.declared.train.TrainKnowledge.{TrainKnowledge}
use Rattle.node_facts.specs.Ways.{IsWay, way_sum, IsLeastSuch, IsLeastOf, HasSum}
use Rattle.route_marks.specs.Marks.{sum_at}
use Rattle.node_facts.specs.Known.{op_numbered, IsKnown, IsNearer}
use Rattle.node_facts.proofs.Placing.{falls}
use Rattle.node_facts.proofs.Allowing.{IsLaidOut, exit_first, falls_along, way_goes, allowed_is_way}
use Rattle.node_facts.proofs.Knowing.{laid_out, asked}
use Rattle.node_facts.proofs.Stepping.{Passing, passing}

-- ---- places fall along allowed routes

goes_from : (train : List Operation) (p : ℕ) (front : List ℕ) (o : ℕ) (rest : List ℕ) → GoesOn train p (front ++ o ∷ rest) → GoesOn train o rest
goes_from train p [] o rest goes = goes.1
goes_from train p (q ∷ front) o rest goes = goes_from train q front o rest goes.1

route_from : (train : List Operation) (front : List ℕ) (o : ℕ) (rest : List ℕ) → IsRoute train (front ++ o ∷ rest) → GoesOn train o rest
route_from train [] o rest route = route.1
route_from train (p ∷ front) o rest route = goes_from train p front o rest route.1

below_along : (node : Node) (t : ℕ) (known : TrainKnowledge) (o w : ℕ) (rest : List ℕ) → IsKnown node t known → GoesOn (train_at node.problem t) o rest → IsIn w rest → get_or known.places.items w 0 < get_or known.places.items o 0
below_along node t known o w [] is goes there = absurd there
below_along node t known o w (s ∷ rest) is goes there =
    let laid = laid_out node t known is in
    omega (
      arith,
      falls (train_at node.problem t) known.order.items known.places.items o s laid.order_is laid.places_are (each_within (train_at node.problem t) o (s ∷ rest) goes o (inl refl)) goes.0,
      falls_along (train_at node.problem t) known.order.items known.places.items s w rest laid goes.1 there,
    )

-- a train arc leads to a lower place
pub arc_falls : (node : Node) (t a b n : ℕ) (known : TrainKnowledge) → IsKnown node t known → IsTrainArc node (op_numbered t a) (op_numbered t b) n → get_or known.places.items b 0 < get_or known.places.items a 0
arc_falls node t a b n known is arc =
    let route = arc.reached in
    let passes = route.2 in
    let goes = route_from (train_at node.problem t) passes.before a (passes.between ++ b ∷ passes.behind) (subst (IsRoute (train_at node.problem t)) passes.route_is route.1.is_route) in
    below_along node t known a b (passes.between ++ b ∷ passes.behind) is goes (in_middle b passes.between passes.behind)

-- of two forced operations the one at the higher place leads to the other
leads_down : (node : Node) (t a b : ℕ) (known : TrainKnowledge) → IsKnown node t known → IsForced node (op_numbered t a) → IsForced node (op_numbered t b) → get_or known.places.items b 0 < get_or known.places.items a 0
    → (n : ℕ) × LeadsTo (train_at node.problem t) n a b
leads_down node t a b known is one other less = by (in_front_or_back b at.front (a ∷ at.back) (subst (IsIn b) at.split (is_in b route.0 (other.each_has route.0 route.1))))
  where
    train : List Operation
    train = train_at node.problem t

    route : (route : List ℕ) × IsAllowed node t route
    route = one.allowed

    at : Passing node t a known route.0
    at = passing node t a known route.0 is route.1 (one.each_has route.0 route.1)

    inside : (p : ℕ) (front : List ℕ) → GoesOn train p (front ++ a ∷ at.back) → IsIn b (p ∷ front) → ⊥
    inside p [] goes (inl e) = let same = ap (λ (x : ℕ). get_or known.places.items x 0) e in omega (arith, less, same, below_along node t known p a (a ∷ at.back) is goes (inl refl))
    inside p [] goes (inr h) = h
    inside p (q ∷ front) goes (inl e) =
        let same = ap (λ (x : ℕ). get_or known.places.items x 0) e in omega (arith, less, same, below_along node t known p a (q ∷ (front ++ a ∷ at.back)) is goes (inr (in_middle a front at.back)))
    inside p (q ∷ front) goes (inr h) = inside q front goes.1 h

    early : (front : List ℕ) → IsRoute train (front ++ a ∷ at.back) → IsIn b front → ⊥
    early [] goes there = there
    early (p ∷ front) goes there = inside p front goes.1 there

    by : IsIn b at.front ⊎ ((a ≡ b) ⊎ IsIn b at.back) → (n : ℕ) × LeadsTo train n a b
    by (inl there) = absurd (early at.front (subst (IsRoute train) at.split route.1.is_route) there)
    by (inr (inl same)) = let place = ap (λ (x : ℕ). get_or known.places.items x 0) same in absurd (omega (arith, less, place))
    by (inr (inr there)) = leads_along train a b at.back (way_goes train known.places.items known.demands.items a at.back at.way) there

-- ---- up to the exit

-- a way ends in the exit, with the sum of the durations before it
ends : (train : List Operation) (places : List ℕ) (demands : List Demand) (o : ℕ) (rest : List ℕ) → IsWay train places demands o rest
    → (x : ℕ) × IsExit train x × ((between : List ℕ) × (o ∷ rest ≡ between ++ x ∷ []) × (way_sum train o rest ≡ sum_by (duration_of train) between))
ends train places demands o [] way = (o, way.0, ([], refl, refl))
ends train places demands o (s ∷ rest) way =
    let later = ends train places demands s rest way.2 in
    let sum : way_sum train o (s ∷ rest) ≡ sum_by (duration_of train) (o ∷ later.2.0) = omega (arith, later.2.2, sum_by-cons (duration_of train) o later.2.0) in
    (later.0, later.1, (o ∷ later.2.0, ap (λ (l : List ℕ). o ∷ l) later.2.1, sum))

sum_to : (train : List Operation) (o x : ℕ) (between : List ℕ) → way_sum train o (between ++ x ∷ []) ≡ sum_by (duration_of train) (o ∷ between)
sum_to train o x [] = omega (arith, sum_by-cons (duration_of train) o [])
sum_to train o x (s ∷ between) = omega (arith, sum_to train s x between, sum_by-cons (duration_of train) o (s ∷ between))

abbrev tail_of : List ℕ → List ℕ
tail_of [] = []
tail_of (x ∷ xs) = xs

-- a way that passes an operation goes on from it
way_from : (train : List Operation) (places : List ℕ) (demands : List Demand) (e o : ℕ) (rest front back : List ℕ) → IsWay train places demands e rest → e ∷ rest ≡ front ++ o ∷ back → IsWay train places demands o back
way_from train places demands e o rest [] back way is =
    subst (λ (l : List ℕ). IsWay train places demands o l) (ap tail_of is) (subst (λ (x : ℕ). IsWay train places demands x rest) (ap (λ (l : List ℕ). get_or l 0 0) is) way)
way_from train places demands e o [] (f ∷ front) back way is = absurd (no_end front (ap tail_of is))
  where
    no_end : (front : List ℕ) → [] ≡ front ++ o ∷ back → ⊥
    no_end [] e = absurd cc
    no_end (f ∷ front) e = absurd cc
way_from train places demands e o (s ∷ rest) (f ∷ front) back way is = way_from train places demands s o rest front back way.2 (ap tail_of is)

ends_at_exit : (train : List Operation) (places : List ℕ) (demands : List Demand) (x : ℕ) (rest : List ℕ) → IsExit train x → IsWay train places demands x rest → rest ≡ []
ends_at_exit train places demands x [] exit way = refl
ends_at_exit train places demands x (s ∷ rest) exit way = absurd (contains_none s (subst (λ (l : List ℕ). Contains l s) exit.last way.0))

way_onward : (train : List Operation) (places : List ℕ) (demands : List Demand) (o x : ℕ) (between behind : List ℕ) → IsWay train places demands o (between ++ x ∷ behind) → IsWay train places demands x behind
way_onward train places demands o x [] behind way = way.2
way_onward train places demands o x (s ∷ between) behind way = way_onward train places demands s x between behind way.2

-- from a forced operation that is not the exit an arc leads to the exit, as long as the least sum
pub arc_to_exit : (node : Node) (t o x n : ℕ) (known : TrainKnowledge) → IsKnown node t known → IsForced node (op_numbered t o) → IsExit (train_at node.problem t) x → (o ≡ x → ⊥)
    → IsLeastSuch (HasSum (train_at node.problem t) known.places.items known.demands.items o) n → IsTrainArc node (op_numbered t o) (op_numbered t x) n
arc_to_exit node t o x n known is forced exit apart least = record { same_train = refl; reached = reached least.reached.rest least.reached.way least.reached.sum_is; least = λ route total allowed passes. at_most route total allowed passes }
  where
    train : List Operation
    train = train_at node.problem t

    places : List ℕ
    places = known.places.items

    demands : List Demand
    demands = known.demands.items

    route : (route : List ℕ) × IsAllowed node t route
    route = forced.allowed

    at : Passing node t o known route.0
    at = passing node t o known route.0 is route.1 (forced.each_has route.0 route.1)

    reached : (rest : List ℕ) → IsWay train places demands o rest → way_sum train o rest ≡ n → (route : List ℕ) × IsAllowed node t route × Passes train route o x n
    reached [] way sum_is = absurd (apart ((node.problem.well_formed.acyclic t [] is.there).one_exit o x way.0 exit))
    reached (s ∷ rest) way sum_is =
        let end = ends train places demands s rest way.2 in
        let same : end.0 ≡ x = (node.problem.well_formed.acyclic t [] is.there).one_exit end.0 x end.1 exit in
        let rest_is : s ∷ rest ≡ end.2.0 ++ x ∷ [] = subst (λ (y : ℕ). s ∷ rest ≡ end.2.0 ++ y ∷ []) same end.2.1 in (
          at.front ++ o ∷ s ∷ rest,
          at.join (s ∷ rest) way,
          record {
            before = at.front;
            between = end.2.0;
            behind = [];
            route_is = ap (λ (l : List ℕ). at.front ++ o ∷ l) rest_is;
            total_is = omega (arith, sum_is, end.2.2, sum_by-cons (duration_of train) o end.2.0);
          },
        )

    at_most : (route : List ℕ) (total : ℕ) → IsAllowed node t route → Passes train route o x total → n ≤ total
    at_most route total allowed passes =
        let whole = allowed_is_way node t known.order.items places demands known.entry route (asked node t known is) allowed in
        let way = way_from train places demands known.entry o whole.0 passes.before (passes.between ++ x ∷ passes.behind) whole.2 (sym whole.1 ∙ passes.route_is) in
        let last : passes.behind ≡ [] = ends_at_exit train places demands x passes.behind exit (way_onward train places demands o x passes.between passes.behind way) in
        let short : IsWay train places demands o (passes.between ++ x ∷ []) = subst (λ (l : List ℕ). IsWay train places demands o (passes.between ++ x ∷ l)) last way in
        omega (arith, least.at_most (way_sum train o (passes.between ++ x ∷ [])) (record { rest = passes.between ++ x ∷ []; way = short; sum_is = refl }), sum_to train o x passes.between, passes.total_is)

-- ---- between two

-- the least sum between two forced operations is the difference of those to the exit
pub arc_between : (node : Node) (t a b m n : ℕ) (known : TrainKnowledge) → IsKnown node t known → IsForced node (op_numbered t a) → IsForced node (op_numbered t b) → get_or known.places.items b 0 < get_or known.places.items a 0
    → IsLeastSuch (HasSum (train_at node.problem t) known.places.items known.demands.items a) m → IsLeastSuch (HasSum (train_at node.problem t) known.places.items known.demands.items b) n
    → IsTrainArc node (op_numbered t a) (op_numbered t b) (m - n)
arc_between node t a b m n known is one other less first second = by (same_number b x)
  where
    train : List Operation
    train = train_at node.problem t

    laid : IsLaidOut train known.order.items known.places.items
    laid = laid_out node t known is

    end : (x : ℕ) × IsExit train x × ((between : List ℕ) × (b ∷ second.reached.rest ≡ between ++ x ∷ []) × (way_sum train b second.reached.rest ≡ sum_by (duration_of train) between))
    end = ends train known.places.items known.demands.items b second.reached.rest second.reached.way

    x : ℕ
    x = end.0

    not_exit : a ≡ x → ⊥
    not_exit same = let place = ap (λ (y : ℕ). get_or known.places.items y 0) same in omega (arith, less, place, exit_first train known.order.items known.places.items x laid end.1)

    none_behind : b ≡ x → n ≡ 0
    none_behind same =
        let alone = ends_at_exit train known.places.items known.demands.items b second.reached.rest (subst (IsExit train) (sym same) end.1) second.reached.way in
        sym second.reached.sum_is ∙ ap (λ (l : List ℕ). way_sum train b l) alone

    by : (b ≡ x) ⊎ (b ≡ x → ⊥) → IsTrainArc node (op_numbered t a) (op_numbered t b) (m - n)
    by (inl same) =
        let whole : m ≡ m - n = omega (arith, none_behind same) in
        subst (λ (y : ℕ). IsTrainArc node (op_numbered t a) (op_numbered t y) (m - n)) (sym same) (subst (IsTrainArc node (op_numbered t a) (op_numbered t x)) whole (arc_to_exit node t a x m known is one end.1 not_exit first))
    by (inr not) =
        let leads = leads_down node t a b known is one other less in
        let arc = train_arc_exists node (op_numbered t a) (op_numbered t b) leads.0 refl leads.1 one other in
        let whole = arcs_compose node (op_numbered t a) (op_numbered t b) (op_numbered t x) arc.0 n other arc.1 (arc_to_exit node t b x n known is other end.1 not second) in
        let same : m ≡ arc.0 + n = one_train_arc node (op_numbered t a) (op_numbered t x) m (arc.0 + n) (arc_to_exit node t a x m known is one end.1 not_exit first) whole in
        let gap : arc.0 ≡ m - n = omega (arith, same) in
        subst (IsTrainArc node (op_numbered t a) (op_numbered t b)) gap arc.1

-- ---- what the difference answers

sum_known : (node : Node) (t o : ℕ) (known : TrainKnowledge) → IsKnown node t known → IsForced node (op_numbered t o) → (found : Option ℕ) → found ≡ sum_at known.sums.items o
    → (m : ℕ) × (unwrap_or found 0 ≡ m) × IsLeastSuch (HasSum (train_at node.problem t) known.places.items known.demands.items o) m
sum_known node t o known is forced found e = by found e (subst (IsLeastOf (HasSum (train_at node.problem t) known.places.items known.demands.items o)) (sym e) (is.sums_are o))
  where
    at : Passing node t o known forced.allowed.0
    at = passing node t o known forced.allowed.0 is forced.allowed.1 (forced.each_has forced.allowed.0 forced.allowed.1)

    by : (found : Option ℕ) → found ≡ sum_at known.sums.items o → IsLeastOf (HasSum (train_at node.problem t) known.places.items known.demands.items o) found
        → (m : ℕ) × (unwrap_or found 0 ≡ m) × IsLeastSuch (HasSum (train_at node.problem t) known.places.items known.demands.items o) m
    by None e none = absurd (none (way_sum (train_at node.problem t) o at.back) (record { rest = at.back; way = at.way; sum_is = refl }))
    by (Some m) e least = (m, refl, least)

pub between_is : (node : Node) (t a b sum : ℕ) (known : TrainKnowledge) → IsKnown node t known → IsForced node (op_numbered t a) × IsForced node (op_numbered t b) × IsNearer known.places.items a b
    → sum ≡ unwrap_or (sum_at known.sums.items a) 0 - unwrap_or (sum_at known.sums.items b) 0
    → (n : ℕ) → (Some sum ≡ Some n) ↔ (IsForced node (op_numbered t a) × IsForced node (op_numbered t b) × IsTrainArc node (op_numbered t a) (op_numbered t b) n)
between_is node t a b sum known is leads sum_is n = (
  λ e. (leads.0, leads.1, subst (IsTrainArc node (op_numbered t a) (op_numbered t b)) (same_Some sum n e) arc),
  λ h. ap (λ (k : ℕ). Some k) (one_train_arc node (op_numbered t a) (op_numbered t b) sum n arc h.2),
)
  where
    arc : IsTrainArc node (op_numbered t a) (op_numbered t b) sum
    arc =
        let m = sum_known node t a known is leads.0 (sum_at known.sums.items a) refl in
        let k = sum_known node t b known is leads.1 (sum_at known.sums.items b) refl in
        let gap : m.0 - k.0 ≡ sum = omega (arith, sum_is, m.1, k.1) in
        subst (IsTrainArc node (op_numbered t a) (op_numbered t b)) gap (arc_between node t a b m.0 k.0 known is leads.0 leads.1 leads.2 m.2 k.2)

pub between_none : (node : Node) (t a b : ℕ) (known : TrainKnowledge) → IsKnown node t known → (IsForced node (op_numbered t a) × IsForced node (op_numbered t b) × IsNearer known.places.items a b → ⊥)
    → (n : ℕ) → (◌≡◌ {A = Option ℕ} None (Some n)) ↔ (IsForced node (op_numbered t a) × IsForced node (op_numbered t b) × IsTrainArc node (op_numbered t a) (op_numbered t b) n)
between_none node t a b known is not n = (λ e. absurd (none-some n e), λ h. absurd (not (h.0, h.1, arc_falls node t a b n known is h.2)))

pub nearer_is : (places read again : List ℕ) (a b x y : ℕ) → x ≡ slice_index read b → read ≡ places → y ≡ slice_index again a → again ≡ places → IsTrue (nat_lt x y) ↔ IsNearer places a b
nearer_is places read again a b x y x_is same y_is same_again =
    let first : x ≡ get_or places b 0 = x_is ∙ ap (λ (l : List ℕ). get_or l b 0) same in
    let second : y ≡ get_or places a 0 = y_is ∙ ap (λ (l : List ℕ). get_or l a 0) same_again in
    rw (first, second) (λ h. ltb-true (get_or places b 0) (get_or places a 0) h, λ h. lt-ltb (get_or places b 0) (get_or places a 0) h)
