-- In a valid plan that follows the decisions each run is an allowed route, and each arc holds.
use Rattle.std.proofs.Common.{◌≡◌, ℕ, zero, suc, ◌+◌, ◌<◌, ◌≤◌, List, [], ◌∷◌, length, get_or, drop, map, Option, Some, None, Bool, true, false, cond, refl, sym, ap, subst, ◌∙◌, arith, inl, inr}
use Rattle.std.specs.Prelude.{nat_eq, slice_get, slice_index_or, Contains, IsSome, sum_by, filter, ◌==◌}
use Rattle.std.specs.List.{list_any, Any}
use Rattle.std.specs.Option.{option_map_or}
use Rattle.std.proofs.lemmas.Bool.{cases_Bool, cases_lt, eqb-true, false≢true}
use Rattle.std.proofs.lemmas.Option.{none-some, same_Some}
use Rattle.std.proofs.lemmas.List.Elements.{All-contains}
use Rattle.std.proofs.lemmas.List.Folds.{Any-from_list_any}
use Rattle.disp_model.specs.declared.train.Op.{Op}
use Rattle.disp_model.specs.declared.train.Listing.{Listing}
use Rattle.disp_model.specs.declared.train.Operation.{Operation}
use Rattle.disp_model.specs.declared.plan.Event.{Event}
use Rattle.disp_model.specs.declared.fixing.Fixing.{Fixing}
use Rattle.disp_model.specs.declared.fixing.Fixing.TheVariants.{Started, Chosen, NotBefore}
use Rattle.disp_model.specs.declared.decision.Decision.{Decision}
use Rattle.disp_model.specs.declared.decision.Decision.TheVariants.{Go, First, Run, Skip}
use Rattle.disp_model.specs.declared.problem.Problem.{Problem}
use Rattle.disp_model.specs.Train.{duration_of, IsRoute}
use Rattle.disp_model.specs.WellFormed.{LeadsTo, IsAcyclic, greatest_release}
use Rattle.disp_model.specs.Plan.{run_of, operations_of, first_of, ending, end_of, Ending}
use Rattle.disp_model.specs.Fixing.{after, IsMet}
use Rattle.disp_model.specs.Valid.{train_at, operation_of, IsReleased, IsValid}
use Rattle.disp_model.specs.Node.{Node}
use Rattle.disp_model.specs.Follows.{FollowsDecision, Follows}
use Rattle.disp_model.specs.Routes.{Starts, AgreesWithFixing, AgreesWithDecision, IsAllowed, IsForced}
use Rattle.disp_model.specs.Arcs.{listings_of, shared_listings, Conflicts, release_of, min_of, Passes, IsTrainArc, IsOrderArc, IsReleaseArc, IsArc}
use Rattle.disp_laws.proofs.Paths.{is_in, contains_in}
use Rattle.disp_laws.proofs.Branching.{IsStartedAt, started_is_in, one_place, own_operations}
use Rattle.disp_laws.proofs.Positions.{in_is_started, start_is_started, around, ops_of, operations_around, around_sum, named_at, valid_lasts, valid_spaced, leads_then, route_leads}

-- ---- each run is an allowed route

fixing_agrees : (t : ℕ) (plan : List Event) (fixing : Fixing) → IsMet plan fixing → AgreesWithFixing t (operations_of t plan) fixing
fixing_agrees t plan (Started u o time) met = λ same.
    let found = start_is_started u o time plan met in
    subst (λ (v : ℕ). Contains (operations_of v plan) o) same (contains_in o (operations_of u plan) (started_is_in (record { train = u; op = o }) plan found.0 found.1 found.2))
fixing_agrees t plan (Chosen u o next) met = λ same. subst (λ (v : ℕ). after o (operations_of v plan) ≡ Some next) same met
fixing_agrees t plan (NotBefore u o time) met = tt

decision_agrees : (t : ℕ) (plan : List Event) (decision : Decision) → FollowsDecision plan decision → AgreesWithDecision t (operations_of t plan) decision
decision_agrees t plan (Go o next) follows = λ same there.
    subst (λ (v : ℕ). after o.op (operations_of v plan) ≡ Some next) same (follows (subst (λ (v : ℕ). Contains (operations_of v plan) o.op) (sym same) there))
decision_agrees t plan (First a b) follows = tt
decision_agrees t plan (Run o) follows = λ same. subst (λ (v : ℕ). Contains (operations_of v plan) o.op) same follows
decision_agrees t plan (Skip o) follows = λ same there. follows (subst (λ (v : ℕ). Contains (operations_of v plan) o.op) (sym same) there)

pub run_allowed : (node : Node) (plan : List Event) (t : ℕ) → IsValid node.problem node.fixings plan → Follows plan node.decisions → t < length node.problem.trains → IsAllowed node t (operations_of t plan)
run_allowed node plan t valid follows there = record {
  is_route = valid.routes t there;
  fixings_agree = λ k d lt. fixing_agrees t plan (get_or node.fixings k d) (valid.met k d lt);
  decisions_agree = λ k d lt. decision_agrees t plan (get_or node.decisions k d) (follows k d lt);
}

-- each forced operation is run
pub forced_is_run : (node : Node) (plan : List Event) (o : Op) → IsValid node.problem node.fixings plan → Follows plan node.decisions → IsForced node o → (i : ℕ) × (e : Event) × IsStartedAt plan o i e
forced_is_run node plan o valid follows forced =
    in_is_started o.train o.op plan (is_in o.op (operations_of o.train plan) (forced.each_has (operations_of o.train plan) (run_allowed node plan o.train valid follows forced.train)))

-- ---- an arc in a train

-- what an arc says of two events of a plan
pub record Holds (i : ℕ) (e : Event) (j : ℕ) (f : Event) (arc_length : ℕ) : Type 0 where
  pub position : i < j
  pub time : e.time + arc_length ≤ f.time

-- of two events of a train, the one whose operation leads to the other's stands first
in_order : (problem : Problem) (fixings : List Fixing) (plan : List Event) (u v : Op) (i j : ℕ) (e f : Event) (n : ℕ) → IsValid problem fixings plan → u.train ≡ v.train → u.train < length problem.trains → LeadsTo (train_at problem u.train) n u.op v.op
    → IsStartedAt plan u i e → IsStartedAt plan v j f → i < j
in_order problem fixings plan u v i j e f n valid same there leads first second =
    let train = train_at problem u.train in
    let acyclic = problem.well_formed.acyclic u.train [] there in
    elim (cases_lt i j) [
      | inl lt ↦ lt
      | inr le ↦ elim (cases_lt j i) [
        | inl lt ↦ absurd (back train acyclic (around_back lt))
        | inr ge ↦ absurd (itself train acyclic (one_event (omega arith)))
      ]
    ]
  where
    around_back : j < i → (m : ℕ) × LeadsTo (train_at problem u.train) m v.op u.op
    around_back lt =
        let a = around v u plan j i f e (sym same) lt second first in
        let route = subst (IsRoute (train_at problem v.train)) (operations_around v.train plan f e a) (valid.routes v.train (subst (λ (t : ℕ). t < length problem.trains) same there)) in
        let way = route_leads (train_at problem v.train) (ops_of a.before) f.operation (ops_of a.between) e.operation (ops_of a.behind) route in
        (way.0, subst (λ (p : ℕ). LeadsTo (train_at problem u.train) way.0 p u.op) second.1.operation (subst (λ (p : ℕ). LeadsTo (train_at problem u.train) way.0 f.operation p) first.1.operation (subst (λ (t : ℕ). LeadsTo (train_at problem t) way.0 f.operation e.operation) (sym same) way.1)))

    back : (train : List Operation) → IsAcyclic (train_at problem u.train) → ((m : ℕ) × LeadsTo (train_at problem u.train) m v.op u.op) → ⊥
    back train acyclic way = let joined = leads_then (train_at problem u.train) n way.0 u.op v.op u.op leads way.1 in acyclic.no_cycle joined.0 u.op joined.1

    one_event : i ≡ j → u.op ≡ v.op
    one_event alike =
        let event : e ≡ f = same_Some e f (sym first.0 ∙ ap (slice_get plan) alike ∙ second.0) in
        sym first.1.operation ∙ ap (λ (g : Event). g.operation) event ∙ second.1.operation

    itself : (train : List Operation) → IsAcyclic (train_at problem u.train) → u.op ≡ v.op → ⊥
    itself train acyclic alike = acyclic.no_cycle n u.op (subst (λ (p : ℕ). LeadsTo (train_at problem u.train) n u.op p) (sym alike) leads)

pub passes_leads : (train : List Operation) (route : List ℕ) (u v total : ℕ) → IsRoute train route → Passes train route u v total → (n : ℕ) × LeadsTo train n u v
passes_leads train route u v total is_route passes = route_leads train passes.before u passes.between v passes.behind (subst (IsRoute train) passes.route_is is_route)

pub train_arc_holds : (node : Node) (plan : List Event) (u v : Op) (arc_length i j : ℕ) (e f : Event) → IsValid node.problem node.fixings plan → Follows plan node.decisions → u.train < length node.problem.trains
    → IsTrainArc node u v arc_length → IsStartedAt plan u i e → IsStartedAt plan v j f → Holds i e j f arc_length
train_arc_holds node plan u v arc_length i j e f valid follows there arc first second =
    let t = u.train in
    let train = train_at node.problem t in
    let way = passes_leads train arc.reached.0 u.op v.op arc_length arc.reached.1.is_route arc.reached.2 in
    let before = in_order node.problem node.fixings plan u v i j e f way.0 valid arc.same_train there way.1 first second in
    let a = around u v plan i j e f arc.same_train before first second in
    let total = sum_by (duration_of train) (e.operation ∷ ops_of a.between) in
    let passes : Passes train (operations_of t plan) e.operation f.operation total = record { before = ops_of a.before; between = ops_of a.between; behind = ops_of a.behind; route_is = operations_around t plan e f a; total_is = refl } in
    let passes' : Passes train (operations_of t plan) u.op v.op total = subst (λ (p : ℕ). Passes train (operations_of t plan) u.op p total) second.1.operation (subst (λ (p : ℕ). Passes train (operations_of t plan) p f.operation total) first.1.operation passes) in
    let least = arc.least (operations_of t plan) total (run_allowed node plan t valid follows there) passes' in
    record { position = before; time = omega (arith, least, around_sum train t plan e f a (valid_spaced node.problem node.fixings plan t valid)) }

-- ---- an arc of a decided order

-- the greatest release time is that of a listing, where there is one
greatest_is : (ls : List Listing) → (ls ≡ [] → ⊥) → (l : Listing) × Contains ls l × (greatest_release ls ≡ l.release)
greatest_is [] some = absurd (some refl)
greatest_is (l ∷ []) some = (l, (0, omega arith, refl), omega arith)
greatest_is (l ∷ m ∷ ls) some =
    let rest = greatest_is (m ∷ ls) (λ e. absurd cc) in
    elim (cases_lt l.release (greatest_release (m ∷ ls))) [
      | inl lt ↦ (rest.0, (suc rest.1.0, omega (arith, rest.1.1), rest.1.2), omega (arith, rest.2))
      | inr le ↦ (l, (0, omega arith, refl), omega arith)
    ]

-- what a filter keeps is there, and passes
kept_is : (p : Listing → Bool) (ls : List Listing) (l : Listing) → Contains (filter p ls) l → Contains ls l × (p l ≡ true)
kept_is p [] l (k, lt, e) = absurd (omega arith)
kept_is p (m ∷ ls) l h =
    elim (cases_Bool (p m)) [
      | inl is ↦ kept_here p m ls l is (subst (λ (xs : List Listing). Contains xs l) (kept p m ls is) h) (λ g. kept_is p ls l g)
      | inr is ↦ let rest = kept_is p ls l (subst (λ (xs : List Listing). Contains xs l) (lost p m ls is) h) in (contains_more m ls l rest.0, rest.1)
    ]
  where
    kept : (p : Listing → Bool) (m : Listing) (ls : List Listing) → p m ≡ true → filter p (m ∷ ls) ≡ m ∷ filter p ls
    kept p m ls is = rw is refl

    lost : (p : Listing → Bool) (m : Listing) (ls : List Listing) → p m ≡ false → filter p (m ∷ ls) ≡ filter p ls
    lost p m ls is = rw is refl

    contains_more : (m : Listing) (ls : List Listing) (l : Listing) → Contains ls l → Contains (m ∷ ls) l
    contains_more m ls l (k, lt, e) = (suc k, omega arith, e)

    kept_here : (p : Listing → Bool) (m : Listing) (ls : List Listing) (l : Listing) → p m ≡ true → Contains (m ∷ filter p ls) l → (Contains (filter p ls) l → Contains ls l × (p l ≡ true)) → Contains (m ∷ ls) l × (p l ≡ true)
    kept_here p m ls l is (zero, lt, e) later = ((0, omega arith, e), subst (λ (x : Listing). p x ≡ true) e is)
    kept_here p m ls l is (suc k, lt, e) later = let rest = later (k, omega arith, e) in (contains_more m ls l rest.0, rest.1)

any_from : (l : Listing) (ks : List Listing) → list_any (λ k. k.resource == l.resource) ks ≡ true → Any (λ k. k.resource ≡ l.resource) ks
any_from l ks h = let a = Any-from_list_any (λ k. nat_eq k.resource l.resource) ks h in (a.0, a.1, a.2, a.3, eqb-true a.1.resource l.resource a.4)

pub some_is : {X : Type 0} (found : Option X) → IsSome found → (x : X) × (found ≡ Some x)
some_is None some = absurd (false≢true some)
some_is (Some x) some = (x, refl)

-- the event's operation is the one that it starts
pub names_op : (problem : Problem) (o : Op) (e : Event) (p : Operation) → Starts o e → operation_of problem e ≡ Some p → listings_of problem o ≡ p.listings
names_op problem o e p starts named =
    let same : slice_get (train_at problem o.train) o.op ≡ Some p =
    subst (λ (n : ℕ). slice_get (train_at problem o.train) n ≡ Some p) starts.operation (subst (λ (t : ℕ). slice_get (train_at problem t) e.operation ≡ Some p) starts.train named) in
    ap (λ (found : Option Operation). option_map_or (λ p. p.listings) found []) same

-- of two operations that share a resource the later event stands behind the earlier one's end, and starts after the release
pub released : (problem : Problem) (fixings : List Fixing) (plan : List Event) (a b : Op) (i j : ℕ) (e f : Event) → IsValid problem fixings plan → Conflicts problem a b → i < j → IsStartedAt plan a i e → IsStartedAt plan b j f
    → ((end_of problem.trains plan i e).position < j) × ((end_of problem.trains plan i e).time + release_of problem a b ≤ f.time)
released problem fixings plan a b i j e f valid conflicts lt first second =
    let o = some_is (operation_of problem e) (named_at problem fixings plan i e valid first.0) in
    let p = some_is (operation_of problem f) (named_at problem fixings plan j f valid second.0) in
    let own = names_op problem a e o.0 first.1 o.1 in
    let other = names_op problem b f p.0 second.1 p.1 in
    let greatest = greatest_is (shared_listings (listings_of problem a) (listings_of problem b)) conflicts.shared in
    let l = greatest.0 in
    let both = kept_is (λ l. list_any (λ k. k.resource == l.resource) (listings_of problem b)) (listings_of problem a) l greatest.1 in
    let there : Contains o.0.listings l = subst (λ (ls : List Listing). Contains ls l) own both.0 in
    let too : Any (λ k. k.resource ≡ l.resource) p.0.listings = subst (Any (λ k. k.resource ≡ l.resource)) other (any_from l (listings_of problem b) both.1) in
    let apart = valid.apart i j e f lt first.0 second.0 (λ same. conflicts.trains (sym first.1.train ∙ same ∙ second.1.train)) o.0 p.0 o.1 p.1 in
    let free = All-contains (λ (l : Listing). Any (λ k. k.resource ≡ l.resource) p.0.listings → IsReleased (end_of problem.trains plan i e) l j f) o.0.listings l apart there too in
    (free.position, omega (arith, free.time, greatest.2))

pub order_arc_holds : (node : Node) (plan : List Event) (u v : Op) (arc_length i j : ℕ) (e f : Event) → IsValid node.problem node.fixings plan → Follows plan node.decisions
    → IsOrderArc node.problem node.decisions u v arc_length → IsStartedAt plan u i e → IsStartedAt plan v j f → Holds i e j f arc_length
order_arc_holds node plan u v arc_length i j e f valid follows arc first second =
    let before : i < j = All-contains (FollowsDecision plan) node.decisions (First u v) follows arc.decided i j e f first.0 second.0 first.1 second.1 in
    let free = released node.problem node.fixings plan u v i j e f valid arc.conflicts before first second in
    let lasts : e.time + min_of node.problem u ≤ (end_of node.problem.trains plan i e).time =
    subst (λ (o : ℕ). e.time + duration_of (train_at node.problem u.train) o ≤ (end_of node.problem.trains plan i e).time) first.1.operation
    (subst (λ (t : ℕ). e.time + duration_of (train_at node.problem t) e.operation ≤ (end_of node.problem.trains plan i e).time) first.1.train (valid_lasts node.problem node.fixings plan valid i e first.0)) in
    record { position = before; time = omega (arith, arc.length_is, free.1, lasts) }

-- ---- an arc from what follows the holder of a resource

-- the first event of a train in a list, by the train's operations
first_is : (t n : ℕ) (more : List ℕ) (rest : List Event) → operations_of t rest ≡ n ∷ more
    → (k : ℕ) × (g : Event) × IsStartedAt rest (record { train = t; op = n }) k g × ((from : ℕ) → first_of t from rest ≡ Some (from + k, g))
first_is t n more [] at = absurd cc
first_is t n more (e ∷ rest) at = elim (cases_Bool (nat_eq e.train t)) [ inl is ↦ own t n more e rest is at | inr is ↦ another t n more e rest is at (λ h. first_is t n more rest h) ]
  where
    own : (t n : ℕ) (more : List ℕ) (e : Event) (rest : List Event) → nat_eq e.train t ≡ true → operations_of t (e ∷ rest) ≡ n ∷ more
        → (k : ℕ) × (g : Event) × IsStartedAt (e ∷ rest) (record { train = t; op = n }) k g × ((from : ℕ) → first_of t from (e ∷ rest) ≡ Some (from + k, g))
    own t n more e rest is at =
        let same : e.operation ≡ n = cc (own_operations t e rest (eqb-true e.train t is), at) in
        (0, e, (refl, record { train = eqb-true e.train t is; operation = same }), λ from. rw is (ap (λ (p : ℕ). Some (p, e)) (omega arith)))

    another : (t n : ℕ) (more : List ℕ) (e : Event) (rest : List Event) → nat_eq e.train t ≡ false → operations_of t (e ∷ rest) ≡ n ∷ more
        → (operations_of t rest ≡ n ∷ more → (k : ℕ) × (g : Event) × IsStartedAt rest (record { train = t; op = n }) k g × ((from : ℕ) → first_of t from rest ≡ Some (from + k, g)))
        → (k : ℕ) × (g : Event) × IsStartedAt (e ∷ rest) (record { train = t; op = n }) k g × ((from : ℕ) → first_of t from (e ∷ rest) ≡ Some (from + k, g))
    another t n more e rest is at behind =
        let later = behind (rw is at at) in
        (suc later.0, later.1, later.2, λ from. rw is (later.3 (from + 1) ∙ ap (λ (p : ℕ). Some (p, later.1)) (omega arith)))

-- what a plan shows of an operation, what is run behind it in its train, and where that stands
pub record IsFollowed (plan : List Event) (t o n : ℕ) : Type 0 where
  pub place : ℕ
  pub event : Event
  pub started : IsStartedAt plan (record { train = t; op = o }) place event
  pub gap : ℕ
  pub next : Event
  pub next_started : IsStartedAt (drop (place + 1) plan) (record { train = t; op = n }) gap next
  pub next_first : (from : ℕ) → first_of t from (drop (place + 1) plan) ≡ Some (from + gap, next)

followed_later : (t o n : ℕ) (e : Event) (plan : List Event) → IsFollowed plan t o n → IsFollowed (e ∷ plan) t o n
followed_later t o n e plan f =
    let more : suc f.place + 1 ≡ suc (f.place + 1) = omega arith in
    record {
      place = suc f.place;
      event = f.event;
      started = f.started;
      gap = f.gap;
      next = f.next;
      next_started = subst (λ (m : ℕ). IsStartedAt (drop m (e ∷ plan)) (record { train = t; op = n }) f.gap f.next) (sym more) f.next_started;
      next_first = subst (λ (m : ℕ). (from : ℕ) → first_of t from (drop m (e ∷ plan)) ≡ Some (from + f.gap, f.next)) (sym more) f.next_first;
    }

followed_here : (t o n : ℕ) (e : Event) (plan : List Event) (ops : List ℕ) → operations_of t plan ≡ ops → e.train ≡ t → after o (e.operation ∷ ops) ≡ Some n → (after o ops ≡ Some n → IsFollowed plan t o n) → IsFollowed (e ∷ plan) t o n
followed_here t o n e plan [] at own goes later = absurd (none-some n goes)
followed_here t o n e plan (q ∷ ops) at own goes later =
    elim (cases_Bool (nat_eq e.operation o)) [
      | inl is ↦
          let same : q ≡ n = same_Some q n (rw is at goes) in
          let first = first_is t n ops plan (at ∙ ap (λ (x : ℕ). x ∷ ops) same) in
          record { place = 0; event = e; started = (refl, record { train = own; operation = eqb-true e.operation o is }); gap = first.0; next = first.1; next_started = first.2; next_first = first.3 }
      | inr is ↦ followed_later t o n e plan (later (rw is at goes))
    ]

pub followed : (t o n : ℕ) (plan : List Event) → after o (operations_of t plan) ≡ Some n → IsFollowed plan t o n
followed t o n [] goes = absurd (none-some n goes)
followed t o n (e ∷ plan) goes = followed_at (nat_eq e.train t) refl (λ h. followed t o n plan h) goes
  where
    followed_at : (b : Bool) → nat_eq e.train t ≡ b → (after o (operations_of t plan) ≡ Some n → IsFollowed plan t o n) → after o (map (λ f. f.operation) (cond b (e ∷ run_of t plan) (run_of t plan))) ≡ Some n → IsFollowed (e ∷ plan) t o n
    followed_at false is later goes = followed_later t o n e plan (later goes)
    followed_at true is later goes = followed_here t o n e plan (operations_of t plan) refl (eqb-true e.train t is) goes later

pub get_dropped : (plan : List Event) (m k : ℕ) → slice_get (drop m plan) k ≡ slice_get plan (m + k)
get_dropped plan zero k = let same : 0 + k ≡ k = omega arith in rw same refl
get_dropped [] (suc m) k = refl
get_dropped (e ∷ plan) (suc m) k = let more : suc m + k ≡ suc (m + k) = omega arith in rw more (get_dropped plan m k)

pub release_arc_holds : (node : Node) (plan : List Event) (u v : Op) (arc_length i j : ℕ) (e f : Event) → IsValid node.problem node.fixings plan → Follows plan node.decisions
    → IsReleaseArc node u v arc_length → IsStartedAt plan u i e → IsStartedAt plan v j f → Holds i e j f arc_length
release_arc_holds node plan u v arc_length i j e f valid follows arc first second =
    let h = arc.holder in
    let goes = arc.goes_to.1 (operations_of h.train plan) (run_allowed node plan h.train valid follows arc.forced.train) in
    let held = followed h.train h.op u.op plan goes in
    let before : held.place < j = All-contains (FollowsDecision plan) node.decisions (First h v) follows arc.decided held.place j held.event f held.started.0 second.0 held.started.1 second.1 in
    let free = released node.problem node.fixings plan h v held.place j held.event f valid arc.conflicts before held.started second in
    let there : slice_get plan ((held.place + 1) + held.gap) ≡ Some held.next = sym (get_dropped plan (held.place + 1) held.gap) ∙ held.next_started.0 in
    let own : Starts u held.next = record { train = held.next_started.1.train ∙ sym arc.goes_to.0; operation = held.next_started.1.operation } in
    let place : i ≡ (held.place + 1) + held.gap = one_place node.problem node.fixings plan u i ((held.place + 1) + held.gap) e held.next valid first (there, own) in
    let event : e ≡ held.next = same_Some e held.next (sym first.0 ∙ ap (slice_get plan) place ∙ there) in
    let ends : end_of node.problem.trains plan held.place held.event ≡ record { position = (held.place + 1) + held.gap; time = held.next.time } =
    ap (λ (found : Option (ℕ × Event)). ending (slice_index_or node.problem.trains held.event.train []) held.place held.event found)
    (ap (λ (t : ℕ). first_of t (held.place + 1) (drop (held.place + 1) plan)) held.started.1.train ∙ held.next_first (held.place + 1)) in
    let position : (held.place + 1) + held.gap < j = subst (λ (x : Ending). x.position < j) ends free.0 in
    let time : held.next.time + release_of node.problem h v ≤ f.time = subst (λ (x : Ending). x.time + release_of node.problem h v ≤ f.time) ends free.1 in
    let same : e.time ≡ held.next.time = ap (λ (x : Event). x.time) event in
    record { position = omega (arith, place, position); time = omega (arith, arc.length_is, same, time) }

pub arc_holds : (node : Node) (plan : List Event) (u v : Op) (arc_length i j : ℕ) (e f : Event) → IsValid node.problem node.fixings plan → Follows plan node.decisions
    → IsArc node u v arc_length → IsStartedAt plan u i e → IsStartedAt plan v j f → Holds i e j f arc_length
arc_holds node plan u v arc_length i j e f valid follows arc first second =
    elim arc.kind [
      | inl train ↦ train_arc_holds node plan u v arc_length i j e f valid follows arc.from_forced.train train first second
      | inr rest ↦ elim rest [
        | inl order ↦ order_arc_holds node plan u v arc_length i j e f valid follows order first second
        | inr release ↦ release_arc_holds node plan u v arc_length i j e f valid follows release first second
      ]
    ]
