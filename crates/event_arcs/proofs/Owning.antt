-- A train's routes are told by the fixings and decisions of its own.
use Rattle.std.proofs.Common.{◌≡◌, ℕ, ◌+◌, ◌-◌, ◌<◌, List, [], ◌∷◌, ◌++◌, length, take, get_or, Option, Some, None, refl, sym, ap, subst, ◌∙◌, inl, inr, arith}
use Rattle.std.specs.Prelude.{All, MatchOption, ◌↔◌}
use Rattle.std.proofs.lemmas.List.{take_more, length-append, get_or_append_left, get_or-append_right}
use Rattle.std.proofs.lemmas.Bool.{cases_lt}
use Rattle.std.proofs.lemmas.List.Elements.{All-nil, All-push, All-pop}
use Rattle.disp_model.specs.declared.fixing.Fixing.{Fixing}
use Rattle.disp_model.specs.declared.fixing.Fixing.TheVariants.{Started, Chosen, NotBefore}
use Rattle.disp_model.specs.declared.decision.Decision.{Decision}
use Rattle.disp_model.specs.declared.decision.Decision.TheVariants.{Go, First, Run, Skip}
use Rattle.disp_model.specs.declared.problem.Problem.{Problem}
use Rattle.disp_model.specs.Node.{Node, node_at}
use Rattle.disp_model.specs.Routes.{AgreesWithFixing, AgreesWithDecision, IsAllowed, HasRoute, IsForced}
use Rattle.disp_model.specs.Arcs.{IsTrainArc, GoesTo}
use Rattle.disp_laws.proofs.RouteSearch.{same_number, same_option}
use Rattle.route_marks.specs.declared.marks.Mark.{Mark}
use Rattle.route_sets.specs.declared.routes.Routes.{Routes}
use Rattle.route_marks.specs.Marks.{mark_at}
use Rattle.route_sets.specs.Sets.{op_of_train, IsMarkOf, AreRoutesOf}
use Rattle.event_arcs.specs.declared.owns.Own.{Own}
use Rattle.event_arcs.specs.Owned.{train_of_fixing, train_of_decision, own_at, TakesFixing, TakesDecision, AreByTrain}

-- ---- one more fixing, one more decision

-- a fixing of another train asks nothing
other_fixing : (t : ℕ) (route : List ℕ) (fixing : Fixing) → (t ≡ train_of_fixing fixing → ⊥) → AgreesWithFixing t route fixing
other_fixing t route (Started u o time) other = λ same. absurd (other (sym same))
other_fixing t route (Chosen u o next) other = λ same. absurd (other (sym same))
other_fixing t route (NotBefore u o time) other = tt

pub other_decision : (t : ℕ) (route : List ℕ) (decision : Decision) → (train_of_decision decision ≡ Some t → ⊥) → AgreesWithDecision t route decision
other_decision t route (Go o next) other = λ same. absurd (other (ap Some same))
other_decision t route (First a b) other = tt
other_decision t route (Run o) other = λ same. absurd (other (ap Some same))
other_decision t route (Skip o) other = λ same. absurd (other (ap Some same))

-- one more on both sides, or one on the one side that holds anyway
more_on_both : {X : Type 0} (P : X → Type 0) (xs ys zs : List X) (x : X) → All P xs ↔ All P ys → zs ≡ ys ++ x ∷ [] → All P (xs ++ x ∷ []) ↔ All P zs
more_on_both P xs ys zs x same is = (
  λ all. let parts = All-pop P (xs ++ x ∷ []) xs (Some x) refl all in subst (All P) (sym is) (All-push P ys x (same.0 parts.0) parts.1),
  λ all. let parts = All-pop P (ys ++ x ∷ []) ys (Some x) refl (subst (All P) is all) in All-push P xs x (same.1 parts.0) parts.1,
)

more_on_one : {X : Type 0} (P : X → Type 0) (xs ys zs : List X) (x : X) → All P xs ↔ All P ys → zs ≡ ys → P x → All P (xs ++ x ∷ []) ↔ All P zs
more_on_one P xs ys zs x same is holds = (
  λ all. let parts = All-pop P (xs ++ x ∷ []) xs (Some x) refl all in subst (All P) (sym is) (same.0 parts.0),
  λ all. All-push P xs x (same.1 (subst (All P) is all)) holds,
)

fixing_taken : (fixings : List Fixing) (decisions : List Decision) (fixing : Fixing) (old new : List Own) → AreByTrain fixings decisions old → TakesFixing fixing old new → AreByTrain (fixings ++ fixing ∷ []) decisions new
fixing_taken fixings decisions fixing old new are takes = record {
  of_fixings = λ t route there. by_train t route (omega (arith, there, takes.long));
  of_decisions = λ t route there. subst (λ (l : List Decision). All (AgreesWithDecision t route) decisions ↔ All (AgreesWithDecision t route) l) (sym (takes.decisions t)) (are.of_decisions t route (omega (arith, there, takes.long)));
}
  where
    by_train : (t : ℕ) (route : List ℕ) → t < length old → All (AgreesWithFixing t route) (fixings ++ fixing ∷ []) ↔ All (AgreesWithFixing t route) (own_at new t).fixings
    by_train t route there = elim (same_number t (train_of_fixing fixing)) [
      | inl same ↦
          let own : (own_at new t).fixings ≡ (own_at old t).fixings ++ fixing ∷ [] =
          subst (λ (u : ℕ). (own_at new u).fixings ≡ (own_at old u).fixings ++ fixing ∷ []) (sym same) (takes.own (omega (arith, there, same))) in
          more_on_both (AgreesWithFixing t route) fixings (own_at old t).fixings (own_at new t).fixings fixing (are.of_fixings t route there) own
      | inr other ↦ more_on_one (AgreesWithFixing t route) fixings (own_at old t).fixings (own_at new t).fixings fixing (are.of_fixings t route there) (takes.others t other) (other_fixing t route fixing other)
    ]

decision_taken : (fixings : List Fixing) (decisions : List Decision) (decision : Decision) (old new : List Own) → AreByTrain fixings decisions old → TakesDecision decision old new → AreByTrain fixings (decisions ++ decision ∷ []) new
decision_taken fixings decisions decision old new are takes = record {
  of_fixings = λ t route there. subst (λ (l : List Fixing). All (AgreesWithFixing t route) fixings ↔ All (AgreesWithFixing t route) l) (sym (takes.fixings t)) (are.of_fixings t route (omega (arith, there, takes.long)));
  of_decisions = λ t route there. by_train t route (omega (arith, there, takes.long));
}
  where
    by_train : (t : ℕ) (route : List ℕ) → t < length old → All (AgreesWithDecision t route) (decisions ++ decision ∷ []) ↔ All (AgreesWithDecision t route) (own_at new t).decisions
    by_train t route there = elim (same_option (train_of_decision decision) (Some t)) [
      | inl same ↦ more_on_both (AgreesWithDecision t route) decisions (own_at old t).decisions (own_at new t).decisions decision (are.of_decisions t route there) (takes.own t there same)
      | inr other ↦ more_on_one (AgreesWithDecision t route) decisions (own_at old t).decisions (own_at new t).decisions decision (are.of_decisions t route there) (takes.others t other) (other_decision t route decision other)
    ]

pub next_fixing : (fixings : List Fixing) (decisions : List Decision) (i : ℕ) (d fixing : Fixing) (old new : List Own) → i < length fixings → fixing ≡ get_or fixings i d → AreByTrain (take i fixings) decisions old → TakesFixing fixing old new
    → AreByTrain (take (i + 1) fixings) decisions new
next_fixing fixings decisions i d fixing old new lt is are takes =
    rw (take_more fixings i d lt) (fixing_taken (take i fixings) decisions (get_or fixings i d) old new are (subst (λ (f : Fixing). TakesFixing f old new) is takes))

pub next_decision : (fixings : List Fixing) (decisions : List Decision) (i : ℕ) (d decision : Decision) (old new : List Own) → i < length decisions → decision ≡ get_or decisions i d → AreByTrain fixings (take i decisions) old → TakesDecision decision old new
    → AreByTrain fixings (take (i + 1) decisions) new
next_decision fixings decisions i d decision old new lt is are takes =
    rw (take_more decisions i d lt) (decision_taken fixings (take i decisions) (get_or decisions i d) old new are (subst (λ (e : Decision). TakesDecision e old new) is takes))

-- with one train more, of which nothing is said
pub own_none_more : (owns new : List Own) (own : Own) → AreByTrain [] [] owns → own.fixings ≡ [] → own.decisions ≡ [] → new ≡ owns ++ own ∷ [] → AreByTrain [] [] new
own_none_more owns new own are no_fixings no_decisions new_is = record {
  of_fixings = λ t route lt. (λ all. by_place t (λ o. All (AgreesWithFixing t route) o.fixings) (λ before. (are.of_fixings t route before).0 all) (subst (All (AgreesWithFixing t route)) (sym no_fixings) all) lt, λ all. All-nil (AgreesWithFixing t route));
  of_decisions = λ t route lt. (λ all. by_place t (λ o. All (AgreesWithDecision t route) o.decisions) (λ before. (are.of_decisions t route before).0 all) (subst (All (AgreesWithDecision t route)) (sym no_decisions) all) lt, λ all. All-nil (AgreesWithDecision t route));
}
  where
    by_place : (t : ℕ) (P : Own → Type 0) → (t < length owns → P (own_at owns t)) → P own → t < length new → P (own_at new t)
    by_place t P earlier last lt = subst (λ (l : List Own). P (own_at l t)) (sym new_is) (elim (cases_lt t (length owns)) [
      | inl before ↦ subst P (sym (get_or_append_left owns (own ∷ []) _ t before)) (earlier before)
      | inr late ↦
          let long : length new ≡ length owns + 1 = ap length new_is ∙ length-append owns (own ∷ []) in
          let same : t ≡ length owns = omega (arith, late, lt, long) in
          let back : t - length owns ≡ 0 = omega (arith, same) in
          let read : own_at (owns ++ own ∷ []) t ≡ own = get_or-append_right owns (own ∷ []) (length owns) t _ refl late ∙ ap (λ (k : ℕ). own_at (own ∷ []) k) back in
          subst P (sym read) last
    ])

-- ---- routes by what is the train's own

module _ (problem : Problem) (fixings own_fixings : List Fixing) (decisions own_decisions : List Decision) (t : ℕ)
    (same_fixings : (route : List ℕ) → All (AgreesWithFixing t route) fixings ↔ All (AgreesWithFixing t route) own_fixings)
    (same_decisions : (route : List ℕ) → All (AgreesWithDecision t route) decisions ↔ All (AgreesWithDecision t route) own_decisions) where
  abbrev all : Node
  all = node_at problem fixings decisions

  abbrev own : Node
  own = node_at problem own_fixings own_decisions

  to_all : (route : List ℕ) → IsAllowed own t route → IsAllowed all t route
  to_all route allowed = record {
    is_route = allowed.is_route;
    fixings_agree = (same_fixings route).1 allowed.fixings_agree;
    decisions_agree = (same_decisions route).1 allowed.decisions_agree;
  }

  to_own : (route : List ℕ) → IsAllowed all t route → IsAllowed own t route
  to_own route allowed = record {
    is_route = allowed.is_route;
    fixings_agree = (same_fixings route).0 allowed.fixings_agree;
    decisions_agree = (same_decisions route).0 allowed.decisions_agree;
  }

  route_to_all : HasRoute own t → HasRoute all t
  route_to_all has = (has.0, to_all has.0 has.1)

  route_to_own : HasRoute all t → HasRoute own t
  route_to_own has = (has.0, to_own has.0 has.1)

  forced_to_all : (o : ℕ) → IsForced own (op_of_train t o) → IsForced all (op_of_train t o)
  forced_to_all o forced = record { train = forced.train; allowed = route_to_all forced.allowed; each_has = λ route allowed. forced.each_has route (to_own route allowed) }

  forced_to_own : (o : ℕ) → IsForced all (op_of_train t o) → IsForced own (op_of_train t o)
  forced_to_own o forced = record { train = forced.train; allowed = route_to_own forced.allowed; each_has = λ route allowed. forced.each_has route (to_all route allowed) }

  goes_to_all : (o s : ℕ) → GoesTo own (op_of_train t o) (op_of_train t s) → GoesTo all (op_of_train t o) (op_of_train t s)
  goes_to_all o s goes = (goes.0, λ route allowed. goes.1 route (to_own route allowed))

  goes_to_own : (o s : ℕ) → GoesTo all (op_of_train t o) (op_of_train t s) → GoesTo own (op_of_train t o) (op_of_train t s)
  goes_to_own o s goes = (goes.0, λ route allowed. goes.1 route (to_all route allowed))

  arc_to_all : (a b n : ℕ) → IsTrainArc own (op_of_train t a) (op_of_train t b) n → IsTrainArc all (op_of_train t a) (op_of_train t b) n
  arc_to_all a b n arc = record { same_train = arc.same_train; reached = (arc.reached.0, to_all arc.reached.0 arc.reached.1, arc.reached.2); least = λ route total allowed passes. arc.least route total (to_own route allowed) passes }

  arc_to_own : (a b n : ℕ) → IsTrainArc all (op_of_train t a) (op_of_train t b) n → IsTrainArc own (op_of_train t a) (op_of_train t b) n
  arc_to_own a b n arc = record { same_train = arc.same_train; reached = (arc.reached.0, to_own arc.reached.0 arc.reached.1, arc.reached.2); least = λ route total allowed passes. arc.least route total (to_all route allowed) passes }

  mark_to_all : (o : ℕ) (found : Option Mark) → MatchOption found (IsForced own (op_of_train t o) → ⊥) (IsMarkOf own t o) → MatchOption found (IsForced all (op_of_train t o) → ⊥) (IsMarkOf all t o)
  mark_to_all o None none = λ forced. none (forced_to_own o forced)
  mark_to_all o (Some mark) is = record {
    forced = forced_to_all o is.forced;
    next = λ s. (λ at. goes_to_all o s ((is.next s).0 at), λ goes. (is.next s).1 (goes_to_own o s goes));
  }

  pub own_routes : (routes : Routes) → AreRoutesOf own t routes → AreRoutesOf all t routes
  own_routes routes says = record {
    left = (λ left. route_to_all (says.left.0 left), λ has. says.left.1 (route_to_own has));
    sums = λ o. (
      λ some. let on = (says.sums o).0 some in (on.0, to_all on.0 on.1, on.2),
      λ on. (says.sums o).1 (on.0, to_own on.0 on.1, on.2),
    );
    marks = λ o. mark_to_all o (mark_at routes.marks.items o) (says.marks o);
    ordered = λ a b from to one other.
        let both = says.ordered a b from to one other in
        record { arc = λ lt. arc_to_all a b _ (both.arc lt); none = λ le sum arc. both.none le sum (arc_to_own a b sum arc) };
    begins = λ route allowed. says.begins route (to_own route allowed);
    ends = says.ends;
    short = says.short;
    allowed = λ left. let rows = says.allowed left in record { laid = rows.laid; walk = λ route allowed. rows.walk route (to_own route allowed); route = λ route walk. to_all route (rows.route route walk) };
    is_order = says.is_order;
  }
