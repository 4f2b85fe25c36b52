-- What a decision about the routes of a train makes of what is kept.
use Rattle.std.proofs.Common.{◌≡◌, ◌∙◌, ℕ, ◌<◌, ◌≤◌, zero, suc, List, [], ◌∷◌, ◌++◌, length, get_or, set, Some, Bool, false, refl, sym, ap, subst, inl, inr, arith}
use Rattle.std.specs.Prelude.{nat_eq, slice_get, All, IsTrue, ◌↔◌}
use Rattle.std.proofs.lemmas.Bool.{cases_Bool, eqb-true, eqb-false, false≢true}
use Rattle.std.proofs.lemmas.Option.{none-some, same_Some, slice_get_within}
use Rattle.std.proofs.lemmas.List.{append-nil, length-set, get_or-set_same, get_or-set_other, get_or_default}
use Rattle.std.proofs.lemmas.List.Elements.{All-nil, All-push, All-pop, All-weaker, Contains-append_left, Contains-push_cases}
use Rattle.disp_model.specs.declared.train.Op.{Op}
use Rattle.disp_model.specs.declared.fixing.Fixing.{Fixing}
use Rattle.disp_model.specs.declared.decision.Decision.{Decision}
use Rattle.disp_model.specs.declared.decision.Decision.TheVariants.{First}
use Rattle.disp_model.specs.declared.problem.Problem.{Problem}
use Rattle.disp_model.specs.Node.{Node, node_at, with_decision}
use Rattle.disp_laws.proofs.RouteSearch.{Decided, has_route_or_not}
use Rattle.route_sets.specs.declared.routes.Routes.{Routes}
use Rattle.route_sets.specs.Sets.{AreRoutesOf}
use Rattle.disp_model.specs.Routes.{AgreesWithFixing, AgreesWithDecision, HasRoute}
use Rattle.incremental_paths.specs.declared.arc.Arc.{Arc}
use Rattle.timed_paths.specs.Timed.{Timed}
use Rattle.event_arcs.specs.declared.owns.Own.{Own}
use Rattle.event_arcs.specs.declared.placed.Placed.{Placed}
use Rattle.disp_laws.proofs.LeavesStay.{HaveRoutes}
use Rattle.event_arcs.specs.Listed.{IsArcOf, AreArcsOf}
use Rattle.event_arcs.proofs.Cycling.{same_cycles}
use Rattle.event_arcs.specs.Owned.{train_of_decision, own_at, AreByTrain}
use Rattle.event_arcs.specs.Placed.{IsPlaced, ArePlaced, IsFirstWithout}
use Rattle.event_arcs.proofs.Offsets.{placed_at, routes_by_own, all_have_routes}
use Rattle.event_graph.specs.declared.orders.Pair.{Pair}
use Rattle.event_graph.specs.declared.changes.Change.TheVariants.{Nothing, Train}
use Rattle.event_graph.specs.Pairs.{Ordered, IsDecidedAt}
use Rattle.event_graph.specs.States.{AreOrdersOf, GraphState, IsStateAt, AddsTrain, without_last_of}
use Rattle.train_orders.proofs.Places.{set_at, set_elsewhere}
use Rattle.event_graph.specs.Joined.{MayJoin}
use Rattle.event_graph.specs.Kept.{MayDecide, MayAddTrain, Decides}
use Rattle.event_graph.specs.declared.parts.Parts.{Parts}
use Rattle.event_graph.proofs.Narrowing.{IsApart, route_after, forced_before, goes_before}
use Rattle.event_arcs.proofs.Owning.{other_decision}
use Rattle.event_graph.proofs.Deciding.{placed_after, HasAdded}
use Rattle.event_graph.proofs.Extending.{with_train}

pub train_joins : (node : Node) (d : Decision) (ops : List Op) (each : List Placed) (orders : Ordered) (paths : Timed) (before : Placed) (t : ℕ) (arcs : List Arc) → MayAddTrain node d ops each orders paths before t → AddsTrain node d t paths.arcs arcs
    → MayJoin (with_decision node d) ops paths arcs
train_joins node d ops each orders paths before t arcs may adds = record {
  ops_are = may.ops_are;
  lowers_are = record { long = may.lowers_are.long; at = may.lowers_are.at };
  edition = may.edition;
  arcs_are = with_train node d t paths.arcs arcs (all_have_routes (with_decision node d) each may.placed) may.arcs_are adds;
}

-- ---- the train's own decisions

pub own_after : (fixings : List Fixing) (decisions : List Decision) (d : Decision) (t : ℕ) (owns : List Own) (own more : Own) → AreByTrain fixings decisions owns → train_of_decision d ≡ Some t → t < length owns → own ≡ get_or owns t own
    → more ≡ record { fixings = own.fixings; decisions = own.decisions ++ d ∷ [] } → AreByTrain fixings (decisions ++ d ∷ []) (set owns t more)
own_after fixings decisions d t owns own more are about there at is = record {
  of_fixings = λ u route lt. subst (λ (l : List Fixing). All (AgreesWithFixing u route) fixings ↔ All (AgreesWithFixing u route) l) (sym (same_fixings u)) (are.of_fixings u route (within lt));
  of_decisions = λ u route lt. elim (cases_Bool (nat_eq u t)) [
    | inl e ↦ mine u route (eqb-true u t e)
    | inr e ↦ others u route (within lt) (λ same. eqb-false u t e same)
  ];
}
  where
    none : Own
    none = record { fixings = []; decisions = [] }

    within : {u : ℕ} → u < length (set owns t more) → u < length owns
    within {u} lt = omega (arith, lt, length-set owns t more)

    was : own_at owns t ≡ own
    was = get_or_default owns t none own there ∙ sym at

    now : own_at (set owns t more) t ≡ more
    now = get_or-set_same owns t more none there

    same_fixings : (u : ℕ) → (own_at (set owns t more) u).fixings ≡ (own_at owns u).fixings
    same_fixings u = elim (cases_Bool (nat_eq u t)) [
      | inl e ↦
          let same : u ≡ t = eqb-true u t e in
          subst (λ (v : ℕ). (own_at (set owns t more) v).fixings ≡ (own_at owns v).fixings) (sym same)
          (ap (λ (o : Own). o.fixings) now ∙ ap (λ (o : Own). o.fixings) is ∙ ap (λ (o : Own). o.fixings) (sym was))
      | inr e ↦ ap (λ (o : Own). o.fixings) (get_or-set_other owns t u more none (λ same. eqb-false u t e same))
    ]

    mine : (u : ℕ) (route : List ℕ) → u ≡ t → All (AgreesWithDecision u route) (decisions ++ d ∷ []) ↔ All (AgreesWithDecision u route) (own_at (set owns t more) u).decisions
    mine u route same = subst (λ (v : ℕ). All (AgreesWithDecision v route) (decisions ++ d ∷ []) ↔ All (AgreesWithDecision v route) (own_at (set owns t more) v).decisions) (sym same)
        (subst (λ (l : List Decision). All (AgreesWithDecision t route) (decisions ++ d ∷ []) ↔ All (AgreesWithDecision t route) l) (sym list) (to, from))
      where
        old : List Decision
        old = (own_at owns t).decisions

        list : (own_at (set owns t more) t).decisions ≡ old ++ d ∷ []
        list = ap (λ (o : Own). o.decisions) now ∙ ap (λ (o : Own). o.decisions) is ∙ ap (λ (o : Own). o.decisions ++ d ∷ []) (sym was)

        to : All (AgreesWithDecision t route) (decisions ++ d ∷ []) → All (AgreesWithDecision t route) (old ++ d ∷ [])
        to all =
            let both = All-pop (AgreesWithDecision t route) (decisions ++ d ∷ []) decisions (Some d) refl all in
            All-push (AgreesWithDecision t route) old d ((are.of_decisions t route there).0 both.0) both.1

        from : All (AgreesWithDecision t route) (old ++ d ∷ []) → All (AgreesWithDecision t route) (decisions ++ d ∷ [])
        from all =
            let both = All-pop (AgreesWithDecision t route) (old ++ d ∷ []) old (Some d) refl all in
            All-push (AgreesWithDecision t route) decisions d ((are.of_decisions t route there).1 both.0) both.1

    others : (u : ℕ) (route : List ℕ) → u < length owns → (u ≡ t → ⊥) → All (AgreesWithDecision u route) (decisions ++ d ∷ []) ↔ All (AgreesWithDecision u route) (own_at (set owns t more) u).decisions
    others u route lt other =
        subst (λ (o : Own). All (AgreesWithDecision u route) (decisions ++ d ∷ []) ↔ All (AgreesWithDecision u route) o.decisions) (sym (get_or-set_other owns t u more none other)) (
          λ all. (are.of_decisions u route lt).0 (All-pop (AgreesWithDecision u route) (decisions ++ d ∷ []) decisions (Some d) refl all).0,
          λ own. All-push (AgreesWithDecision u route) decisions d ((are.of_decisions u route lt).1 own) (other_decision u route d (λ about_u. other (same_Some u t (sym about_u ∙ about)))),
        )

-- ---- its routes, and those of the others

pub apart_of : (d : Decision) (t u : ℕ) → train_of_decision d ≡ Some t → (u ≡ t → ⊥) → IsApart d u
apart_of d t u about other own = other (same_Some u t (sym own ∙ about))

pub train_placed : (node : Node) (d : Decision) (t : ℕ) (each : List Placed) (placed : Placed) → train_of_decision d ≡ Some t → t < length each → ArePlaced node each → IsPlaced (with_decision node d) t placed → ArePlaced (with_decision node d) (set each t placed)
train_placed node d t each placed about there are is = record {
  long = length-set each t placed ∙ are.long;
  there = are.there;
  at = λ u other here. elim (cases_Bool (nat_eq u t)) [
    | inl e ↦
        let same : u ≡ t = eqb-true u t e in
        let found : placed ≡ other = same_Some placed other (sym (set_at each t placed there) ∙ subst (λ (v : ℕ). slice_get (set each t placed) v ≡ Some other) same here) in
        subst (λ (v : ℕ). IsPlaced (with_decision node d) v other) (sym same) (subst (IsPlaced (with_decision node d) t) found is)
    | inr e ↦
        let not_t : u ≡ t → ⊥ = λ same. eqb-false u t e same in
        placed_after node d u other (apart_of d t u about not_t) (are.at u other (sym (set_elsewhere each t u placed not_t) ∙ here))
  ];
}

pub first_without : (node : Node) (d : Decision) (t : ℕ) (each : List Placed) → train_of_decision d ≡ Some t → t < length node.problem.trains → ArePlaced node each → (HasRoute (with_decision node d) t → ⊥) → IsFirstWithout (with_decision node d) t
first_without node d t each about there are none = record {
  there = there;
  none = none;
  before = λ u lt. route_after node d u (apart_of d t u about (λ same. omega (arith, lt, same))) (all_have_routes node each are u (omega (arith, lt, there)));
}

-- ---- what was set is put back

pub put_back : {X : Type 0} → (xs : List X) (t : ℕ) (new old : X) → old ≡ get_or xs t old → set (set xs t new) t old ≡ xs
put_back [] t new old is = refl
put_back (x ∷ xs) zero new old is = ap (λ (y : _). y ∷ xs) is
put_back (x ∷ xs) (suc t) new old is = ap (λ (l : _). x ∷ l) (put_back xs t new old is)

-- ---- what is kept then

pub orders_stay : (node : Node) (d : Decision) (t : ℕ) (pairs : List Pair) → train_of_decision d ≡ Some t → AreOrdersOf node pairs → AreOrdersOf (with_decision node d) pairs
orders_stay node d t pairs about are = record {
  decided = All-weaker (IsDecidedAt node) (IsDecidedAt (with_decision node d)) (λ pair there. Contains-append_left node.decisions (d ∷ []) (First pair.first pair.second) there) pairs are.decided;
  listed = λ a b there one other. elim (Contains-push_cases node.decisions d (First a b) there) [
    | inl early ↦ are.listed a b early one other
    | inr is ↦ absurd (none-some t (subst (λ (e : Decision). train_of_decision e ≡ Some t) is about))
  ];
}

pub train_decides : (node : Node) (d : Decision) (t : ℕ) (owns : List Own) (each : List Placed) (pairs : List Pair) (arcs : List Arc) (own more : Own) (before placed : Placed) (new_arcs : List Arc) (count : ℕ)
    → IsStateAt node (record { owns = owns; each = each; pairs = pairs; arcs = arcs }) → train_of_decision d ≡ Some t → t < length node.problem.trains → AreByTrain node.fixings (with_decision node d).decisions (set owns t more) → ArePlaced (with_decision node d) (set each t placed)
    → own ≡ get_or owns t own → before ≡ get_or each t before → HasAdded (with_decision node d) arcs new_arcs count
    → Decides (with_decision node d) (Train t own before count) (record { owns = owns; each = each; pairs = pairs; arcs = arcs }) (record { owns = set owns t more; each = set each t placed; pairs = pairs; arcs = new_arcs })
train_decides node d t owns each pairs arcs own more before placed new_arcs count state about there own_is placed_is was stood (are, none, within, back) = record {
  at = record { owns_long = length-set owns t more ∙ state.owns_long; own = own_is; placed = placed_is; orders = orders_stay node d t pairs about state.orders; arcs = are; no_cycle = none };
  may = (omega (arith, there, length-set owns t more, state.owns_long), omega (arith, there, length-set each t placed, state.placed.long), within);
  back = ap (λ (os : List Own). record { owns = os; each = set (set each t placed) t before; pairs = pairs; arcs = without_last_of count new_arcs }) (put_back owns t more own was)
      ∙ ap (λ (ps : List Placed). record { owns = owns; each = ps; pairs = pairs; arcs = without_last_of count new_arcs }) (put_back each t placed before stood)
      ∙ ap (λ (l : List Arc). record { owns = owns; each = each; pairs = pairs; arcs = l }) back;
}

-- ---- the train's routes

pub routes_now : (problem : Problem) (fixings : List Fixing) (decisions : List Decision) (d : Decision) (t : ℕ) (owns : List Own) (own more : Own) (own_fixings : List Fixing) (own_decisions : List Decision) (routes : Routes)
    → AreByTrain fixings decisions owns → train_of_decision d ≡ Some t → t < length owns → own ≡ get_or owns t own → more ≡ record { fixings = own.fixings; decisions = own.decisions ++ d ∷ [] } → own_fixings ≡ more.fixings → own_decisions ≡ more.decisions
    → AreRoutesOf (node_at problem own_fixings own_decisions) t routes → AreRoutesOf (node_at problem fixings (decisions ++ d ∷ [])) t routes
routes_now problem fixings decisions d t owns own more own_fixings own_decisions routes are about there at is fixings_is decisions_is says =
    routes_by_own problem fixings own_fixings (decisions ++ d ∷ []) own_decisions (set owns t more) t more routes (own_after fixings decisions d t owns own more are about there at is) (omega (arith, there, length-set owns t more))
    (sym (get_or-set_same owns t more more there)) fixings_is decisions_is says

pub placed_now : (node : Node) (d : Decision) (t : ℕ) (each : List Placed) (before placed : Placed) (none : Bool) → t < length node.problem.trains → ArePlaced node each → before ≡ get_or each t before → placed.first ≡ before.first
    → AreRoutesOf (with_decision node d) t placed.routes → (IsTrue none ↔ (HasRoute (with_decision node d) t → ⊥)) → none ≡ false → IsPlaced (with_decision node d) t placed
placed_now node d t each before placed none there are at first routes says some = record {
  first_is = first ∙ (placed_at node each t before are (omega (arith, there, are.long)) at).first_is;
  are_routes = routes;
  has_route = by (has_route_or_not (with_decision node d) t there);
}
  where
    by : Decided (HasRoute (with_decision node d) t) → HasRoute (with_decision node d) t
    by (inl has) = has
    by (inr none_has) = absurd (false≢true (sym some ∙ says.1 none_has))

-- ---- what is read twice

pub read_as : {X : Type 0} → (xs : List X) (t : ℕ) (x y : X) → x ≡ y → y ≡ get_or xs t y → x ≡ get_or xs t x
read_as xs t x y same is = subst (λ (z : _). z ≡ get_or xs t z) (sym same) is

pub read_same : {X : Type 0} → (xs : List X) (t : ℕ) (x y : X) → t < length xs → x ≡ get_or xs t x → y ≡ get_or xs t y → x ≡ y
read_same xs t x y there one other = one ∙ get_or_default xs t x y there ∙ sym other

pub may_train : (node : Node) (d : Decision) (ops : List Op) (parts : Parts) (t : ℕ) (before placed : Placed) (each : List Placed) → MayDecide node ops parts → train_of_decision d ≡ Some t → t < length node.problem.trains → before ≡ get_or parts.each.items t before
    → IsPlaced (with_decision node d) t placed → each ≡ set parts.each.items t placed → MayAddTrain node d ops each parts.orders parts.paths before t
may_train node d ops parts t before placed each may about there at is now = record {
  about = about;
  there = there;
  ops_are = may.ops_are;
  lowers_are = may.lowers_are;
  edition = may.edition;
  placed = subst (ArePlaced (with_decision node d)) (sym now) (train_placed node d t parts.each.items placed about within may.state.placed is);
  was = placed_at node parts.each.items t before may.state.placed within at;
  orders_are = may.state.orders;
  size = may.size;
  arcs_are = may.state.arcs;
}
  where
    within : t < length parts.each.items
    within = omega (arith, there, may.state.placed.long)

pub both_back : (owns : List Own) (each : List Placed) (pairs : List Pair) (arcs now : List Arc) (t : ℕ) (before placed : Placed) → before ≡ get_or each t before → now ≡ arcs
    → ◌≡◌ {A = GraphState} (record { owns = owns; each = set (set each t placed) t before; pairs = pairs; arcs = now }) (record { owns = owns; each = each; pairs = pairs; arcs = arcs })
both_back owns each pairs arcs now t before placed stood same =
    ap (λ (ps : List Placed). record { owns = owns; each = ps; pairs = pairs; arcs = now }) (put_back each t placed before stood) ∙ ap (λ (l : List Arc). record { owns = owns; each = each; pairs = pairs; arcs = l }) same

-- ---- a decision about a train that is not there

pub elsewhere_decides : (node : Node) (d : Decision) (t : ℕ) (state : GraphState) → IsStateAt node state → train_of_decision d ≡ Some t → length node.problem.trains ≤ t → Decides (with_decision node d) Nothing state state
elsewhere_decides node d t state is about past = record {
  at = record {
    owns_long = is.owns_long;
    own = record {
      of_fixings = is.own.of_fixings;
      of_decisions = λ u route lt. (
        λ all. (is.own.of_decisions u route lt).0 (All-pop (AgreesWithDecision u route) (node.decisions ++ d ∷ []) node.decisions (Some d) refl all).0,
        λ own. All-push (AgreesWithDecision u route) node.decisions d ((is.own.of_decisions u route lt).1 own) (other_decision u route d (apart u (omega (arith, lt, is.owns_long)))),
      );
    };
    placed = record { long = is.placed.long; there = is.placed.there; at = λ u placed here. placed_after node d u placed (apart u (omega (arith, slice_get_within state.each u placed here, is.placed.long))) (is.placed.at u placed here) };
    orders = orders_stay node d t state.pairs about is.orders;
    arcs = arcs;
    no_cycle = λ has. is.no_cycle ((same_cycles node state.arcs is.arcs).0 ((same_cycles next state.arcs arcs).1 has));
  };
  may = tt;
  back = refl;
}
  where
    next : Node
    next = with_decision node d

    apart : (u : ℕ) → u < length node.problem.trains → IsApart d u
    apart u lt = apart_of d t u about (λ same. omega (arith, lt, same, past))

    have : HaveRoutes next
    have u there = route_after node d u (apart u there) (all_have_routes node state.each is.placed u there)

    adds : AddsTrain node d t state.arcs []
    adds = record {
      about = about;
      sound = All-nil (IsArcOf next);
      chained = λ u v sum own from to arc. absurd (omega (arith, from.train, own, past));
      ordered = λ a b decided one other conflicts. inl (forced_before node d a (apart a.train one.train) one, forced_before node d b (apart b.train other.train) other, λ n goes. goes_before node d a n (apart a.train one.train) goes);
    }

    arcs : AreArcsOf next state.arcs
    arcs = subst (AreArcsOf next) (append-nil state.arcs) (with_train node d t state.arcs [] have is.arcs adds)
