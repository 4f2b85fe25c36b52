-- With an accepted fixing added a leaf that holds still holds, and an accepted tree is still accepted.
use Rattle.std.proofs.Common.{◌≡◌, ℕ, zero, suc, ◌+◌, ◌<◌, ◌≤◌, List, [], ◌∷◌, ◌++◌, length, map, Bool, true, false, cond, refl, sym, ap, subst, ◌∙◌, arith, inl, inr}
use Rattle.std.specs.Prelude.{nat_eq, max, ◌⊎◌}
use Rattle.std.proofs.lemmas.Bool.{cases_lt}
use Rattle.std.proofs.lemmas.List.{map-append}
use Rattle.disp_model.specs.declared.train.Op.{Op}
use Rattle.disp_model.specs.declared.fixing.Fixing.{Fixing}
use Rattle.disp_model.specs.declared.decision.Decision.{Decision}
use Rattle.disp_model.specs.declared.tree.ComponentWalk.{ComponentWalk}
use Rattle.disp_model.specs.declared.tree.TrainWalks.{TrainWalks}
use Rattle.disp_model.specs.declared.tree.Leaf.{Leaf as TreeLeaf}
use Rattle.disp_model.specs.declared.tree.Leaf.TheVariants.{NoRoute, Cycle, Late, Costs, Shares}
use Rattle.disp_model.specs.declared.tree.TreeNode.{TreeNode}
use Rattle.disp_model.specs.declared.tree.TreeNode.TheVariants.{Branch, Leaf}
use Rattle.disp_model.specs.declared.tree.Verdict.{Verdict}
use Rattle.disp_model.specs.declared.tree.Verdict.TheVariants.{Optimal, Infeasible}
use Rattle.disp_model.specs.declared.problem.Problem.{Problem}
use Rattle.disp_model.specs.Cost.{cost_at}
use Rattle.disp_model.specs.Node.{Node, root_of, with_decision, with_fixings}
use Rattle.disp_model.specs.Routes.{HasRoute, HasNoRoute}
use Rattle.disp_model.specs.Arcs.{IsArc, IsLongestArc}
use Rattle.disp_model.specs.Walks.{lower_of, WalksOn, IsWalk, ClosesTo, IsCycle}
use Rattle.disp_model.specs.Shares.{Arrival, AreWalksOn, greatest_to, shown_base, ShowsShare, SharesCost}
use Rattle.disp_model.specs.Trees.{IsLateWalk, WalkCosts, WalksCost, ReachVerdict, ShareVerdict, Shows, LeafHolds, children_of, Fills, Accepts}
use Rattle.disp_laws.proofs.Costs.{costs_grow}
use Rattle.disp_laws.proofs.Shares.{train_there, share_exists, share_grows}
use Rattle.disp_laws.proofs.Tightened.{Tightens, routes_before, still_forced, still_none, release_arc_stays}
use Rattle.disp_laws.proofs.RouteSearch.{Decided, has_route_or_not}
use Rattle.disp_laws.proofs.LeastSums.{train_arc_stays}
use Rattle.disp_laws.proofs.LongestArcs.{longest_arc}

-- each train has an allowed route
abbrev pub HaveRoutes : Node → Type 0
HaveRoutes node = (t : ℕ) → t < length node.problem.trains → HasRoute node t

pub none_or_all : (P : ℕ → Type 0) (n : ℕ) → ((t : ℕ) → t < n → Decided (P t)) → ((t : ℕ) × (t < n) × (P t → ⊥)) ⊎ ((t : ℕ) → t < n → P t)
none_or_all P zero each = inr (λ t lt. absurd (omega arith))
none_or_all P (suc n) each = elim (each n (omega arith)) [
  | inr not ↦ inl (n, omega arith, not)
  | inl here ↦ elim (none_or_all P n (λ t lt. each t (omega arith))) [
    | inl found ↦ inl (found.0, omega (arith, found.1), found.2)
    | inr all ↦ inr (λ t lt. last_or_before P n here all t lt)
  ]
]
  where
    last_or_before : (P : ℕ → Type 0) (n : ℕ) → P n → ((t : ℕ) → t < n → P t) → (t : ℕ) → t < suc n → P t
    last_or_before P n here all t lt = elim (cases_lt t n) [ inl before ↦ all t before | inr le ↦ subst P (let same : n ≡ t = omega (arith, le, lt) in same) here ]

pub routes_or_none : (node : Node) → HasNoRoute node ⊎ HaveRoutes node
routes_or_none node = none_or_all (HasRoute node) (length node.problem.trains) (λ t there. has_route_or_not node t there)

-- ---- arcs

-- where the trains still have routes an arc stays, and is no shorter
pub arc_stays : (node : Node) (more : List Fixing) (u v : Op) (before : ℕ) → IsArc node u v before → HasRoute (with_fixings node more) u.train → HasRoute (with_fixings node more) v.train
    → (behind : ℕ) × IsArc (with_fixings node more) u v behind × (before ≤ behind)
arc_stays node more u v before arc one other =
    let from = still_forced node more u arc.from_forced one in
    let to = still_forced node more v arc.to_forced other in
    elim arc.kind [
      | inl train ↦ let new = train_arc_stays node more u v before train from to in (new.0, record { from_forced = from; to_forced = to; kind = inl new.1 }, new.2)
      | inr rest ↦ elim rest [
        | inl order ↦ (before, record { from_forced = from; to_forced = to; kind = inr (inl order) }, omega arith)
        | inr release ↦ (before, record { from_forced = from; to_forced = to; kind = inr (inr (release_arc_stays node more u v before release one)) }, omega arith)
      ]
    ]

longest_stays : (node : Node) (more : List Fixing) (u v : Op) (before : ℕ) → HaveRoutes (with_fixings node more) → IsLongestArc node u v before
    → (behind : ℕ) × IsLongestArc (with_fixings node more) u v behind × (before ≤ behind)
longest_stays node more u v before all arc =
    let new = arc_stays node more u v before arc.there (all u.train arc.there.from_forced.train) (all v.train arc.there.to_forced.train) in
    let longest = longest_arc (with_fixings node more) u v new.0 new.1 in
    (longest.0, longest.1, omega (arith, new.2, longest.1.longest new.0 new.1))

-- ---- cycles

closes_stays : (node : Node) (more : List Fixing) → HaveRoutes (with_fixings node more) → (first u : Op) (rest : List Op) → ClosesTo node first u rest → ClosesTo (with_fixings node more) first u rest
closes_stays node more all first u [] arc =
    let new = arc_stays node more u first arc.0 arc.1 (all u.train arc.1.from_forced.train) (all first.train arc.1.to_forced.train) in (new.0, new.1)
closes_stays node more all first u (v ∷ rest) closes =
    let arc = closes.0 in
    let new = arc_stays node more u v arc.0 arc.1 (all u.train arc.1.from_forced.train) (all v.train arc.1.to_forced.train) in
    ((new.0, new.1), closes_stays node more all first v rest closes.1)

cycle_stays : (node : Node) (more : List Fixing) (nodes : List Op) → HaveRoutes (with_fixings node more) → IsCycle node nodes → IsCycle (with_fixings node more) nodes
cycle_stays node more [] all cycle = cycle
cycle_stays node more (u ∷ []) all cycle = cycle
cycle_stays node more (u ∷ v ∷ rest) all cycle = closes_stays node more all u u (v ∷ rest) cycle

-- ---- walks

walks_on_stays : (node : Node) (more : List Fixing) → HaveRoutes (with_fixings node more)
    → (u : Op) (rest : List Op) (walked total later : ℕ) → WalksOn node u walked rest total → walked ≤ later → (new : ℕ) × WalksOn (with_fixings node more) u later rest new × (total ≤ new)
walks_on_stays node more all u [] walked total later walk le = (later, refl, omega (arith, walk, le))
walks_on_stays node more all u (v ∷ rest) walked total later walk le =
    let arc = longest_stays node more u v walk.0 all walk.1 in
    let on = walks_on_stays node more all v rest (walked + walk.0) total (later + arc.0) walk.2 (omega (arith, le, arc.2)) in
    (on.0, (arc.0, arc.1, on.1), on.2)

walk_stays : (node : Node) (more : List Fixing) (walk : List Op) (total : ℕ) → Tightens node.problem node.fixings more → HaveRoutes (with_fixings node more)
    → IsWalk node walk total → (new : ℕ) × IsWalk (with_fixings node more) walk new × (total ≤ new)
walk_stays node more [] total tightens all walk = absurd walk
walk_stays node more (u ∷ rest) total tightens all walk =
    let forced = still_forced node more u walk.0 (all u.train walk.0.train) in
    let on = walks_on_stays node more all u rest (lower_of node.problem node.fixings u) total (lower_of node.problem (node.fixings ++ more) u) walk.1 (tightens.lowers u) in
    (on.0, (forced, on.1), on.2)

late_stays : (node : Node) (more : List Fixing) (walk : List Op) → Tightens node.problem node.fixings more → HaveRoutes (with_fixings node more)
    → IsLateWalk node walk → IsLateWalk (with_fixings node more) walk
late_stays node more walk tightens all late =
    let new = walk_stays node more walk late.total tightens all late.is_walk in
    let upper = tightens.uppers late.end late.upper late.upper_is in
    record { end = late.end; ends = late.ends; total = new.0; is_walk = new.1; upper = upper.0; upper_is = upper.1; late = omega (arith, late.late, new.2, upper.2) }

walks_cost_stay : (node : Node) (more : List Fixing) → Tightens node.problem node.fixings more → HaveRoutes (with_fixings node more)
    → (walks : List ComponentWalk) (sum : ℕ) → WalksCost node walks sum → (new : ℕ) × WalksCost (with_fixings node more) walks new × (sum ≤ new)
walks_cost_stay node more tightens all [] sum adds = (0, refl, omega (arith, adds))
walks_cost_stay node more tightens all (w ∷ walks) sum adds =
    let old = adds.2 in
    let walk = walk_stays node more w.walk old.total tightens all old.is_walk in
    let cost = cost_at old.component walk.0 in
    let rest = walks_cost_stay node more tightens all walks adds.1 adds.3 in
    let new : WalkCosts (with_fixings node more) w cost =
    record { component = old.component; there = old.there; ends = old.ends; total = walk.0; is_walk = walk.1; cost_is = refl } in
    (cost + rest.0, (cost, rest.0, new, rest.1, refl), omega (arith, adds.4, old.cost_is, costs_grow old.component old.total walk.0 walk.2, rest.2))

-- ---- leaves

reach_stays : (node : Node) (more : List Fixing) (verdict : Verdict) (walks : List ComponentWalk) → Tightens node.problem node.fixings more → HaveRoutes (with_fixings node more)
    → ReachVerdict node verdict walks → ReachVerdict (with_fixings node more) verdict walks
reach_stays node more (Optimal cost) walks tightens all enough =
    let new = walks_cost_stay node more tightens all walks enough.sum enough.sum_is in
    record { distinct = enough.distinct; sum = new.0; sum_is = new.1; enough = omega (arith, enough.enough, new.2) }
reach_stays node more Infeasible walks tightens all enough = enough

-- walks on a train stay, and end no earlier
walks_on_train_stay : (node : Node) (more : List Fixing) → Tightens node.problem node.fixings more → HaveRoutes (with_fixings node more) → (t : ℕ) (walks : List (List Op)) (arrivals : List Arrival) → AreWalksOn node t walks arrivals
    → (new : List Arrival) × AreWalksOn (with_fixings node more) t walks new × ((o : ℕ) → greatest_to o arrivals ≤ greatest_to o new)
walks_on_train_stay node more tightens all t [] [] are = ([], tt, λ o. omega arith)
walks_on_train_stay node more tightens all t [] (a ∷ arrivals) are = absurd are
walks_on_train_stay node more tightens all t (w ∷ walks) [] are = absurd are
walks_on_train_stay node more tightens all t (w ∷ walks) (a ∷ arrivals) are =
    let walk = walk_stays node more w a.total tightens all are.1 in
    let rest = walks_on_train_stay node more tightens all t walks arrivals are.2 in
    let new : Arrival = record { operation = a.operation; total = walk.0 } in
    (new ∷ rest.0, (are.0, walk.1, rest.1), λ o. here o (nat_eq a.operation o) walk.0 rest.0 walk.2 (rest.2 o))
  where
    here : (o : ℕ) (b : Bool) (total : ℕ) (new : List Arrival) → a.total ≤ total → greatest_to o arrivals ≤ greatest_to o new
        → cond b (max a.total (greatest_to o arrivals)) (greatest_to o arrivals) ≤ cond b (max total (greatest_to o new)) (greatest_to o new)
    here o true total new le later = omega (arith, le, later)
    here o false total new le later = later

share_stays : (node : Node) (more : List Fixing) → Tightens node.problem node.fixings more → HaveRoutes (with_fixings node more) → (listed : TrainWalks) (share : ℕ) → ShowsShare node listed share
    → (new : ℕ) × ShowsShare (with_fixings node more) listed new × (share ≤ new)
share_stays node more tightens all listed share shown =
    let t = listed.train in
    let later = with_fixings node more in
    let walks = walks_on_train_stay node more tightens all t listed.walks shown.arrivals shown.walks in
    let there = train_there node t shown.over.there.0 shown.over.there.1 in
    let new = share_exists later t (shown_base later t walks.0) there (all t there) in
    let grows = share_grows node later t (shown_base node t shown.arrivals) (shown_base later t walks.0) share new.0 refl (λ route allowed. routes_before node more t route allowed)
    (λ o. omega (arith, tightens.lowers (record { train = t; op = o }), walks.2 o)) shown.over new.1 in
    (new.0, record { arrivals = walks.0; walks = walks.1; over = new.1 }, grows)

shares_cost_stay : (node : Node) (more : List Fixing) → Tightens node.problem node.fixings more → HaveRoutes (with_fixings node more) → (trains : List TrainWalks) (sum : ℕ) → SharesCost node trains sum
    → (new : ℕ) × SharesCost (with_fixings node more) trains new × (sum ≤ new)
shares_cost_stay node more tightens all [] sum adds = (0, refl, omega (arith, adds))
shares_cost_stay node more tightens all (listed ∷ trains) sum adds =
    let here = share_stays node more tightens all listed adds.0 adds.2 in
    let rest = shares_cost_stay node more tightens all trains adds.1 adds.3 in
    (here.0 + rest.0, (here.0, rest.0, here.1, rest.1, refl), omega (arith, adds.4, here.2, rest.2))

share_verdict_stays : (node : Node) (more : List Fixing) (verdict : Verdict) (walks : List ComponentWalk) (trains : List TrainWalks) → Tightens node.problem node.fixings more → HaveRoutes (with_fixings node more)
    → ShareVerdict node verdict walks trains → ShareVerdict (with_fixings node more) verdict walks trains
share_verdict_stays node more (Optimal cost) walks trains tightens all enough =
    let own = walks_cost_stay node more tightens all walks enough.sum enough.sum_is in
    let shares = shares_cost_stay node more tightens all trains enough.shares enough.shares_is in
    record {
      distinct = enough.distinct;
      distinct_trains = enough.distinct_trains;
      others = enough.others;
      sum = own.0;
      sum_is = own.1;
      shares = shares.0;
      shares_is = shares.1;
      enough = omega (arith, enough.enough, own.2, shares.2);
    }
share_verdict_stays node more Infeasible walks trains tightens all enough = enough

shows_stay : (node : Node) (more : List Fixing) (verdict : Verdict) (leaf : TreeLeaf) → Tightens node.problem node.fixings more → HaveRoutes (with_fixings node more)
    → Shows node verdict leaf → Shows (with_fixings node more) verdict leaf
shows_stay node more verdict NoRoute tightens all shown = shown
shows_stay node more verdict (Cycle nodes) tightens all shown = cycle_stays node more nodes all shown
shows_stay node more verdict (Late walk) tightens all shown = late_stays node more walk tightens all shown
shows_stay node more verdict (Costs walks) tightens all shown = reach_stays node more verdict walks tightens all shown
shows_stay node more verdict (Shares walks trains) tightens all shown = share_verdict_stays node more verdict walks trains tightens all shown

pub leaf_stays : (node : Node) (more : List Fixing) (verdict : Verdict) (leaf : TreeLeaf) → Tightens node.problem node.fixings more
    → LeafHolds node verdict leaf → LeafHolds (with_fixings node more) verdict leaf
leaf_stays node more verdict leaf tightens holds = elim holds [
  | inl none ↦ inl (still_none node more none)
  | inr shown ↦ elim (routes_or_none (with_fixings node more)) [
    | inl none ↦ inl none
    | inr all ↦ inr (shows_stay node more verdict leaf tightens all shown)
  ]
]

-- ---- trees

-- the same places with more fixings
abbrev tightened : List Fixing → List Node → List Node
tightened more places = map (λ node. with_fixings node more) places

children_tightened : (node : Node) (more : List Fixing) (children : List Decision) → map (with_decision (with_fixings node more)) children ≡ tightened more (map (with_decision node) children)
children_tightened node more [] = refl
children_tightened node more (child ∷ children) = ap (λ (l : List Node). with_decision (with_fixings node more) child ∷ l) (children_tightened node more children)

-- the place is of the problem with the fixings
pub record IsOf (of_problem : Problem) (of_fixings : List Fixing) (node : Node) : Type 0 where
  pub problem : node.problem ≡ of_problem
  pub fixings : node.fixings ≡ of_fixings

abbrev AreOf : Problem → List Fixing → List Node → Type 0
AreOf problem fixings [] = Unit {0}
AreOf problem fixings (node ∷ places) = IsOf problem fixings node × AreOf problem fixings places

each_below : (problem : Problem) (fixings : List Fixing) (node : Node) → IsOf problem fixings node → (children : List Decision) (places : List Node) → AreOf problem fixings places
    → AreOf problem fixings (map (with_decision node) children ++ places)
each_below problem fixings node has [] places each = each
each_below problem fixings node has (child ∷ children) places each = (record { problem = has.problem; fixings = has.fixings }, each_below problem fixings node has children places each)

fills_stays : (problem : Problem) (fixings more : List Fixing) (verdict : Verdict) → Tightens problem fixings more
    → (tree : List TreeNode) (places : List Node) → AreOf problem fixings places → Fills verdict places tree → Fills verdict (tightened more places) tree
fills_stays problem fixings more verdict tightens [] [] each fills = fills
fills_stays problem fixings more verdict tightens [] (node ∷ places) each fills = fills
fills_stays problem fixings more verdict tightens (top ∷ tree) [] each fills = fills
fills_stays problem fixings more verdict tightens (Leaf leaf ∷ tree) (node ∷ places) each fills =
    (leaf_stays node more verdict leaf (own each.0) fills.0, fills_stays problem fixings more verdict tightens tree places each.1 fills.1)
  where
    own : IsOf problem fixings node → Tightens node.problem node.fixings more
    own has = subst (λ (p : Problem). Tightens p node.fixings more) (sym has.problem) (subst (λ (f : List Fixing). Tightens problem f more) (sym has.fixings) tightens)
fills_stays problem fixings more verdict tightens (Branch choice children ∷ tree) (node ∷ places) each fills =
    let below = map (with_decision node) (children_of node.problem choice) in
    let later = fills_stays problem fixings more verdict tightens tree (below ++ places) (each_below problem fixings node each.0 (children_of node.problem choice) places each.1) fills.2 in
    let joined : tightened more (below ++ places) ≡ map (with_decision (with_fixings node more)) (children_of node.problem choice) ++ tightened more places =
    map-append (λ n. with_fixings n more) below places ∙ ap (λ (l : List Node). l ++ tightened more places) (sym (children_tightened node more (children_of node.problem choice))) in
    (fills.0, fills.1, subst (λ (l : List Node). Fills verdict l tree) joined later)

pub tree_stays : (problem : Problem) (fixings more : List Fixing) (verdict : Verdict) (tree : List TreeNode) → Tightens problem fixings more → Accepts problem fixings verdict tree → Accepts problem (fixings ++ more) verdict tree
tree_stays problem fixings more verdict tree tightens accepts = fills_stays problem fixings more verdict tightens tree (root_of problem fixings ∷ []) (record { problem = refl; fixings = refl }, tt) accepts
