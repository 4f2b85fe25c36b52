-- Walks along a list that spans the trains: what they spend in each train is within one way through it.
use Rattle.std.proofs.Common.{◌≡◌, ℕ, zero, suc, ◌+◌, ◌*◌, ◌^◌, ◌<◌, ◌≤◌, ◌⊎◌, List, [], ◌∷◌, ◌++◌, length, take, get_or, cond, Option, Some, None, refl, sym, ap, subst, ◌∙◌, arith, inl, inr}
use Rattle.std.specs.Prelude.{nat_eq, slice_get, slice_index, All, sum_by}
use Rattle.std.specs.Option.{option_map_or}
use Rattle.std.proofs.lemmas.Bool.{cases_lt, eq-eqb, ne_eqb}
use Rattle.std.proofs.lemmas.Option.{slice_get_within, get_or_from_slice_get}
use Rattle.std.proofs.lemmas.List.{length-append, take_all}
use Rattle.std.proofs.lemmas.List.Sums.{sum_by-le, sum_by_more}
use Rattle.std.proofs.lemmas.List.Elements.{All-contains, All-weaker}
use Rattle.disp_model.specs.declared.limits.TheConstants.{GREATEST_NUMBER}
use Rattle.disp_model.specs.declared.train.Op.{Op}
use Rattle.disp_model.specs.declared.train.Operation.{Operation}
use Rattle.disp_model.specs.declared.problem.Problem.{Problem}
use Rattle.disp_model.specs.WellFormed.{greatest_release, operation_count, LeadsTo}
use Rattle.disp_model.specs.Train.{duration_of, IsRoute}
use Rattle.disp_model.specs.Numbers.{number_of}
use Rattle.disp_model.specs.Valid.{train_at}
use Rattle.disp_model.specs.Node.{Node}
use Rattle.disp_model.specs.Routes.{IsForced}
use Rattle.disp_model.specs.Arcs.{min_of, Passes, IsTrainArc, IsArc}
use Rattle.disp_laws.proofs.Numbered.{below_count, each_number}
use Rattle.disp_laws.proofs.HorizonBounds.{AreSmall, lower_within}
use Rattle.disp_laws.proofs.Charges.{most_released, release_within}
use Rattle.disp_laws.proofs.RouteSearch.{same_number, route_fits}
use Rattle.disp_laws.proofs.LeastSums.{train_arc_exists}
use Rattle.disp_laws.proofs.Composed.{own_arc, arcs_compose}
use Rattle.route_sets.specs.Sets.{op_of_train}
use Rattle.incremental_paths.specs.declared.arc.Arc.{Arc}
use Rattle.incremental_paths.specs.Walks.{JoinsPair, FollowsArcs, IsWalkTo, steps_length, walk_length, ArcsHaveCycle, WalksAreShort}
use Rattle.incremental_paths.proofs.Members.{joining}
use Rattle.incremental_paths.proofs.Bounds.{walks_once, nodes_within, few_nodes}
use Rattle.event_arcs.specs.Listed.{IsArcOf, LeadsOver, AreLowersOf, IsArcLeft, SpansTrains}
use Rattle.event_arcs.proofs.Leading.{leads_then, back_makes_cycle}
use Rattle.event_arcs.proofs.Numbering.{IsStep, step_of, forced_is_op, same_forced}
use Rattle.event_arcs.proofs.Joining.{either_leads}
use Rattle.event_arcs.proofs.Shortness.{release_small}

-- ---- a sum over trains, and one more in one of them

sum_to : (ℕ → ℕ) → ℕ → ℕ
sum_to f zero = 0
sum_to f (suc n) = sum_to f n + f n

bump : (ℕ → ℕ) → ℕ → ℕ → ℕ → ℕ
bump f t s k = cond (nat_eq k t) (f k + s) (f k)

bump_same : (f : ℕ → ℕ) (t s : ℕ) → bump f t s t ≡ f t + s
unfolding bump
bump_same f t s = rw (eq-eqb t t refl) refl

bump_other : (f : ℕ → ℕ) (t s k : ℕ) → (k ≡ t → ⊥) → bump f t s k ≡ f k
unfolding bump
bump_other f t s k other = rw (ne_eqb k t other) refl

sum_past : (f : ℕ → ℕ) (t s n : ℕ) → n ≤ t → sum_to (bump f t s) n ≡ sum_to f n
unfolding sum_to
sum_past f t s zero le = refl
sum_past f t s (suc n) le = omega (arith, sum_past f t s n (omega (arith, le)), bump_other f t s n (λ same. omega (arith, same, le)))

sum_bump : (f : ℕ → ℕ) (t s n : ℕ) → t < n → sum_to (bump f t s) n ≡ sum_to f n + s
unfolding sum_to
sum_bump f t s zero lt = absurd (omega (arith, lt))
sum_bump f t s (suc n) lt = elim (cases_lt t n) [
  | inl before ↦ omega (arith, sum_bump f t s n before, bump_other f t s n (λ same. omega (arith, same, before)))
  | inr late ↦
      let same : n ≡ t = omega (arith, late, lt) in
      let here : bump f t s n ≡ f n + s = subst (λ (k : ℕ). bump f t s k ≡ f k + s) (sym same) (bump_same f t s) in
      omega (arith, sum_past f t s n (omega (arith, same)), here)
]

sum_within : (f g : ℕ → ℕ) (n : ℕ) → ((t : ℕ) → t < n → f t ≤ g t) → sum_to f n ≤ sum_to g n
unfolding sum_to
sum_within f g zero each = omega arith
sum_within f g (suc n) each = omega (arith, sum_within f g n (λ t lt. each t (omega (arith, lt))), each n (omega arith))

trains_to : (problem : Problem) (n : ℕ) → n ≤ length problem.trains → sum_to (λ t. length (train_at problem t) * 2 ^ 31) n ≡ sum_by (λ (train : List Operation). length train) (take n problem.trains) * 2 ^ 31
unfolding sum_to
trains_to problem zero le = omega arith
trains_to problem (suc n) le =
    let more = sum_by_more (λ (train : List Operation). length train) problem.trains n [] (omega (arith, le)) in
    let suc_is : n + 1 ≡ suc n = omega arith in
    let next : sum_by (λ (train : List Operation). length train) (take (suc n) problem.trains) ≡ sum_by (λ (train : List Operation). length train) (take n problem.trains) + length (train_at problem n) =
    subst (λ (m : ℕ). sum_by (λ (train : List Operation). length train) (take m problem.trains) ≡ sum_by (λ (train : List Operation). length train) (take n problem.trains) + length (train_at problem n)) suc_is more in
    omega (arith, next, trains_to problem n (omega (arith, le)))

-- ---- how long arcs are

fit_min : (problem : Problem) (o : Op) → o.train < length problem.trains → min_of problem o ≤ GREATEST_NUMBER
fit_min problem o there = by (slice_get (train_at problem o.train) o.op) refl
  where
    by : (found : Option Operation) → slice_get (train_at problem o.train) o.op ≡ found → option_map_or (λ p. p.min) found 0 ≤ GREATEST_NUMBER
    by None at = omega arith
    by (Some p) at =
        let fits = problem.well_formed.numbers o.train [] there o.op p (slice_get_within (train_at problem o.train) o.op p at) in
        subst (λ (q : Operation). q.min ≤ GREATEST_NUMBER) (get_or_from_slice_get (train_at problem o.train) o.op p p at) fits.min

fit_release : (problem : Problem) (o : Op) → o.train < length problem.trains → most_released problem o ≤ GREATEST_NUMBER
fit_release problem o there = by (slice_get (train_at problem o.train) o.op) refl
  where
    by : (found : Option Operation) → slice_get (train_at problem o.train) o.op ≡ found → greatest_release (option_map_or (λ p. p.listings) found []) ≤ GREATEST_NUMBER
    by None at = omega arith
    by (Some p) at =
        let fits = problem.well_formed.numbers o.train [] there o.op p (slice_get_within (train_at problem o.train) o.op p at) in
        release_small p.listings (subst (λ (q : Operation). All (λ l. l.release ≤ GREATEST_NUMBER) q.listings) (get_or_from_slice_get (train_at problem o.train) o.op p p at) fits.releases)

fit_duration : (problem : Problem) (t o : ℕ) → t < length problem.trains → duration_of (train_at problem t) o ≤ 2 ^ 31
fit_duration problem t o there = omega (arith, fit_min problem (op_of_train t o) there)

-- a train's arc is no longer than the train has operations, times the greatest number
arc_within : (node : Node) (u v : Op) (sum : ℕ) → u.train < length node.problem.trains → IsTrainArc node u v sum → sum ≤ length (train_at node.problem u.train) * 2 ^ 31
arc_within node u v sum there arc = by arc.reached.0 arc.reached.1.is_route arc.reached.2
  where
    by : (route : List ℕ) → IsRoute (train_at node.problem u.train) route → Passes (train_at node.problem u.train) route u.op v.op sum → sum ≤ length (train_at node.problem u.train) * 2 ^ 31
    by [] is passes = absurd is
    by (p ∷ rest) is passes =
        let train = train_at node.problem u.train in
        let fits = route_fits train p rest (node.problem.well_formed.acyclic u.train [] there) is.1 in
        let whole : length (p ∷ rest) ≡ length passes.before + length (u.op ∷ (passes.between ++ v.op ∷ passes.behind)) = ap (λ (l : List ℕ). length l) passes.route_is ∙ length-append passes.before (u.op ∷ (passes.between ++ v.op ∷ passes.behind)) in
        let part = length-append passes.between (v.op ∷ passes.behind) in
        let short : sum_by (duration_of train) (u.op ∷ passes.between) ≤ length (u.op ∷ passes.between) * 2 ^ 31 = sum_by-le (duration_of train) (2 ^ 31) (u.op ∷ passes.between) (λ k d lt. fit_duration node.problem u.train (get_or (u.op ∷ passes.between) k d) there) in
        omega (arith, passes.total_is, short, whole, part, fits)

-- an arc of an order is short
order_short : (node : Node) (u v : Op) (n : ℕ) → (u.train ≡ v.train → ⊥) → IsArc node u v n → n < 2 ^ 33
order_short node u v n apart arc = elim arc.kind [
  | inl train ↦ absurd (apart train.same_train)
  | inr r ↦ elim r [
    | inl order ↦ omega (arith, order.length_is, fit_min node.problem u arc.from_forced.train, release_within node.problem u v, fit_release node.problem u arc.from_forced.train)
    | inr release ↦ omega (arith, release.length_is, release_within node.problem release.holder v, fit_release node.problem release.holder release.forced.train)
  ]
]

-- ---- what a walk spends in a train

-- so much is spent between two operations of the train, and the list leads to the first of them
record HasSpent (node : Node) (arcs : List Arc) (u t spent : ℕ) : Type 0 where
  pub lo : Op
  pub hi : Op
  pub sum : ℕ
  pub own : lo.train ≡ t
  pub forced : IsForced node lo
  pub arc : IsTrainArc node lo hi sum
  pub within : spent ≤ sum
  pub left : IsArcLeft arcs (number_of node.problem lo)
  pub leads : (u ≡ number_of node.problem lo) ⊎ LeadsOver arcs u (number_of node.problem lo) 0

record IsSpent (node : Node) (arcs : List Arc) (u : ℕ) (rest : List ℕ) : Type 0 where
  pub spent : ℕ → ℕ
  pub each : (t : ℕ) → (spent t ≡ 0) ⊎ HasSpent node arcs u t (spent t)
  pub total : steps_length arcs u rest ≤ sum_to spent (length node.problem.trains) + length rest * 2 ^ 33

module _ (node : Node) (arcs : List Arc) (sound : All (IsArcOf node) arcs) (spans : SpansTrains node arcs) (none : ArcsHaveCycle arcs → ⊥) where
  one_step : (u v : ℕ) → JoinsPair arcs u v → LeadsOver arcs u v 0
  one_step u v j = record { next = v; rest = []; follows = (j, tt); ends = refl; long = omega arith }

  leaves : (u v : ℕ) → JoinsPair arcs u v → IsArcLeft arcs u
  leaves u v j = (j.0, j.1, j.2, j.3, j.4.0)

  -- with a step before it
  came : (u v t spent : ℕ) → JoinsPair arcs u v → HasSpent node arcs v t spent → HasSpent node arcs u t spent
  came u v t spent j has = record {
    lo = has.lo;
    hi = has.hi;
    sum = has.sum;
    own = has.own;
    forced = has.forced;
    arc = has.arc;
    within = has.within;
    left = has.left;
    leads = inr (elim has.leads [
      | inl same ↦ subst (λ (n : ℕ). LeadsOver arcs u n 0) same (one_step u v j)
      | inr way ↦ leads_then arcs u v (number_of node.problem has.lo) 0 0 (one_step u v j) way
    ]);
  }

  came_each : (u v t spent : ℕ) → JoinsPair arcs u v → (spent ≡ 0) ⊎ HasSpent node arcs v t spent → (spent ≡ 0) ⊎ HasSpent node arcs u t spent
  came_each u v t spent j (inl zero_is) = inl zero_is
  came_each u v t spent j (inr has) = inr (came u v t spent j has)

  -- a way that leads to an operation of the train leads up the train
  leads_up_to : (v lo : Op) → IsForced node v → IsForced node lo → v.train ≡ lo.train → IsArcLeft arcs (number_of node.problem lo) → LeadsOver arcs (number_of node.problem v) (number_of node.problem lo) 0
      → (sum : ℕ) × IsTrainArc node v lo sum
  leads_up_to v lo one other same left way = by (either_leads node v.train v.op lo.op one (subst (IsForced node) lo_is other) apart)
    where
      lo_is : lo ≡ op_of_train v.train lo.op
      lo_is = ap (λ (t : ℕ). op_of_train t lo.op) (sym same)

      back : LeadsOver arcs (number_of node.problem lo) (number_of node.problem v) 0 → ⊥
      back round = none (back_makes_cycle arcs (number_of node.problem v) 0 (leads_then arcs (number_of node.problem v) (number_of node.problem lo) (number_of node.problem v) 0 0 way round))

      apart : v.op ≡ lo.op → ⊥
      apart equal =
          let whole : lo ≡ v = lo_is ∙ ap (λ (n : ℕ). op_of_train v.train n) (sym equal) in
          none (back_makes_cycle arcs (number_of node.problem v) 0 (subst (λ (o : Op). LeadsOver arcs (number_of node.problem v) (number_of node.problem o) 0) whole way))

      by : ((n : ℕ) × LeadsTo (train_at node.problem v.train) n v.op lo.op) ⊎ ((n : ℕ) × LeadsTo (train_at node.problem v.train) n lo.op v.op) → (sum : ℕ) × IsTrainArc node v lo sum
      by (inl up) = train_arc_exists node v lo up.0 same up.1 one other
      by (inr down) =
          let arc = train_arc_exists node lo v down.0 (sym same) (subst (λ (t : ℕ). LeadsTo (train_at node.problem t) down.0 lo.op v.op) same down.1) other one in
          absurd (back (spans.way lo v arc.0 other one arc.1 left (leaves (number_of node.problem v) way.next way.follows.0)))

  -- with a step of the train before it
  spent_more : (p v : Op) (len spent : ℕ) → IsForced node p → IsForced node v → IsTrainArc node p v len → JoinsPair arcs (number_of node.problem p) (number_of node.problem v)
      → (spent ≡ 0) ⊎ HasSpent node arcs (number_of node.problem v) p.train spent → HasSpent node arcs (number_of node.problem p) p.train (spent + len)
  spent_more p v len spent one other arc j (inl zero_is) = record {
    lo = p;
    hi = v;
    sum = len;
    own = refl;
    forced = one;
    arc = arc;
    within = omega (arith, zero_is);
    left = leaves (number_of node.problem p) (number_of node.problem v) j;
    leads = inl refl;
  }
  spent_more p v len spent one other arc j (inr has) =
      let on = to_hi has.leads in
      record {
        lo = p;
        hi = has.hi;
        sum = len + on.0;
        own = refl;
        forced = one;
        arc = arcs_compose node p v has.hi len on.0 other arc on.1;
        within = omega (arith, has.within, on.2);
        left = leaves (number_of node.problem p) (number_of node.problem v) j;
        leads = inl refl;
      }
    where
      to_hi : (number_of node.problem v ≡ number_of node.problem has.lo) ⊎ LeadsOver arcs (number_of node.problem v) (number_of node.problem has.lo) 0 → (sum : ℕ) × IsTrainArc node v has.hi sum × (has.sum ≤ sum)
      to_hi (inl same) =
          let lo_is = same_forced node has.lo v has.forced other (sym same) in
          (has.sum, subst (λ (o : Op). IsTrainArc node o has.hi has.sum) lo_is has.arc, omega arith)
      to_hi (inr way) =
          let up = leads_up_to v has.lo other has.forced (sym arc.same_train ∙ sym has.own) has.left way in
          (up.0 + has.sum, arcs_compose node v has.lo has.hi up.0 has.sum has.forced up.1 has.arc, omega arith)

  nothing : ℕ → ℕ
  nothing t = 0

  with_step : (p : Op) (m : ℕ) (rest : List ℕ) → IsForced node p → JoinsPair arcs (number_of node.problem p) m → (step : IsStep node arcs p m) → IsSpent node arcs (number_of node.problem step.v) rest → IsSpent node arcs (number_of node.problem p) (m ∷ rest)
  with_step p m rest forced joined step later = elim (same_number p.train step.v.train) [ inl same ↦ in_train same | inr apart ↦ across apart ]
    where
      j : JoinsPair arcs (number_of node.problem p) (number_of node.problem step.v)
      j = subst (JoinsPair arcs (number_of node.problem p)) (sym step.number_is) joined

      far : steps_length arcs (number_of node.problem step.v) rest ≡ steps_length arcs m rest
      far = ap (λ (n : ℕ). steps_length arcs n rest) step.number_is

      across : (p.train ≡ step.v.train → ⊥) → IsSpent node arcs (number_of node.problem p) (m ∷ rest)
      across apart = record {
        spent = later.spent;
        each = λ t. came_each (number_of node.problem p) (number_of node.problem step.v) t (later.spent t) j (later.each t);
        total = omega (arith, later.total, far, step.no_longer, order_short node p step.v step.arc_length apart step.longest.there);
      }

      in_train : p.train ≡ step.v.train → IsSpent node arcs (number_of node.problem p) (m ∷ rest)
      in_train same = record {
        spent = bump later.spent p.train step.arc_length;
        each = λ t. elim (same_number t p.train) [
          | inl own ↦
              let more = spent_more p step.v step.arc_length (later.spent p.train) forced step.longest.there.to_forced (own_arc node p step.v step.arc_length same step.longest.there) j (later.each p.train) in
              inr (subst (λ (k : ℕ). HasSpent node arcs (number_of node.problem p) k (bump later.spent p.train step.arc_length k)) (sym own)
              (subst (HasSpent node arcs (number_of node.problem p) p.train) (sym (bump_same later.spent p.train step.arc_length)) more))
          | inr other ↦
              subst (λ (k : ℕ). (k ≡ 0) ⊎ HasSpent node arcs (number_of node.problem p) t k) (sym (bump_other later.spent p.train step.arc_length t other))
              (came_each (number_of node.problem p) (number_of node.problem step.v) t (later.spent t) j (later.each t))
        ];
        total = omega (arith, later.total, far, step.no_longer, sum_bump later.spent p.train step.arc_length (length node.problem.trains) forced.train);
      }

  spent_of : (p : Op) (rest : List ℕ) → IsForced node p → FollowsArcs arcs (number_of node.problem p) rest → IsSpent node arcs (number_of node.problem p) rest
  unfolding nothing
  spent_of p [] forced follows = record { spent = nothing; each = λ t. inl refl; total = omega arith }
  spent_of p (m ∷ rest) forced follows =
      let step = step_of node arcs p m sound forced follows.0 in
      with_step p m rest forced follows.0 step (spent_of step.v rest step.longest.there.to_forced (subst (λ (n : ℕ). FollowsArcs arcs n rest) (sym step.number_is) follows.1))

  spent_within : (u t spent : ℕ) → t < length node.problem.trains → (spent ≡ 0) ⊎ HasSpent node arcs u t spent → spent ≤ length (train_at node.problem t) * 2 ^ 31
  spent_within u t spent there (inl zero_is) = omega (arith, zero_is)
  spent_within u t spent there (inr has) =
      let long = arc_within node has.lo has.hi has.sum has.forced.train has.arc in
      let same : length (train_at node.problem has.lo.train) ≡ length (train_at node.problem t) = ap (λ (k : ℕ). length (train_at node.problem k)) has.own in
      omega (arith, has.within, long, same)

  -- the steps of a walk are no longer than a way through each train, and its orders
  steps_within : (p : Op) (rest : List ℕ) → IsForced node p → FollowsArcs arcs (number_of node.problem p) rest
      → steps_length arcs (number_of node.problem p) rest ≤ operation_count node.problem.trains * 2 ^ 31 + length rest * 2 ^ 33
  steps_within p rest forced follows =
      let spent = spent_of p rest forced follows in
      let n = length node.problem.trains in
      let trains = sum_within spent.spent (λ t. length (train_at node.problem t) * 2 ^ 31) n (λ t lt. spent_within (number_of node.problem p) t (spent.spent t) lt (spent.each t)) in
      let all : take n node.problem.trains ≡ node.problem.trains = take_all n node.problem.trains (omega arith) in
      let count : sum_by (λ (train : List Operation). length train) (take n node.problem.trains) ≡ operation_count node.problem.trains = ap (λ (l : List (List Operation)). sum_by (λ (train : List Operation). length train) l) all in
      omega (arith, spent.total, trains, trains_to node.problem n (omega arith), count)

pub spanning_short : (node : Node) (arcs : List Arc) (lowers : List ℕ) → AreSmall node.fixings → All (IsArcOf node) arcs → SpansTrains node arcs → AreLowersOf node lowers → (ArcsHaveCycle arcs → ⊥) → WalksAreShort lowers arcs
spanning_short node arcs lowers small sound spans are none v [] walk = absurd walk
spanning_short node arcs lowers small sound spans are none v (n ∷ rest) walk = by rest walk
  where
    o : (op : Op) × (op.train < length node.problem.trains) × (op.op < length (train_at node.problem op.train)) × (number_of node.problem op ≡ n)
    o = each_number node.problem n (omega (arith, walk.0, are.long))

    lower : slice_index lowers n ≤ GREATEST_NUMBER
    lower =
        let at = are.at o.0 (record { train = o.1; op = o.2 }) in
        let same : slice_index lowers (number_of node.problem o.0) ≡ slice_index lowers n = ap (λ (k : ℕ). slice_index lowers k) o.3 in
        omega (arith, at, same, lower_within node o.0 small o.1)

    ending : (a : Arc) → IsArcOf node a → a.to < length lowers
    ending a is = let op = forced_is_op node is.v is.joins.to_forced in omega (arith, is.to_is, below_count node.problem is.v op.train op.op, are.long)

    by : (later : List ℕ) → IsWalkTo lowers arcs v (n ∷ later) → walk_length lowers arcs (n ∷ later) < 2 ^ 63
    by [] w = omega (arith, lower)
    by (m ∷ later) w =
        let listed = joining arcs n m w.1.0 in
        let arc = All-contains (IsArcOf node) arcs listed.0 sound listed.1 in
        let is : number_of node.problem arc.u ≡ n = sym arc.from_is ∙ listed.2 in
        let on : FollowsArcs arcs (number_of node.problem arc.u) (m ∷ later) = subst (λ (k : ℕ). FollowsArcs arcs k (m ∷ later)) (sym is) w.1 in
        let steps = steps_within node arcs sound spans none arc.u (m ∷ later) arc.joins.from_forced on in
        let same : steps_length arcs (number_of node.problem arc.u) (m ∷ later) ≡ steps_length arcs n (m ∷ later) = ap (λ (k : ℕ). steps_length arcs k (m ∷ later)) is in
        let ends = All-weaker (IsArcOf node) (λ (a : Arc). a.to < length lowers) ending arcs sound in
        let few = few_nodes (length lowers) (n ∷ m ∷ later) (walks_once arcs none lowers v (n ∷ m ∷ later) w) (nodes_within lowers arcs ends n (m ∷ later) w.0 w.1) in
        omega (arith, lower, steps, same, few, are.long, node.problem.well_formed.operations_fit)
