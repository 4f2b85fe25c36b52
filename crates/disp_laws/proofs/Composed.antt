-- Arcs of one train compose: by an operation that each allowed route has, least sums add up.
use Rattle.std.proofs.Common.{◌≡◌, ℕ, ◌+◌, ◌<◌, ◌≤◌, List, [], ◌∷◌, ◌++◌, length, get_or, Option, Some, Bool, true, false, cond, refl, sym, ap, subst, ◌∙◌, arith, inl, inr, append_assoc}
use Rattle.std.specs.Prelude.{nat_eq, sum_by, ◌⊎◌}
use Rattle.std.proofs.lemmas.Bool.{eq-eqb, eqb-true, ne_eqb}
use Rattle.std.proofs.lemmas.Option.{none-some}
use Rattle.std.proofs.lemmas.List.Sums.{sum_by-append}
use Rattle.disp_model.specs.declared.train.Op.{Op}
use Rattle.disp_model.specs.declared.train.Operation.{Operation}
use Rattle.disp_model.specs.declared.fixing.Fixing.{Fixing}
use Rattle.disp_model.specs.declared.fixing.Fixing.TheVariants.{Started, Chosen, NotBefore}
use Rattle.disp_model.specs.declared.decision.Decision.{Decision}
use Rattle.disp_model.specs.declared.decision.Decision.TheVariants.{Go, First, Run, Skip}
use Rattle.disp_model.specs.WellFormed.{LeadsTo, IsAcyclic}
use Rattle.disp_model.specs.Train.{duration_of, GoesOn, IsRoute}
use Rattle.disp_model.specs.Fixing.{after}
use Rattle.disp_model.specs.Valid.{train_at}
use Rattle.disp_model.specs.Node.{Node}
use Rattle.disp_model.specs.Routes.{AgreesWithFixing, AgreesWithDecision, IsAllowed, IsForced}
use Rattle.disp_model.specs.Arcs.{Passes, IsTrainArc, IsArc, IsLongestArc}
use Rattle.disp_model.specs.Walks.{lower_of, WalksOn, IsWalk}
use Rattle.disp_laws.proofs.Paths.{IsIn, is_in, contains_in, in_or_not, leads_along}
use Rattle.disp_laws.proofs.Branching.{route_from}
use Rattle.disp_laws.proofs.Positions.{leads_then, route_leads}
use Rattle.disp_laws.proofs.Arcs.{passes_leads}
use Rattle.disp_laws.proofs.LeastSums.{Parted, parted}

-- ---- lists joined at an operation

in_front : (x : ℕ) (front rest : List ℕ) → IsIn x front → IsIn x (front ++ rest)
in_front x [] rest there = absurd there
in_front x (p ∷ front) rest (inl same) = inl same
in_front x (p ∷ front) rest (inr there) = inr (in_front x front rest there)

in_back : (x : ℕ) (front rest : List ℕ) → IsIn x rest → IsIn x (front ++ rest)
in_back x [] rest there = there
in_back x (p ∷ front) rest there = inr (in_back x front rest there)

pub in_front_or_back : (x : ℕ) (front rest : List ℕ) → IsIn x (front ++ rest) → IsIn x front ⊎ IsIn x rest
in_front_or_back x [] rest there = inr there
in_front_or_back x (p ∷ front) rest (inl same) = inl (inl same)
in_front_or_back x (p ∷ front) rest (inr there) = elim (in_front_or_back x front rest there) [ inl h ↦ inl (inr h) | inr h ↦ inr h ]

-- what follows an operation of the front does not depend on what is behind the joint
after_in_front : (x v : ℕ) (front one other : List ℕ) → IsIn x front → after x (front ++ v ∷ one) ≡ after x (front ++ v ∷ other)
after_in_front x v [] one other there = absurd there
after_in_front x v (p ∷ []) one other (inl same) = rw (eq-eqb p x same) refl
after_in_front x v (p ∷ []) one other (inr there) = absurd there
after_in_front x v (p ∷ q ∷ front) one other (inl same) = rw (eq-eqb p x same) refl
after_in_front x v (p ∷ q ∷ front) one other (inr there) = ap (λ (o : Option ℕ). cond (nat_eq p x) (Some q) o) (after_in_front x v (q ∷ front) one other there)

-- nor does what follows another one depend on the front
pub after_behind : (x v : ℕ) (front rest : List ℕ) → (IsIn x front → ⊥) → after x (front ++ v ∷ rest) ≡ after x (v ∷ rest)
after_behind x v [] rest not = refl
after_behind x v (p ∷ []) rest not = rw (ne_eqb p x (λ same. not (inl same))) refl
after_behind x v (p ∷ q ∷ front) rest not = rw (ne_eqb p x (λ same. not (inl same))) (after_behind x v (q ∷ front) rest (λ there. not (inr there)))

after_in : (x next : ℕ) (ops : List ℕ) → after x ops ≡ Some next → IsIn x ops
after_in x next [] at = absurd (none-some next at)
after_in x next (p ∷ []) at = absurd (none-some next at)
after_in x next (p ∷ q ∷ ops) at = here (nat_eq p x) refl at (λ later. after_in x next (q ∷ ops) later)
  where
    here : (b : Bool) → nat_eq p x ≡ b → cond b (Some q) (after x (q ∷ ops)) ≡ Some next → (after x (q ∷ ops) ≡ Some next → IsIn x (q ∷ ops)) → IsIn x (p ∷ q ∷ ops)
    here true is at later = inl (eqb-true p x is)
    here false is at later = inr (later at)

-- ---- two routes by one operation

goes_joined : (train : List Operation) (p v : ℕ) (front one other : List ℕ) → GoesOn train p (front ++ v ∷ one) → GoesOn train v other → GoesOn train p (front ++ v ∷ other)
goes_joined train p v [] one other goes behind = (goes.0, behind)
goes_joined train p v (q ∷ front) one other goes behind = (goes.0, goes_joined train q v front one other goes.1 behind)

route_joined : (train : List Operation) (v : ℕ) (front one other : List ℕ) → IsRoute train (front ++ v ∷ one) → GoesOn train v other → IsRoute train (front ++ v ∷ other)
route_joined train v [] one other is behind = (is.0, behind)
route_joined train v (p ∷ front) one other is behind = (is.0, goes_joined train p v front one other is.1 behind)

pub front_leads : (train : List Operation) (x v : ℕ) (front rest : List ℕ) → IsRoute train (front ++ v ∷ rest) → IsIn x front → (n : ℕ) × LeadsTo train n x v
front_leads train x v front rest is there = by (parted x front there)
  where
    by : Parted x front → (n : ℕ) × LeadsTo train n x v
    by part =
        let whole : front ++ v ∷ rest ≡ part.before ++ x ∷ (part.rest ++ v ∷ rest) = ap (λ (l : List ℕ). l ++ v ∷ rest) part.is ∙ append_assoc part.before (x ∷ part.rest) (v ∷ rest) in
        route_leads train part.before x part.rest v rest (subst (IsRoute train) whole is)

pub back_leads : (train : List Operation) (x v : ℕ) (front rest : List ℕ) → IsRoute train (front ++ v ∷ rest) → IsIn x rest → (n : ℕ) × LeadsTo train n v x
back_leads train x v front rest is there = leads_along train v x rest (route_from train front v rest is) there

-- an operation does not stand before another on one route and behind it on another
not_both : (train : List Operation) (x v : ℕ) (front one other back : List ℕ) → IsAcyclic train → IsRoute train (front ++ v ∷ one) → IsRoute train (other ++ v ∷ back) → IsIn x front → IsIn x (v ∷ back) → ⊥
not_both train x v front one other back acyclic is too there (inl same) =
    let way = front_leads train x v front one is there in acyclic.no_cycle way.0 v (subst (λ (y : ℕ). LeadsTo train way.0 y v) (sym same) way.1)
not_both train x v front one other back acyclic is too there (inr behind) =
    let to = front_leads train x v front one is there in
    let from = back_leads train x v other back too behind in
    let round = leads_then train to.0 from.0 x v x to.1 from.1 in
    acyclic.no_cycle round.0 x round.1

-- the front of one route and the back of another, joined at an operation of both
pub record Joint (train : List Operation) (v : ℕ) (front one other back : List ℕ) : Type 0 where
  pub acyclic : IsAcyclic train
  pub first : IsRoute train (front ++ v ∷ one)
  pub second : IsRoute train (other ++ v ∷ back)

has_both : (train : List Operation) (x v : ℕ) (front one other back : List ℕ) → Joint train v front one other back → IsIn x (front ++ v ∷ one) → IsIn x (other ++ v ∷ back) → IsIn x (front ++ v ∷ back)
has_both train x v front one other back joint here there = elim (in_front_or_back x front (v ∷ one) here) [
  | inl h ↦ in_front x front (v ∷ back) h
  | inr h ↦ elim (in_front_or_back x other (v ∷ back) there) [
    | inr g ↦ in_back x front (v ∷ back) g
    | inl g ↦ absurd (not_both train x v other back front one joint.acyclic joint.second joint.first g h)
  ]
]

goes_both : (train : List Operation) (x next v : ℕ) (front one other back : List ℕ) → Joint train v front one other back → after x (front ++ v ∷ one) ≡ Some next → after x (other ++ v ∷ back) ≡ Some next → after x (front ++ v ∷ back) ≡ Some next
goes_both train x next v front one other back joint here there = elim (in_or_not x front) [
  | inl h ↦ after_in_front x v front back one h ∙ here
  | inr not ↦
      let on : IsIn x (v ∷ one) = elim (in_front_or_back x front (v ∷ one) (after_in x next (front ++ v ∷ one) here)) [ inl g ↦ absurd (not g) | inr g ↦ g ] in
      after_behind x v front back not ∙ sym (after_behind x v other back (λ g. not_both train x v other back front one joint.acyclic joint.second joint.first g on)) ∙ there
]

-- an operation of the joint goes on as the route that it comes from
goes_own : (train : List Operation) (x next v : ℕ) (front one other back : List ℕ) → Joint train v front one other back → IsIn x (front ++ v ∷ back)
    → (IsIn x (front ++ v ∷ one) → after x (front ++ v ∷ one) ≡ Some next) → (IsIn x (other ++ v ∷ back) → after x (other ++ v ∷ back) ≡ Some next) → after x (front ++ v ∷ back) ≡ Some next
goes_own train x next v front one other back joint on first second = elim (in_or_not x front) [
  | inl h ↦ after_in_front x v front back one h ∙ first (in_front x front (v ∷ one) h)
  | inr not ↦
      let behind : IsIn x (v ∷ back) = elim (in_front_or_back x front (v ∷ back) on) [ inl g ↦ absurd (not g) | inr g ↦ g ] in
      after_behind x v front back not ∙ sym (after_behind x v other back (λ g. not_both train x v other back other back joint.acyclic joint.second joint.second g behind)) ∙ second (in_back x other (v ∷ back) behind)
]

fixing_joined : (train : List Operation) (t v : ℕ) (front one other back : List ℕ) (fixing : Fixing) → Joint train v front one other back → AgreesWithFixing t (front ++ v ∷ one) fixing → AgreesWithFixing t (other ++ v ∷ back) fixing
    → AgreesWithFixing t (front ++ v ∷ back) fixing
fixing_joined train t v front one other back (Started u o time) joint first second = λ same.
    contains_in o (front ++ v ∷ back) (has_both train o v front one other back joint (is_in o (front ++ v ∷ one) (first same)) (is_in o (other ++ v ∷ back) (second same)))
fixing_joined train t v front one other back (Chosen u o next) joint first second = λ same. goes_both train o next v front one other back joint (first same) (second same)
fixing_joined train t v front one other back (NotBefore u o time) joint first second = tt

decision_joined : (train : List Operation) (t v : ℕ) (front one other back : List ℕ) (decision : Decision) → Joint train v front one other back → AgreesWithDecision t (front ++ v ∷ one) decision → AgreesWithDecision t (other ++ v ∷ back) decision
    → AgreesWithDecision t (front ++ v ∷ back) decision
decision_joined train t v front one other back (Go o next) joint first second = λ same on.
    goes_own train o.op next v front one other back joint (is_in o.op (front ++ v ∷ back) on)
    (λ h. first same (contains_in o.op (front ++ v ∷ one) h)) (λ h. second same (contains_in o.op (other ++ v ∷ back) h))
decision_joined train t v front one other back (First a b) joint first second = tt
decision_joined train t v front one other back (Run o) joint first second = λ same.
    contains_in o.op (front ++ v ∷ back) (has_both train o.op v front one other back joint (is_in o.op (front ++ v ∷ one) (first same)) (is_in o.op (other ++ v ∷ back) (second same)))
decision_joined train t v front one other back (Skip o) joint first second = λ same on. elim (in_front_or_back o.op front (v ∷ back) (is_in o.op (front ++ v ∷ back) on)) [
  | inl h ↦ first same (contains_in o.op (front ++ v ∷ one) (in_front o.op front (v ∷ one) h))
  | inr h ↦ second same (contains_in o.op (other ++ v ∷ back) (in_back o.op other (v ∷ back) h))
]

-- the front of an allowed route and the back of another make an allowed route
pub allowed_joined : (node : Node) (t v : ℕ) (front one other back : List ℕ) → t < length node.problem.trains → IsAllowed node t (front ++ v ∷ one) → IsAllowed node t (other ++ v ∷ back) → IsAllowed node t (front ++ v ∷ back)
allowed_joined node t v front one other back there first second =
    let train = train_at node.problem t in
    let joint : Joint train v front one other back = record { acyclic = node.problem.well_formed.acyclic t [] there; first = first.is_route; second = second.is_route } in
    record {
      is_route = route_joined train v front one back first.is_route (route_from train other v back second.is_route);
      fixings_agree = λ k d lt. fixing_joined train t v front one other back (get_or node.fixings k d) joint (first.fixings_agree k d lt) (second.fixings_agree k d lt);
      decisions_agree = λ k d lt. decision_joined train t v front one other back (get_or node.decisions k d) joint (first.decisions_agree k d lt) (second.decisions_agree k d lt);
    }

-- ---- arcs compose

-- the sums of two stretches add up
sums_join : (train : List Operation) (u v : ℕ) (first second : List ℕ) → sum_by (duration_of train) (u ∷ (first ++ v ∷ second)) ≡ sum_by (duration_of train) (u ∷ first) + sum_by (duration_of train) (v ∷ second)
sums_join train u v first second = sum_by-append (duration_of train) (u ∷ first) (v ∷ second)

-- where u leads to v and v to w, a route that passes u and then w, and has v, passes v between them
pub record Between (train : List Operation) (route : List ℕ) (u v w total : ℕ) : Type 0 where
  pub first : ℕ
  pub second : ℕ
  pub from_u : Passes train route u v first
  pub from_v : Passes train route v w second
  pub sum : total ≡ first + second

passes_between : (train : List Operation) (route : List ℕ) (u v w total n m : ℕ) → IsAcyclic train → IsRoute train route → LeadsTo train n u v → LeadsTo train m v w → IsIn v route → Passes train route u w total → Between train route u v w total
passes_between train route u v w total n m acyclic is to_v to_w on passes = by_place (in_front_or_back v passes.before (u ∷ (passes.between ++ w ∷ passes.behind)) (subst (IsIn v) passes.route_is on))
  where
    parts : IsRoute train (passes.before ++ u ∷ (passes.between ++ w ∷ passes.behind))
    parts = subst (IsRoute train) passes.route_is is

    round : (x y a b : ℕ) → LeadsTo train a x y → LeadsTo train b y x → ⊥
    round x y a b go back = let whole = leads_then train a b x y x go back in acyclic.no_cycle whole.0 x whole.1

    whole : route ≡ (passes.before ++ u ∷ passes.between) ++ w ∷ passes.behind
    whole = passes.route_is ∙ sym (append_assoc passes.before (u ∷ passes.between) (w ∷ passes.behind))

    in_between : Parted v passes.between → Between train route u v w total
    in_between part =
        let joined : passes.between ++ w ∷ passes.behind ≡ part.before ++ v ∷ (part.rest ++ w ∷ passes.behind) = ap (λ (l : List ℕ). l ++ w ∷ passes.behind) part.is ∙ append_assoc part.before (v ∷ part.rest) (w ∷ passes.behind) in
        let from_u : route ≡ passes.before ++ u ∷ (part.before ++ v ∷ (part.rest ++ w ∷ passes.behind)) = passes.route_is ∙ ap (λ (l : List ℕ). passes.before ++ u ∷ l) joined in
        let from_v : route ≡ (passes.before ++ u ∷ part.before) ++ v ∷ (part.rest ++ w ∷ passes.behind) = from_u ∙ sym (append_assoc passes.before (u ∷ part.before) (v ∷ (part.rest ++ w ∷ passes.behind))) in
        record {
          first = sum_by (duration_of train) (u ∷ part.before);
          second = sum_by (duration_of train) (v ∷ part.rest);
          from_u = record { before = passes.before; between = part.before; behind = part.rest ++ w ∷ passes.behind; route_is = from_u; total_is = refl };
          from_v = record { before = passes.before ++ u ∷ part.before; between = part.rest; behind = passes.behind; route_is = from_v; total_is = refl };
          sum = passes.total_is ∙ ap (λ (l : List ℕ). sum_by (duration_of train) (u ∷ l)) part.is ∙ sums_join train u v part.before part.rest;
        }

    behind_u : IsIn v (passes.between ++ w ∷ passes.behind) → Between train route u v w total
    behind_u there = elim (in_front_or_back v passes.between (w ∷ passes.behind) there) [
      | inl h ↦ in_between (parted v passes.between h)
      | inr late ↦ elim late [
        | inl same ↦ absurd (acyclic.no_cycle m v (subst (λ (x : ℕ). LeadsTo train m v x) same to_w))
        | inr far ↦ let way = back_leads train v w (passes.before ++ u ∷ passes.between) passes.behind (subst (IsRoute train) whole is) far in absurd (round v w m way.0 to_w way.1)
      ]
    ]

    by_place : IsIn v passes.before ⊎ IsIn v (u ∷ (passes.between ++ w ∷ passes.behind)) → Between train route u v w total
    by_place (inl early) = let way = front_leads train v u passes.before (passes.between ++ w ∷ passes.behind) parts early in absurd (round u v n way.0 to_v way.1)
    by_place (inr (inl same)) = absurd (acyclic.no_cycle n u (subst (λ (x : ℕ). LeadsTo train n u x) (sym same) to_v))
    by_place (inr (inr there)) = behind_u there

-- arcs of one train compose
pub arcs_compose : (node : Node) (u v w : Op) (one two : ℕ) → IsForced node v → IsTrainArc node u v one → IsTrainArc node v w two → IsTrainArc node u w (one + two)
arcs_compose node u v w one two forced first second = record {
  same_train = first.same_train ∙ second.same_train;
  reached = reached;
  least = λ route total allowed passes. least route total allowed passes;
}
  where
    there : u.train < length node.problem.trains
    there = subst (λ (t : ℕ). t < length node.problem.trains) (sym first.same_train) forced.train

    acyclic : IsAcyclic (train_at node.problem u.train)
    acyclic = node.problem.well_formed.acyclic u.train [] there

    then : (route : List ℕ) × IsAllowed node u.train route × Passes (train_at node.problem u.train) route v.op w.op two
    then = subst (λ (t : ℕ). (route : List ℕ) × IsAllowed node t route × Passes (train_at node.problem t) route v.op w.op two) (sym first.same_train) second.reached

    least_then : (route : List ℕ) (total : ℕ) → IsAllowed node u.train route → Passes (train_at node.problem u.train) route v.op w.op total → two ≤ total
    least_then = subst (λ (t : ℕ). (route : List ℕ) (total : ℕ) → IsAllowed node t route → Passes (train_at node.problem t) route v.op w.op total → two ≤ total) (sym first.same_train) second.least

    to_v : (n : ℕ) × LeadsTo (train_at node.problem u.train) n u.op v.op
    to_v = passes_leads (train_at node.problem u.train) first.reached.0 u.op v.op one first.reached.1.is_route first.reached.2

    to_w : (n : ℕ) × LeadsTo (train_at node.problem u.train) n v.op w.op
    to_w = passes_leads (train_at node.problem u.train) then.0 v.op w.op two then.1.is_route then.2

    least : (route : List ℕ) (total : ℕ) → IsAllowed node u.train route → Passes (train_at node.problem u.train) route u.op w.op total → one + two ≤ total
    least route total allowed passes =
        let on = is_in v.op route (forced.each_has route (subst (λ (t : ℕ). IsAllowed node t route) first.same_train allowed)) in
        let parts = passes_between (train_at node.problem u.train) route u.op v.op w.op total to_v.0 to_w.0 acyclic allowed.is_route to_v.1 to_w.1 on passes in
        omega (arith, parts.sum, first.least route parts.first allowed parts.from_u, least_then route parts.second allowed parts.from_v)

    reached : (route : List ℕ) × IsAllowed node u.train route × Passes (train_at node.problem u.train) route u.op w.op (one + two)
    reached =
        let a = first.reached.2 in
        let b = then.2 in
        let front = a.before ++ u.op ∷ a.between in
        let back = b.between ++ w.op ∷ b.behind in
        let one_is : first.reached.0 ≡ front ++ v.op ∷ a.behind = a.route_is ∙ sym (append_assoc a.before (u.op ∷ a.between) (v.op ∷ a.behind)) in
        let allowed = allowed_joined node u.train v.op front a.behind b.before back there (subst (IsAllowed node u.train) one_is first.reached.1) (subst (IsAllowed node u.train) b.route_is then.1) in
        let route_is : front ++ v.op ∷ back ≡ a.before ++ u.op ∷ ((a.between ++ v.op ∷ b.between) ++ w.op ∷ b.behind) =
        append_assoc a.before (u.op ∷ a.between) (v.op ∷ back) ∙ ap (λ (l : List ℕ). a.before ++ u.op ∷ l) (sym (append_assoc a.between (v.op ∷ b.between) (w.op ∷ b.behind))) in
        let sum = sums_join (train_at node.problem u.train) u.op v.op a.between b.between in
        (front ++ v.op ∷ back, allowed, record { before = a.before; between = a.between ++ v.op ∷ b.between; behind = b.behind; route_is = route_is; total_is = omega (arith, sum, a.total_is, b.total_is) })

-- ---- walks may leave out what lies between

-- an arc between operations of one train is one of the train
pub own_arc : (node : Node) (u v : Op) (n : ℕ) → u.train ≡ v.train → IsArc node u v n → IsTrainArc node u v n
own_arc node u v n same arc = elim arc.kind [
  | inl train ↦ train
  | inr rest ↦ elim rest [
    | inl order ↦ absurd (order.conflicts.trains same)
    | inr release ↦ absurd (release.conflicts.trains (sym release.goes_to.0 ∙ same))
  ]
]

longest_composed : (node : Node) (u v w : Op) (one two : ℕ) → u.train ≡ v.train → v.train ≡ w.train → IsLongestArc node u v one → IsLongestArc node v w two → IsLongestArc node u w (one + two)
longest_composed node u v w one two same then first second =
    let train = arcs_compose node u v w one two first.there.to_forced (own_arc node u v one same first.there) (own_arc node v w two then second.there) in
    record {
      there = record { from_forced = first.there.from_forced; to_forced = second.there.to_forced; kind = inl train };
      longest = λ other arc. (own_arc node u w other (same ∙ then) arc).least train.reached.0 (one + two) train.reached.1 train.reached.2;
    }

skips_on : (node : Node) (u : Op) (walked : ℕ) (front : List Op) (v w x : Op) (rest : List Op) (total : ℕ) → v.train ≡ w.train → w.train ≡ x.train
    → WalksOn node u walked (front ++ v ∷ w ∷ x ∷ rest) total → WalksOn node u walked (front ++ v ∷ x ∷ rest) total
skips_on node u walked [] v w x rest total same then on =
    let first = on.2 in
    let second = first.2 in
    let sum : walked + on.0 + first.0 + second.0 ≡ walked + on.0 + (first.0 + second.0) = omega arith in
    (on.0, on.1, (first.0 + second.0, longest_composed node v w x first.0 second.0 same then first.1 second.1, subst (λ (n : ℕ). WalksOn node x n rest total) sum second.2))
skips_on node u walked (y ∷ front) v w x rest total same then on = (on.0, on.1, skips_on node y (walked + on.0) front v w x rest total same then on.2)

-- a walk may leave out an operation between two of its train
pub walk_skips : (node : Node) (front : List Op) (v w x : Op) (rest : List Op) (total : ℕ) → v.train ≡ w.train → w.train ≡ x.train
    → IsWalk node (front ++ v ∷ w ∷ x ∷ rest) total → IsWalk node (front ++ v ∷ x ∷ rest) total
walk_skips node [] v w x rest total same then (forced, on) =
    let second = on.2 in
    let walked = lower_of node.problem node.fixings v in
    let sum : walked + on.0 + second.0 ≡ walked + (on.0 + second.0) = omega arith in
    (forced, (on.0 + second.0, longest_composed node v w x on.0 second.0 same then on.1 second.1, subst (λ (n : ℕ). WalksOn node x n rest total) sum second.2))
walk_skips node (u ∷ front) v w x rest total same then (forced, on) = (forced, skips_on node u (lower_of node.problem node.fixings u) front v w x rest total same then on)
