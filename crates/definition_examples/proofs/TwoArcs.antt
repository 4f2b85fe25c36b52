-- The arcs of the two trains: each train's own, and those of one order.
use Rattle.std.proofs.Common.{◌≡◌, ◌⊎◌, inl, inr, ℕ, zero, suc, ◌+◌, ◌<◌, List, [], ◌∷◌, Some, refl, sym, subst, ap, ◌∙◌, arith}
use Rattle.std.specs.Prelude.{Contains, sum_by}
use Rattle.std.proofs.lemmas.Option.{same_Some}
use Rattle.disp_model.specs.Node.{Node, root_of, node_at}
use Rattle.disp_model.specs.declared.train.Op.{Op}
use Rattle.disp_model.specs.declared.fixing.Fixing.{Fixing}
use Rattle.disp_model.specs.declared.decision.Decision.{Decision}
use Rattle.disp_model.specs.declared.decision.Decision.TheVariants.{Go, First, Run, Skip}
use Rattle.disp_model.specs.declared.problem.Problem.{Problem}
use Rattle.disp_model.specs.WellFormed.{IsWellFormed}
use Rattle.disp_model.specs.Train.{IsRoute, duration_of}
use Rattle.disp_model.specs.Fixing.{after}
use Rattle.disp_model.specs.Valid.{train_at}
use Rattle.disp_model.specs.Routes.{IsAllowed}
use Rattle.disp_model.specs.Arcs.{IsArc, IsTrainArc, IsReleaseArc, Passes, min_of, release_of}
use Rattle.definition_examples.specs.Trains.{two_trains, two_costs, op_named, listing}
use Rattle.definition_examples.proofs.Made.{made}
use Rattle.definition_examples.proofs.Holding.{both, only_route, passed}

-- a problem of the two trains
abbrev pub two : (release : ℕ) (names : List (List ℕ)) → IsWellFormed (two_trains release) two_costs names → Problem
two release names w = made (two_trains release) two_costs names w

-- how long the first operation of a train lasts
abbrev pub lasts : ℕ → ℕ
lasts zero = 10
lasts (suc t) = 4

-- each train may take its route
abbrev pub IsOpen : Node → Type 0
IsOpen node = (t : ℕ) → t < 2 → IsAllowed node t both

pub route_is : (release : ℕ) (names : List (List ℕ)) (w : IsWellFormed (two_trains release) two_costs names) (t : ℕ) (route : List ℕ) → t < 2 → IsRoute (train_at (two release names w) t) route → route ≡ both
route_is release names w zero route lt h = only_route 10 (listing 0 release ∷ []) 0 [] route h
route_is release names w (suc zero) route lt h = only_route 4 (listing 0 release ∷ []) 0 [] route h
route_is release names w (suc (suc t)) route lt h = absurd (omega (arith, lt))

pub sum_is : (release : ℕ) (names : List (List ℕ)) (w : IsWellFormed (two_trains release) two_costs names) (t : ℕ) → t < 2 → sum_by (duration_of (train_at (two release names w) t)) (0 ∷ []) ≡ lasts t
sum_is release names w zero lt = refl
sum_is release names w (suc zero) lt = refl
sum_is release names w (suc (suc t)) lt = absurd (omega (arith, lt))

pub op_is : (u : Op) (t o : ℕ) → u.train ≡ t → u.op ≡ o → u ≡ op_named t o
op_is u t o same_t same_o = subst (λ s. u ≡ op_named s o) same_t (subst (λ p. u ≡ op_named u.train p) same_o refl)

-- a train's own arc
pub record IsOwn (u v : Op) (arc_length : ℕ) : Type 0 where
  pub train : ℕ
  pub within : train < 2
  pub from_is : u ≡ op_named train 0
  pub to_is : v ≡ op_named train 1
  pub length_is : arc_length ≡ lasts train

pub own_parts : (release : ℕ) (names : List (List ℕ)) (w : IsWellFormed (two_trains release) two_costs names) (u v : Op) (arc_length : ℕ) (route : List ℕ)
    → u.train < 2 → u.train ≡ v.train → IsRoute (train_at (two release names w) u.train) route → Passes (train_at (two release names w) u.train) route u.op v.op arc_length → IsOwn u v arc_length
own_parts release names w u v arc_length route lt same is_route p =
    let route_both : route ≡ both = route_is release names w u.train route lt is_route in
    let parts = passed u.op v.op p.before p.between p.behind (sym route_both ∙ p.route_is) in
    let total : arc_length ≡ sum_by (duration_of (train_at (two release names w) u.train)) (0 ∷ []) = subst (λ (xs : List ℕ). arc_length ≡ sum_by (duration_of (train_at (two release names w) u.train)) (0 ∷ xs)) parts.2 (subst (λ (x : ℕ). arc_length ≡ sum_by (duration_of (train_at (two release names w) u.train)) (x ∷ p.between)) parts.0 p.total_is) in
    record {
      train = u.train;
      within = lt;
      from_is = op_is u u.train 0 refl parts.0;
      to_is = op_is v u.train 1 (sym same) parts.1;
      length_is = total ∙ sum_is release names w u.train lt;
    }

own_arc : (release : ℕ) (names : List (List ℕ)) (w : IsWellFormed (two_trains release) two_costs names) (fixings : List Fixing) (decisions : List Decision) (u v : Op) (arc_length : ℕ)
    → u.train < 2 → IsTrainArc (node_at (two release names w) fixings decisions) u v arc_length → IsOwn u v arc_length
own_arc release names w fixings decisions u v arc_length lt arc =
    own_parts release names w u v arc_length arc.reached.0 lt arc.same_train arc.reached.1.is_route arc.reached.2

-- ---- what is decided

abbrev earlier : Decision → Op
earlier (Go o next) = o
earlier (First a b) = a
earlier (Run o) = o
earlier (Skip o) = o

abbrev later : Decision → Op
later (Go o next) = o
later (First a b) = b
later (Run o) = o
later (Skip o) = o

pub decided_is : (a b u v : Op) → Contains (First a b ∷ []) (First u v) → (u ≡ a) × (v ≡ b)
decided_is a b u v (zero, lt, at) = (sym (ap earlier at), sym (ap later at))
decided_is a b u v (suc k, lt, at) = absurd (let less : suc k < 1 = lt in omega (arith, less))

pub none_decided : (u v : Op) → Contains [] (First u v) → ⊥
none_decided u v (k, lt, at) = omega (arith, lt)

-- with no decision each arc is a train's own
pub free_arcs : (release : ℕ) (names : List (List ℕ)) (w : IsWellFormed (two_trains release) two_costs names) (fixings : List Fixing) (u v : Op) (arc_length : ℕ)
    → IsArc (root_of (two release names w) fixings) u v arc_length → IsOwn u v arc_length
free_arcs release names w fixings u v arc_length arc =
    elim arc.kind [
      | inl own ↦ own_arc release names w fixings [] u v arc_length arc.from_forced.train own
      | inr other ↦ elim other [
        | inl order ↦ absurd (none_decided u v order.decided)
        | inr freed ↦ absurd (none_decided freed.holder v freed.decided)
      ]
    ]

-- the arcs of an order of the two first operations: the order's own, and that from behind the earlier one
pub record IsOrdered (problem : Problem) (s t : ℕ) (u v : Op) (arc_length : ℕ) : Type 0 where
  pub from_is : u ≡ op_named s 0
  pub to_is : v ≡ op_named t 0
  pub length_is : arc_length ≡ min_of problem (op_named s 0) + release_of problem (op_named s 0) (op_named t 0)

pub record IsFreed (problem : Problem) (s t : ℕ) (u v : Op) (arc_length : ℕ) : Type 0 where
  pub from_is : u ≡ op_named s 1
  pub to_is : v ≡ op_named t 0
  pub length_is : arc_length ≡ release_of problem (op_named s 0) (op_named t 0)

abbrev pub one_order : ℕ → ℕ → List Decision
one_order s t = First (op_named s 0) (op_named t 0) ∷ []

freed_arc : (release : ℕ) (names : List (List ℕ)) (w : IsWellFormed (two_trains release) two_costs names) (fixings : List Fixing) (s t : ℕ) (u v : Op) (arc_length : ℕ)
    → s < 2 → IsOpen (node_at (two release names w) fixings (one_order s t)) → IsReleaseArc (node_at (two release names w) fixings (one_order s t)) u v arc_length → IsFreed (two release names w) s t u v arc_length
freed_arc release names w fixings s t u v arc_length lt open_all arc =
    let problem = two release names w in
    let named = decided_is (op_named s 0) (op_named t 0) arc.holder v arc.decided in
    let train : u.train ≡ s = arc.goes_to.0 ∙ ap (λ (x : Op). x.train) named.0 in
    let goes : (route : List ℕ) → IsAllowed (node_at problem fixings (one_order s t)) s route → after 0 route ≡ Some u.op
    = subst (λ (x : Op). (route : List ℕ) → IsAllowed (node_at problem fixings (one_order s t)) x.train route → after x.op route ≡ Some u.op) named.0 arc.goes_to.1 in
    let op : 1 ≡ u.op = same_Some 1 u.op (goes both (open_all s lt)) in
    record {
      from_is = op_is u s 1 train (sym op);
      to_is = named.1;
      length_is = subst (λ (x : Op). arc_length ≡ release_of problem (op_named s 0) x) named.1 (subst (λ (x : Op). arc_length ≡ release_of problem x v) named.0 arc.length_is);
    }

pub ordered_arcs : (release : ℕ) (names : List (List ℕ)) (w : IsWellFormed (two_trains release) two_costs names) (fixings : List Fixing) (s t : ℕ) (u v : Op) (arc_length : ℕ)
    → s < 2 → IsOpen (node_at (two release names w) fixings (one_order s t)) → IsArc (node_at (two release names w) fixings (one_order s t)) u v arc_length
    → IsOwn u v arc_length ⊎ (IsOrdered (two release names w) s t u v arc_length ⊎ IsFreed (two release names w) s t u v arc_length)
ordered_arcs release names w fixings s t u v arc_length lt open_all arc =
    elim arc.kind [
      | inl own ↦ inl (own_arc release names w fixings (one_order s t) u v arc_length arc.from_forced.train own)
      | inr other ↦ elim other [
        | inl order ↦
            let named = decided_is (op_named s 0) (op_named t 0) u v order.decided in
            inr (inl (record {
              from_is = named.0;
              to_is = named.1;
              length_is = subst (λ (x : Op). arc_length ≡ min_of (two release names w) (op_named s 0) + release_of (two release names w) (op_named s 0) x) named.1 (subst (λ (x : Op). arc_length ≡ min_of (two release names w) x + release_of (two release names w) x v) named.0 order.length_is);
            }))
        | inr freed ↦ inr (inr (freed_arc release names w fixings s t u v arc_length lt open_all freed))
      ]
    ]
