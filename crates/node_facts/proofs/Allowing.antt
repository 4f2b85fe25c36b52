-- The allowed routes of a train are its ways from the entry.
use Rattle.std.proofs.Common.{◌≡◌, ℕ, ◌+◌, ◌<◌, ◌≤◌, ◌⊎◌, List, [], ◌∷◌, length, get_or, Some, None, false, refl, sym, ap, subst, ◌∙◌, inl, inr, arith}
use Rattle.std.specs.Prelude.{nat_eq, slice_get, Contains, All, ◌↔◌}
use Rattle.std.proofs.lemmas.Bool.{cases_Bool, cases_lt, eqb-true, eqb-false, eq-eqb}
use Rattle.std.proofs.lemmas.Option.{none-some, slice_get-get_or}
use Rattle.disp_model.specs.declared.train.Operation.{Operation}
use Rattle.disp_model.specs.Train.{next_of, IsEntry, IsExit, GoesOn}
use Rattle.disp_model.specs.WellFormed.{IsAcyclic}
use Rattle.disp_model.specs.Fixing.{after}
use Rattle.disp_model.specs.Valid.{train_at}
use Rattle.disp_model.specs.Node.{Node}
use Rattle.disp_model.specs.Routes.{AgreesWithFixing, AgreesWithDecision, IsAllowed}
use Rattle.disp_laws.proofs.Paths.{IsIn, is_in, contains_in, never_again}
use Rattle.disp_laws.proofs.RouteSearch.{within_train, each_within}
use Rattle.train_orders.specs.Orders.{IsOrder}
use Rattle.train_orders.proofs.Places.{contains_at, contains_none}
use Rattle.train_orders.proofs.Ordered.{last_is_entry, has_last}
use Rattle.node_facts.specs.declared.demands.Demand.{Demand}
use Rattle.node_facts.specs.declared.demands.Demand.TheVariants.{Has, Lacks, Goes, Follows}
use Rattle.node_facts.specs.Demands.{Meets, AreDemands, Allows}
use Rattle.node_facts.specs.Ways.{IsWay}
use Rattle.route_marks.specs.Marks.{ArePlaces}
use Rattle.node_facts.proofs.Placing.{falls, apart, place_within}

-- what is known of a train before its ways are looked for
pub record IsLaidOut (train : List Operation) (order places : List ℕ) : Type 0 where
  pub acyclic : IsAcyclic train
  pub order_is : IsOrder train order
  pub places_are : ArePlaces train order places

-- ---- the first and the last place

empty : (xs : List ℕ) → ((x : ℕ) → Contains xs x → ⊥) → xs ≡ []
empty [] none = refl
empty (x ∷ xs) none = absurd (none x (0, omega arith, refl))

-- the exit has the first place
pub exit_first : (train : List Operation) (order places : List ℕ) (x : ℕ) → IsLaidOut train order places → IsExit train x → get_or places x 0 ≡ 0
exit_first train order places x laid exit = subst (λ (y : ℕ). get_or places y 0 ≡ 0) same (laid.places_are.at 0 z here)
  where
    some : 0 < length order
    some = let last = has_last train order laid.acyclic laid.order_is in omega (arith, last.2)

    z : ℕ
    z = get_or order 0 0

    here : slice_get order 0 ≡ Some z
    here = slice_get-get_or order 0 0 some

    last : IsExit train z
    last = record { there = laid.order_is.is_behind.within z (contains_at order z 0 here); last = empty (next_of train z) (λ s next. contains_none s (laid.order_is.is_behind.behind 0 z s here next)) }

    same : z ≡ x
    same = laid.acyclic.one_exit z x last exit

-- the entry has the last place
pub entry_last : (train : List Operation) (order places : List ℕ) (e o : ℕ) → IsLaidOut train order places → IsEntry train e → o < length train → get_or places o 0 ≤ get_or places e 0
entry_last train order places e o laid entry there = omega (arith, place_within train order places o laid.order_is laid.places_are there, found.2, placed, same)
  where
    found : (k : ℕ) × (z : ℕ) × (length order ≡ k + 1) × (slice_get order k ≡ Some z)
    found = has_last train order laid.acyclic laid.order_is

    same : e ≡ found.1
    same = laid.acyclic.one_entry e found.1 entry (last_is_entry train order found.0 found.1 laid.order_is found.2 found.3)

    placed : get_or places e 0 ≡ found.0
    placed = subst (λ (y : ℕ). get_or places y 0 ≡ found.0) (sym same) (laid.places_are.at found.0 found.1 found.3)

-- along a way places fall
pub falls_along : (train : List Operation) (order places : List ℕ) (o w : ℕ) (rest : List ℕ) → IsLaidOut train order places → GoesOn train o rest → IsIn w (o ∷ rest) → get_or places w 0 ≤ get_or places o 0
falls_along train order places o w rest laid goes (inl e) = let same = ap (λ (x : ℕ). get_or places x 0) e in omega (arith, same)
falls_along train order places o w [] laid goes (inr h) = absurd h
falls_along train order places o w (s ∷ rest) laid goes (inr h) =
    omega (arith, falls train order places o s laid.order_is laid.places_are (within_train train o s goes.0) goes.0, falls_along train order places s w rest laid goes.1 h)

-- ---- a demand step by step

-- each step of the way, and its end, is allowed by the demand
abbrev pub Keeps : List ℕ → Demand → ℕ → List ℕ → Type 0
Keeps places demand o [] = Allows places o None demand
Keeps places demand o (s ∷ rest) = Allows places o (Some s) demand × Keeps places demand s rest

keeps_has : (train : List Operation) (order places : List ℕ) (w o : ℕ) (rest : List ℕ) → IsLaidOut train order places → GoesOn train o rest → Keeps places (Has w) o rest → get_or places w 0 ≤ get_or places o 0 → IsIn w (o ∷ rest)
keeps_has train order places w o [] laid goes keeps le =
    inl (apart train order places o w laid.order_is laid.places_are goes.there (omega (arith, keeps.there, laid.places_are.long)) (omega (arith, le, exit_first train order places o laid goes)))
keeps_has train order places w o (s ∷ rest) laid goes keeps le = elim (cases_lt (get_or places w 0) (get_or places o 0)) [
  | inr ge ↦ inl (apart train order places o w laid.order_is laid.places_are (within_train train o s goes.0) (omega (arith, keeps.0.there, laid.places_are.long)) (omega (arith, le, ge)))
  | inl lt ↦ elim keeps.0.beside [
    | inl before ↦ absurd (omega (arith, lt, before))
    | inr behind ↦ inr (keeps_has train order places w s rest laid goes.1 keeps.1 behind)
  ]
]

has_keeps : (train : List Operation) (order places : List ℕ) (w o : ℕ) (rest : List ℕ) → IsLaidOut train order places → GoesOn train o rest → w < length places → IsIn w (o ∷ rest) ⊎ (get_or places o 0 < get_or places w 0) → Keeps places (Has w) o rest
has_keeps train order places w o [] laid goes there where_is = record { there = there; beside = tt }
has_keeps train order places w o (s ∷ rest) laid goes there where_is = by (λ h. has_keeps train order places w s rest laid goes.1 there h) where_is
  where
    less : get_or places s 0 < get_or places o 0
    less = falls train order places o s laid.order_is laid.places_are (within_train train o s goes.0) goes.0

    by : (IsIn w (s ∷ rest) ⊎ (get_or places s 0 < get_or places w 0) → Keeps places (Has w) s rest) → IsIn w (o ∷ s ∷ rest) ⊎ (get_or places o 0 < get_or places w 0) → Keeps places (Has w) o (s ∷ rest)
    by onward (inr above) = (record { there = there; beside = inl (omega (arith, above)) }, onward (inr (omega (arith, less, above))))
    by onward (inl (inl e)) =
        let same = ap (λ (x : ℕ). get_or places x 0) e in
        (record { there = there; beside = inl (omega (arith, same)) }, onward (inr (omega (arith, less, same))))
    by onward (inl (inr later)) = (record { there = there; beside = inr (falls_along train order places s w rest laid goes.1 later) }, onward (inl later))

pub keeps_lacks : (places : List ℕ) (w o : ℕ) (rest : List ℕ) → Keeps places (Lacks w) o rest → IsIn w (o ∷ rest) → ⊥
keeps_lacks places w o [] keeps (inl e) = keeps e
keeps_lacks places w o [] keeps (inr h) = h
keeps_lacks places w o (s ∷ rest) keeps (inl e) = keeps.0 e
keeps_lacks places w o (s ∷ rest) keeps (inr h) = keeps_lacks places w s rest keeps.1 h

pub lacks_keeps : (places : List ℕ) (w o : ℕ) (rest : List ℕ) → (IsIn w (o ∷ rest) → ⊥) → Keeps places (Lacks w) o rest
lacks_keeps places w o [] not = λ e. not (inl e)
lacks_keeps places w o (s ∷ rest) not = (λ e. not (inl e), lacks_keeps places w s rest (λ h. not (inr h)))

keeps_follows : (places : List ℕ) (w n o : ℕ) (rest : List ℕ) → Keeps places (Follows w n) o rest → IsIn w (o ∷ rest) → after w (o ∷ rest) ≡ Some n
keeps_follows places w n o [] keeps (inl e) = absurd (none-some n (keeps e))
keeps_follows places w n o [] keeps (inr h) = absurd h
keeps_follows places w n o (s ∷ rest) keeps there = elim (cases_Bool (nat_eq o w)) [
  | inl is ↦ rw is (keeps.0 (eqb-true o w is))
  | inr other ↦ rw other (keeps_follows places w n s rest keeps.1 (later other there))
]
  where
    later : nat_eq o w ≡ false → IsIn w (o ∷ s ∷ rest) → IsIn w (s ∷ rest)
    later other (inl e) = absurd (eqb-false o w other e)
    later other (inr h) = h

follows_keeps : (train : List Operation) (places : List ℕ) (w n o : ℕ) (rest : List ℕ) → IsAcyclic train → GoesOn train o rest → (IsIn w (o ∷ rest) → after w (o ∷ rest) ≡ Some n) → Keeps places (Follows w n) o rest
follows_keeps train places w n o [] acyclic goes says = λ e. absurd (none-some n (says (inl e)))
follows_keeps train places w n o (s ∷ rest) acyclic goes says = (
  λ e. sym (first e) ∙ says (inl e),
  follows_keeps train places w n s rest acyclic goes.1 (λ there. sym (past (other there)) ∙ says (inr there)),
)
  where
    first : o ≡ w → after w (o ∷ s ∷ rest) ≡ Some s
    first e = rw (eq-eqb o w e) refl

    other : IsIn w (s ∷ rest) → nat_eq o w ≡ false
    other there = elim (cases_Bool (nat_eq o w)) [
      | inl is ↦ absurd (never_again train o (s ∷ rest) acyclic goes (subst (λ (x : ℕ). IsIn x (s ∷ rest)) (sym (eqb-true o w is)) there))
      | inr is ↦ is
    ]

    past : nat_eq o w ≡ false → after w (o ∷ s ∷ rest) ≡ after w (s ∷ rest)
    past is = rw is refl

after_in : (o n : ℕ) (route : List ℕ) → after o route ≡ Some n → IsIn o route
after_in o n [] e = absurd (none-some n e)
after_in o n (p ∷ []) e = absurd (none-some n e)
after_in o n (p ∷ q ∷ rest) e = elim (cases_Bool (nat_eq p o)) [
  | inl is ↦ inl (eqb-true p o is)
  | inr is ↦ inr (after_in o n (q ∷ rest) (rw is at e))
]

keeps_both : (places : List ℕ) (w n o : ℕ) (rest : List ℕ) → Keeps places (Goes w n) o rest → Keeps places (Has w) o rest × Keeps places (Follows w n) o rest
keeps_both places w n o [] keeps = keeps
keeps_both places w n o (s ∷ rest) keeps = let later = keeps_both places w n s rest keeps.1 in ((keeps.0.0, later.0), (keeps.0.1, later.1))

both_keep : (places : List ℕ) (w n o : ℕ) (rest : List ℕ) → Keeps places (Has w) o rest → Keeps places (Follows w n) o rest → Keeps places (Goes w n) o rest
both_keep places w n o [] has follows = (has, follows)
both_keep places w n o (s ∷ rest) has follows = ((has.0, follows.0), both_keep places w n s rest has.1 follows.1)

-- a way from the entry keeps a demand exactly where the route meets it
pub keeps_meets : (train : List Operation) (order places : List ℕ) (e : ℕ) (rest : List ℕ) (demand : Demand) → IsLaidOut train order places → IsEntry train e → GoesOn train e rest → Keeps places demand e rest ↔ Meets (e ∷ rest) demand
keeps_meets train order places e rest demand laid entry goes = by demand
  where
    there : (w : ℕ) → IsIn w (e ∷ rest) → w < length places
    there w at = omega (arith, each_within train e rest goes w at, laid.places_are.long)

    has : (w : ℕ) → Keeps places (Has w) e rest → IsIn w (e ∷ rest)
    has w keeps = keeps_has train order places w e rest laid goes keeps (entry_last train order places e w laid entry (omega (arith, wanted e rest keeps, laid.places_are.long)))
      where
        wanted : (o : ℕ) (rest : List ℕ) → Keeps places (Has w) o rest → w < length places
        wanted o [] keeps = keeps.there
        wanted o (s ∷ rest) keeps = keeps.0.there

    by : (demand : Demand) → Keeps places demand e rest ↔ Meets (e ∷ rest) demand
    by (Has w) = (λ keeps. contains_in w (e ∷ rest) (has w keeps), λ met. let at = is_in w (e ∷ rest) met in has_keeps train order places w e rest laid goes (there w at) (inl at))
    by (Lacks w) = (λ keeps at. keeps_lacks places w e rest keeps (is_in w (e ∷ rest) at), λ met. lacks_keeps places w e rest (λ at. met (contains_in w (e ∷ rest) at)))
    by (Goes w n) = (
      λ keeps. let both = keeps_both places w n e rest keeps in keeps_follows places w n e rest both.1 (has w both.0),
      λ met. let at = after_in w n (e ∷ rest) met in both_keep places w n e rest (has_keeps train order places w e rest laid goes (there w at) (inl at)) (follows_keeps train places w n e rest laid.acyclic goes (λ on. met)),
    )
    by (Follows w n) = (λ keeps at. keeps_follows places w n e rest keeps (is_in w (e ∷ rest) at), λ met. follows_keeps train places w n e rest laid.acyclic goes (λ at. met (contains_in w (e ∷ rest) at)))

-- ---- all demands

pub way_goes : (train : List Operation) (places : List ℕ) (demands : List Demand) (o : ℕ) (rest : List ℕ) → IsWay train places demands o rest → GoesOn train o rest
way_goes train places demands o [] way = way.0
way_goes train places demands o (s ∷ rest) way = (way.0, way_goes train places demands s rest way.2)

pub way_keeps : (train : List Operation) (places : List ℕ) (demands : List Demand) (o : ℕ) (rest : List ℕ) → IsWay train places demands o rest → All (λ demand. Keeps places demand o rest) demands
way_keeps train places demands o [] way k d lt = way.1 k d lt
way_keeps train places demands o (s ∷ rest) way k d lt = (way.1 k d lt, way_keeps train places demands s rest way.2 k d lt)

pub keeps_way : (train : List Operation) (places : List ℕ) (demands : List Demand) (o : ℕ) (rest : List ℕ) → GoesOn train o rest → All (λ demand. Keeps places demand o rest) demands → IsWay train places demands o rest
keeps_way train places demands o [] goes keeps = (goes, λ k d lt. keeps k d lt)
keeps_way train places demands o (s ∷ rest) goes keeps = (goes.0, λ k d lt. (keeps k d lt).0, keeps_way train places demands s rest goes.1 (λ k d lt. (keeps k d lt).1))

-- ---- allowed routes

pub record IsAsked (node : Node) (t : ℕ) (order places : List ℕ) (demands : List Demand) (e : ℕ) : Type 0 where
  pub laid : IsLaidOut (train_at node.problem t) order places
  pub demands_are : AreDemands t node.fixings node.decisions demands
  pub entry : IsEntry (train_at node.problem t) e

pub allowed_is_way : (node : Node) (t : ℕ) (order places : List ℕ) (demands : List Demand) (e : ℕ) (route : List ℕ) → IsAsked node t order places demands e → IsAllowed node t route
    → (rest : List ℕ) × (route ≡ e ∷ rest) × IsWay (train_at node.problem t) places demands e rest
allowed_is_way node t order places demands e [] is allowed = absurd allowed.is_route
allowed_is_way node t order places demands e (p ∷ rest) is allowed = (rest, ap (λ (x : ℕ). x ∷ rest) same, subst (λ (x : ℕ). IsWay (train_at node.problem t) places demands x rest) same way)
  where
    same : p ≡ e
    same = is.laid.acyclic.one_entry p e allowed.is_route.0 is.entry

    met : All (Meets (p ∷ rest)) demands
    met = (is.demands_are (p ∷ rest)).1 (allowed.fixings_agree, allowed.decisions_agree)

    way : IsWay (train_at node.problem t) places demands p rest
    way = keeps_way (train_at node.problem t) places demands p rest allowed.is_route.1
        (λ k d lt. (keeps_meets (train_at node.problem t) order places p rest (get_or demands k d) is.laid allowed.is_route.0 allowed.is_route.1).1 (met k d lt))

pub way_is_allowed : (node : Node) (t : ℕ) (order places : List ℕ) (demands : List Demand) (e : ℕ) (rest : List ℕ) → IsAsked node t order places demands e → IsWay (train_at node.problem t) places demands e rest → IsAllowed node t (e ∷ rest)
way_is_allowed node t order places demands e rest is way = record { is_route = (is.entry, goes); fixings_agree = agrees.0; decisions_agree = agrees.1 }
  where
    goes : GoesOn (train_at node.problem t) e rest
    goes = way_goes (train_at node.problem t) places demands e rest way

    keeps : All (λ demand. Keeps places demand e rest) demands
    keeps = way_keeps (train_at node.problem t) places demands e rest way

    agrees : All (AgreesWithFixing t (e ∷ rest)) node.fixings × All (AgreesWithDecision t (e ∷ rest)) node.decisions
    agrees = (is.demands_are (e ∷ rest)).0 (λ k d lt. (keeps_meets (train_at node.problem t) order places e rest (get_or demands k d) is.laid is.entry goes).0 (keeps k d lt))
