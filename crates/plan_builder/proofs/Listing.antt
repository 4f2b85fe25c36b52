-- The operations of the trains' routes, in a list.
use Rattle.std.proofs.Common.{◌≡◌, ℕ, zero, suc, ◌+◌, ◌<◌, List, [], ◌∷◌, ◌++◌, length, get_or, take, drop, map, sym, ap, subst, ◌∙◌, arith, inl, inr, Contains}
use Rattle.std.specs.Prelude.{All, sum_by}
use Rattle.std.proofs.lemmas.List.{map-append, map_more, append_assoc, drop_more}
use Rattle.std.proofs.lemmas.List.Elements.{Contains-get_or}
use Rattle.disp_model.specs.declared.train.Op.{Op}
use Rattle.disp_model.specs.declared.train.Operation.{Operation}
use Rattle.disp_model.specs.declared.problem.Problem.{Problem}
use Rattle.disp_model.specs.Train.{IsRoute, GoesOn}
use Rattle.disp_model.specs.WellFormed.{IsAcyclic, operation_count}
use Rattle.disp_model.specs.Numbers.{number_of}
use Rattle.disp_model.specs.Valid.{train_at}
use Rattle.disp_model.specs.Earliest.{op_of}
use Rattle.disp_laws.proofs.Numbered.{below_count}
use Rattle.disp_laws.proofs.Paths.{IsIn, is_in, never_again}
use Rattle.disp_laws.proofs.RouteSearch.{each_within}
use Rattle.disp_laws.proofs.LongestArcs.{same_ops}
use Rattle.disp_laws.proofs.LongestWalks.{Among, Once, among_append_left, among_append_right}
use Rattle.disp_laws.proofs.Horizon.{among_cases, once_append}
use Rattle.incremental_paths.specs.Walks.{IsLongestLength}
use Rattle.incremental_paths.specs.Network.{Network}
use Rattle.plan_builder.specs.declared.stop.Stop.{Stop}
use Rattle.plan_builder.specs.Stops.{IsStop, op_on, ops_from}

-- ---- stops one after the other

pub ops_more : (old : List Op) (stops : List Stop) (s : Stop) (t : ℕ) (route : List ℕ) (i d : ℕ) → i < length route → map (λ s. op_of s.event) stops ≡ old ++ map (op_on t) (take i route)
    → op_of s.event ≡ op_on t (get_or route i d) → map (λ s. op_of s.event) (stops ++ s ∷ []) ≡ old ++ map (op_on t) (take (i + 1) route)
ops_more old stops s t route i d lt so_far own =
    rw (map_more (op_on t) route i d lt, ← own, ← append_assoc old (map (op_on t) (take i route)) (op_of s.event ∷ []), ← so_far) (map-append (λ (s : Stop). op_of s.event) stops (s ∷ []))

pub is_stop : (problem : Problem) (network : Network) (t first o : ℕ) (s : Stop) → sum_by (λ operations. length operations) (take t problem.trains) ≡ first → op_of s.event ≡ op_on t o → s.node ≡ first + o
    → first + o < length network.lowers → IsLongestLength network.lowers network.arcs s.node s.event.time → IsStop problem network s
is_stop problem network t first o s sum own node within longest = record {
  node = node ∙ sym (ap (λ (n : ℕ). n + o) sum) ∙ sym (ap (number_of problem) own);
  inside = omega (arith, node, within);
  longest = longest;
}

-- ---- the trains one after the other

pub route_inside : (train : List Operation) (route : List ℕ) → IsRoute train route → (o : ℕ) → Contains route o → o < length train
route_inside train [] is o there = absurd is
route_inside train (p ∷ rest) is o there = each_within train p rest is.1 o (is_in o (p ∷ rest) there)

pub route_numbers : (problem : Problem) (t : ℕ) (route : List ℕ) → t < length problem.trains → IsRoute (train_at problem t) route → All (λ o. sum_by (λ operations. length operations) (take t problem.trains) + o < operation_count problem.trains) route
route_numbers problem t route lt is k d within =
    below_count problem (op_on t (get_or route k d)) lt (route_inside (train_at problem t) route is (get_or route k d) (Contains-get_or route k d within))

pub ops_step : (routes : List (List ℕ)) (t : ℕ) (old new whole : List Op) → t < length routes → new ≡ old ++ map (op_on t) (get_or routes t []) → old ++ ops_from t (drop t routes) ≡ whole → new ++ ops_from (t + 1) (drop (t + 1) routes) ≡ whole
ops_step routes t old new whole lt added so_far =
    let next : drop t routes ≡ get_or routes t [] ∷ drop (t + 1) routes = drop_more routes t [] lt in
    rw (added, append_assoc old (map (op_on t) (get_or routes t [])) (ops_from (t + 1) (drop (t + 1) routes))) (subst (λ (l : List (List ℕ)). old ++ ops_from t l ≡ whole) next so_far)

-- ---- which operations they are

route_among : (t : ℕ) (route : List ℕ) (o : Op) → Among o (map (op_on t) route) → (o.train ≡ t) × IsIn o.op route
route_among t [] o there = absurd there
route_among t (p ∷ route) o (inl same) = (sym (ap (λ (x : Op). x.train) same), inl (ap (λ (x : Op). x.op) same))
route_among t (p ∷ route) o (inr there) = let later = route_among t route o there in (later.0, inr later.1)

among_route : (t : ℕ) (route : List ℕ) (o : Op) → o.train ≡ t → IsIn o.op route → Among o (map (op_on t) route)
among_route t [] o train there = absurd there
among_route t (p ∷ route) o train (inl same) = inl (same_ops (op_on t p) o (sym train) same)
among_route t (p ∷ route) o train (inr there) = inr (among_route t route o train there)

-- a train of a route, and the operation on it
abbrev pub StandsOn : ℕ → List (List ℕ) → Op → Type 0
StandsOn t routes o = (k : ℕ) × (k < length routes) × (o.train ≡ t + k) × IsIn o.op (get_or routes k [])

pub ops_among : (t : ℕ) (routes : List (List ℕ)) (o : Op) → Among o (ops_from t routes) → StandsOn t routes o
ops_among t [] o there = absurd there
ops_among t (route ∷ routes) o there = elim (among_cases o (map (op_on t) route) (ops_from (t + 1) routes) there) [
  | inl h ↦ (let own = route_among t route o h in (0, omega arith, omega (arith, own.0), own.1))
  | inr h ↦ (let later = ops_among (t + 1) routes o h in (suc later.0, omega (arith, later.1), omega (arith, later.2), later.3))
]

pub among_ops : (t : ℕ) (routes : List (List ℕ)) (o : Op) → StandsOn t routes o → Among o (ops_from t routes)
among_ops t [] o (k, lt, train, there) = absurd (omega (arith, lt))
among_ops t (route ∷ routes) o (zero, lt, train, there) =
    among_append_left o (map (op_on t) route) (ops_from (t + 1) routes) (among_route t route o (omega (arith, train)) there)
among_ops t (route ∷ routes) o (suc k, lt, train, there) =
    among_append_right o (map (op_on t) route) (ops_from (t + 1) routes) (among_ops (t + 1) routes o (k, omega (arith, lt), omega (arith, train), there))

-- ---- none twice

goes_once : (train : List Operation) (t o : ℕ) (rest : List ℕ) → IsAcyclic train → GoesOn train o rest → Once (map (op_on t) (o ∷ rest))
goes_once train t o [] acyclic goes = ((λ there. there), tt)
goes_once train t o (s ∷ rest) acyclic goes =
    ((λ there. never_again train o (s ∷ rest) acyclic goes (route_among t (s ∷ rest) (op_on t o) there).1), goes_once train t s rest acyclic goes.1)

pub route_once : (train : List Operation) (t : ℕ) (route : List ℕ) → IsAcyclic train → IsRoute train route → Once (map (op_on t) route)
route_once train t [] acyclic is = absurd is
route_once train t (o ∷ rest) acyclic is = goes_once train t o rest acyclic is.1

pub ops_once : (t : ℕ) (routes : List (List ℕ)) → ((k u : ℕ) → k < length routes → Once (map (op_on u) (get_or routes k []))) → Once (ops_from t routes)
ops_once t [] each = tt
ops_once t (route ∷ routes) each =
    once_append (map (op_on t) route) (ops_from (t + 1) routes) (each 0 t (omega arith)) (ops_once (t + 1) routes (λ k u lt. each (suc k) u (omega (arith, lt))))
    (λ o here there. let own = route_among t route o here in let later = ops_among (t + 1) routes o there in omega (arith, own.0, later.2))
