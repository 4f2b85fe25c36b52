-- The stops of the trains along their routes, and the order in which they come (private clauses).
use Rattle.std.specs.Prelude.{◌≡◌, ℕ, ◌+◌, ◌<◌, ◌≤◌, ◌==◌, Bool, true, List, [], ◌∷◌, ◌++◌, length, map, sum_by, All, AllPairs, Contains, if◌then◌else◌}
use Rattle.disp_model.specs.declared.train.Op.{Op}
use Rattle.disp_model.specs.declared.problem.Problem.{Problem}
use Rattle.disp_model.specs.Numbers.{number_of}
use Rattle.disp_model.specs.Earliest.{op_of, ComesBefore}
use Rattle.incremental_paths.specs.declared.arc.Arc.{Arc}
use Rattle.incremental_paths.specs.Walks.{JoinsPair, IsLongestLength}
use Rattle.incremental_paths.specs.Ordered.{is_marked}
use Rattle.incremental_paths.specs.Network.{Network}
use Rattle.plan_builder.specs.declared.stop.Stop.{Stop}

-- ---- the stops

-- an operation of train t
abbrev pub op_on : ℕ → ℕ → Op
op_on t o = record { train = t; op = o }

-- the operations of the routes of the trains from t on
abbrev pub ops_from : ℕ → List (List ℕ) → List Op
ops_from t [] = []
ops_from t (route ∷ routes) = map (op_on t) route ++ ops_from (t + 1) routes

-- a stop at its operation's node, at that node's length
pub record IsStop (problem : Problem) (network : Network) (s : Stop) : Type 0 where
  pub node : s.node ≡ number_of problem (op_of s.event)
  pub inside : s.node < length network.lowers
  pub longest : IsLongestLength network.lowers network.arcs s.node s.event.time

-- how many of the stops are at a node
abbrev pub stops_at : ℕ → List Stop → ℕ
stops_at k stops = sum_by (λ s. if s.node == k then 1 else 0) stops

-- no two stops are at one node
abbrev pub AreOnce : List Stop → Type 0
AreOnce stops = (k : ℕ) → stops_at k stops ≤ 1

-- ---- their order

-- marked are the nodes of these stops
pub record AreMarkedNodes (stops : List Stop) (marks : List Bool) : Type 0 where
  pub each : (s : Stop) → Contains stops s → is_marked marks s.node ≡ true
  pub only : (k : ℕ) → is_marked marks k ≡ true → (s : Stop) × Contains stops s × (s.node ≡ k)

-- an arc leads to the stop from one of these
abbrev pub IsBlocked : List Arc → List Stop → Stop → Type 0
IsBlocked arcs rest s =
    (other : Stop) × Contains rest other × JoinsPair arcs other.node s.node

-- of those to which no arc leads from one of the rest, none comes before the stop, and it is one
pub record IsFirstFree (arcs : List Arc) (rest : List Stop) (s : Stop) : Type 0 where
  pub free : IsBlocked arcs rest s → ⊥
  pub first : (other : Stop) → Contains rest other → (IsBlocked arcs rest other → ⊥)
      → ComesBefore other.event s.event → ⊥

-- each is the first free one of those from it on, which end with the rest
abbrev pub AreStopsArranged : List Arc → List Stop → List Stop → Type 0
AreStopsArranged arcs [] rest = Unit {0}
AreStopsArranged arcs (s ∷ plan) rest =
    IsFirstFree arcs (s ∷ plan ++ rest) s × AreStopsArranged arcs plan rest

-- stops that are left, in falling order, and the marks on their nodes
pub record AreStopsLeft (network : Network) (rest : List Stop) (marks : List Bool) : Type 0 where
  pub nodes : All (λ s. s.node < length network.lowers) rest
  pub once : AreOnce rest
  pub falling : AllPairs (λ s t. ComesBefore s.event t.event → ⊥) rest
  pub size : length marks ≡ length network.lowers
  pub waiting : AreMarkedNodes rest marks
