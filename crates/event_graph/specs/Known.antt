-- Routes that were made before, each with what was fixed and decided of its train then.
use Rattle.std.specs.Prelude.{◌≡◌, ◌<◌, ℕ, List, [], ◌∷◌, ◌++◌, All, IfSome, Option, length, slice_index_or}
use Rattle.disp_model.specs.declared.problem.Problem.{Problem}
use Rattle.disp_model.specs.declared.decision.Decision.{Decision}
use Rattle.disp_model.specs.Node.{node_at}
use Rattle.route_sets.specs.Sets.{AreRoutesOf}
use Rattle.event_arcs.specs.declared.owns.Own.{Own}
use Rattle.event_arcs.specs.declared.placed.Placed.{Placed}
use Rattle.event_graph.specs.declared.known.Known.{Known}
use Rattle.event_graph.specs.declared.known.KnownRoutes.{KnownRoutes}
use Rattle.event_graph.specs.States.{GraphState}

-- they are those that the train's own fixings and decisions allow
abbrev pub AreOwnRoutes : Problem → Known → Type 0
AreOwnRoutes problem known = AreRoutesOf (node_at problem known.own.fixings known.own.decisions)
    known.train known.routes

abbrev pub KeepsOwnRoutes : Problem → KnownRoutes → Type 0
KeepsOwnRoutes problem known = All (λ slot. IfSome slot (AreOwnRoutes problem)) known.slots.items

-- they were made for a train with one decision more
pub record IsFor (t : ℕ) (own : Own) (d : Decision) (known : Known) : Type 0 where
  pub train_is : known.train ≡ t
  pub own_is : known.own
      ≡ record { fixings = own.fixings; decisions = own.decisions ++ d ∷ [] }

-- what stands at a place was made for it
pub record IsPlaceFor (t : ℕ) (own : Own) (d : Decision) (slots : List (Option Known)) (place : ℕ)
    : Type 0 where
  pub within : place < length slots
  pub made : (slot : Option Known) → slot ≡ slice_index_or slots place slot
      → IfSome slot (IsFor t own d)

-- each train's routes are those that its own fixings and decisions allow
abbrev pub AreByOwn : Problem → GraphState → Type 0
AreByOwn problem state = (t : ℕ) (own : Own) (placed : Placed) → t < length state.owns
    → t < length state.each → own ≡ slice_index_or state.owns t own
    → placed ≡ slice_index_or state.each t placed
    → AreRoutesOf (node_at problem own.fixings own.decisions) t placed.routes
