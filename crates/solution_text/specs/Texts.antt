-- The texts that the program writes.
use Rattle.std.specs.Prelude.{ℕ, List, [], ◌∷◌, ◌++◌, codes}
use Rattle.std.specs.List.{flat_map}
use Rattle.std.specs.Fmt.{decimal}
use Rattle.disp_model.specs.declared.plan.Event.{Event}

-- an event in a solution (format: keys in order, compact)
abbrev pub event_text : Event → List ℕ
event_text e =
    codes "{\"operation\":" ++ decimal e.operation ++ codes ",\"time\":" ++ decimal e.time
    ++ codes ",\"train\":" ++ decimal e.train ++ codes "}"

-- an event behind another one
abbrev pub next_event_text : Event → List ℕ
next_event_text e = codes "," ++ event_text e

-- the events in order, with a comma between each two
abbrev pub events_text : List Event → List ℕ
events_text [] = []
events_text (e ∷ plan) = event_text e ++ flat_map next_event_text plan

-- a solution: the events in order, and the cost (format)
abbrev pub solution_text : List Event → ℕ → List ℕ
solution_text plan cost = codes "{\"events\":[" ++ events_text plan
    ++ codes "],\"objective_value\":" ++ decimal cost ++ codes "}"
