-- The plans of the examples.
use Rattle.std.specs.Prelude.{ℕ, List, [], ◌∷◌}
use Rattle.disp_model.specs.declared.plan.Event.{Event}

-- the event that starts an operation of a train at a time
abbrev pub event : ℕ → ℕ → ℕ → Event
event t o time = record { time = time; train = t; operation = o }

-- the second train first: B0 at 0, B1 at 4, A0 at 4, A1 at 14
abbrev pub second_first : List Event
second_first = event 1 0 0 ∷ event 1 1 4 ∷ event 0 0 4 ∷ event 0 1 14 ∷ []

-- the same events, with A0 listed before B1, at the same time
abbrev pub listed_too_early : List Event
listed_too_early = event 1 0 0 ∷ event 0 0 4 ∷ event 1 1 4 ∷ event 0 1 14 ∷ []

-- the first train first: A0 at 0, A1 at 10, B0 at 10, B1 at 14
abbrev pub first_first : List Event
first_first = event 0 0 0 ∷ event 0 1 10 ∷ event 1 0 10 ∷ event 1 1 14 ∷ []

-- both trains swap their resources at 5
abbrev pub swap_at_once : List Event
swap_at_once = event 0 0 0 ∷ event 1 0 0 ∷ event 0 1 5 ∷ event 1 1 5 ∷ []

-- each train by itself, as early as it can: A0 and B0 at 0, B1 at 4, A1 at 10
abbrev pub each_alone : List Event
each_alone = event 0 0 0 ∷ event 1 0 0 ∷ event 1 1 4 ∷ event 0 1 10 ∷ []
