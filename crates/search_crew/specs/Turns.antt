-- What there is for a searcher to do.
use Rattle.std.specs.Prelude.{ℕ, List}
use Rattle.disp_model.specs.declared.entry.Entry.{Entry}
use Rattle.search_crew.specs.declared.turn.Turn.{Turn}
use Rattle.search_crew.specs.declared.turn.Turn.TheVariants as turn
use Rattle.search_crew.specs.Working.{IsAnswered}

abbrev pub IsCrewTurn : ℕ → List Entry → Turn → Type 0
IsCrewTurn edition seen (turn.Work work) = Unit {0}
IsCrewTurn edition seen (turn.Answer answer) = IsAnswered edition seen answer
IsCrewTurn edition seen turn.On = Unit {0}
