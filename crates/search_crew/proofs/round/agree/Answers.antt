use Rattle.search_crew.proofs.round.agree.Goals as goal

pub returns-in-Some-clause-ground : goal.returns-in-Some-clause-ground
returns-in-Some-clause-ground c = λ problem fixings is. c.follow_other.ensures problem fixings (c.note_cost.ensures problem fixings is)
