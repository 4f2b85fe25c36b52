use Rattle.board_tests.proofs.Places.{asked_place}
use Rattle.board_tests.proofs.tests.ask.Goals as goal

pub returns-in-Ok-Asked-Accepted-clause-one : goal.returns-in-Ok-Asked-Accepted-clause-one
returns-in-Ok-Asked-Accepted-clause-one g c = asked_place _ _ _ _ _ _ _ c.in-Ok-Asked-Accepted.ensures.asked.0 c.in-Ok-Asked-Accepted.field-0-is
