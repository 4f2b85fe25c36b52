use Rattle.definition_examples.proofs.StoppedHistory.{stopped_is_legal, stopped_with_14}
use Rattle.definition_examples.proofs.histories.an_edition_is_stopped_with_its_bound.Goals as goal

pub returns-clause-legal : goal.returns-clause-legal
returns-clause-legal c = stopped_is_legal

pub returns-clause-only : goal.returns-clause-only
returns-clause-only c = stopped_with_14
