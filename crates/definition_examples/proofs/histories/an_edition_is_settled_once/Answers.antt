use Rattle.definition_examples.proofs.SettledHistory.{not_again}
use Rattle.definition_examples.proofs.histories.an_edition_is_settled_once.Goals as goal

pub returns : goal.returns
returns c = not_again
