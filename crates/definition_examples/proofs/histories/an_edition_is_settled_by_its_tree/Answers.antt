use Rattle.definition_examples.proofs.SettledHistory.{settled_is_legal, settled_with_18}
use Rattle.definition_examples.proofs.histories.an_edition_is_settled_by_its_tree.Goals as goal

pub returns-clause-legal : goal.returns-clause-legal
returns-clause-legal c = settled_is_legal

pub returns-clause-not_met : goal.returns-clause-not_met
returns-clause-not_met c = settled_with_18
