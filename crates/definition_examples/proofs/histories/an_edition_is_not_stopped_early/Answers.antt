use Rattle.definition_examples.proofs.JudgedHistories.{unspent, invented}
use Rattle.definition_examples.proofs.histories.an_edition_is_not_stopped_early.Goals as goal

pub returns-clause-unspent : goal.returns-clause-unspent
returns-clause-unspent c = unspent

pub returns-clause-invented : goal.returns-clause-invented
returns-clause-invented c = invented
