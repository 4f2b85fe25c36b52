use Rattle.definition_examples.proofs.JudgedHistories.{asked_is_legal, published_is_legal, outdated_is_legal, not_met, other_cost}
use Rattle.definition_examples.proofs.histories.a_plan_is_judged_by_the_newest_edition.Goals as goal

pub returns-clause-shown : goal.returns-clause-shown
returns-clause-shown c = asked_is_legal

pub returns-clause-published : goal.returns-clause-published
returns-clause-published c = published_is_legal

pub returns-clause-outdated : goal.returns-clause-outdated
returns-clause-outdated c = outdated_is_legal

pub returns-clause-not_met : goal.returns-clause-not_met
returns-clause-not_met c = not_met

pub returns-clause-other_cost : goal.returns-clause-other_cost
returns-clause-other_cost c = other_cost
