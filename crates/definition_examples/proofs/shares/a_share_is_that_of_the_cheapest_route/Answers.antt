use Rattle.definition_examples.proofs.BranchShares.{least_share, share_left, leaf_holds, not_more}
use Rattle.definition_examples.proofs.shares.a_share_is_that_of_the_cheapest_route.Goals as goal

pub returns-clause-least : goal.returns-clause-least
returns-clause-least c = least_share

pub returns-clause-left : goal.returns-clause-left
returns-clause-left c = share_left

pub returns-clause-holds : goal.returns-clause-holds
returns-clause-holds c = leaf_holds

pub returns-clause-too_much : goal.returns-clause-too_much
returns-clause-too_much c = not_more
