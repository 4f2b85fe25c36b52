use Rattle.definition_examples.proofs.WalkShares.{listed, alone}
use Rattle.definition_examples.proofs.shares.a_listed_walk_counts_in_a_share.Goals as goal

pub returns-clause-listed : goal.returns-clause-listed
returns-clause-listed c = listed

pub returns-clause-alone : goal.returns-clause-alone
returns-clause-alone c = alone
