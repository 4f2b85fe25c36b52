use Rattle.definition_examples.proofs.JudgedTrees.{late_walk, dead_late}
use Rattle.definition_examples.proofs.dead_ends.a_fixed_start_can_be_too_early.Goals as goal

pub returns-clause-walk : goal.returns-clause-walk
returns-clause-walk c = late_walk

pub returns-clause-dead : goal.returns-clause-dead
returns-clause-dead c = dead_late
