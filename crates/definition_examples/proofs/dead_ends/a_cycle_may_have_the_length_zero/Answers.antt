use Rattle.definition_examples.proofs.Swapped.{a_to_b, b_to_a, cycle, dead}
use Rattle.definition_examples.proofs.dead_ends.a_cycle_may_have_the_length_zero.Goals as goal

pub returns-clause-to : goal.returns-clause-to
returns-clause-to c = a_to_b

pub returns-clause-back : goal.returns-clause-back
returns-clause-back c = b_to_a

pub returns-clause-cycle : goal.returns-clause-cycle
returns-clause-cycle c = cycle

pub returns-clause-dead : goal.returns-clause-dead
returns-clause-dead c = dead
