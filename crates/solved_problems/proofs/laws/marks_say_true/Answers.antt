use Rattle.solved_problems.proofs.Marks.{marks_say}
use Rattle.solved_problems.proofs.laws.marks_say_true.Goals as goal

pub returns : goal.returns
returns c = marks_say
