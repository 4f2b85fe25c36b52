use Rattle.disp_laws.proofs.OpenChoices.{open_is_choice, open_is_undecided}
use Rattle.disp_laws.proofs.laws.open_choices_are_free.Goals as goal

pub returns : goal.returns
returns c = record { allowed = open_is_choice; undecided = open_is_undecided }
