use Rattle.disp_laws.proofs.Numbered.{below_count, numbers_apart, each_number}
use Rattle.disp_laws.proofs.laws.operations_are_numbered.Goals as goal

pub returns : goal.returns
returns c = record { below = below_count; apart = numbers_apart; each = each_number }
