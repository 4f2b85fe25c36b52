use Rattle.disp_laws.proofs.Bounds.{each_bound_holds, free_is_no_less}
use Rattle.disp_laws.proofs.laws.bound_holds.Goals as goal

pub returns : goal.returns
returns c = record { costs = each_bound_holds; free = free_is_no_less }
