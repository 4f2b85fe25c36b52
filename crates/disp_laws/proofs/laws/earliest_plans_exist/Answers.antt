use Rattle.disp_laws.proofs.EarliestExists.{earliest_exists}
use Rattle.disp_laws.proofs.laws.earliest_plans_exist.Goals as goal

pub returns : goal.returns
returns c = earliest_exists
